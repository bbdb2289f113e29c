-- Each step of a run gives a plain reply, and keeps its names of one line.
use Rattle.std.proofs.Common.{ℕ, zero, suc, ◌≡◌, ◌≤◌, ◌<◌, ◌+◌, ◌^◌, List, [], ◌∷◌, ◌++◌, length, map, drop, take, set}
use Rattle.std.proofs.Common.{MatchOption, MatchResult, Bool, true, false, cond, Option, Some, None, Result, Ok, Err}
use Rattle.std.proofs.Common.{refl, sym, subst, arith}
use Rattle.std.specs.Fmt.{decimal}
use Rattle.std.specs.List.{AllByRecursion}
use Rattle.std.specs.Str.{bytes_eq}
use Rattle.row_values.specs.Names.{canonical_name}
use Rattle.row_values.specs.Refusals as refused
use Rattle.row_values.specs.Statements.{Statement, kinds_of}
use Rattle.row_values.specs.declared.refusals.Refusal.{Refusal}
use Rattle.row_values.specs.declared.values.Value.{Value}
use Rattle.sql_parser.specs.Statement.{Parts}
use Rattle.statement_meaning.specs.Meaning.{meaning_of}
use Rattle.statement_meaning.specs.Spelling.{row_line}
use Rattle.cache_model.specs.Caches.{anchors_of, empty_cache, top_numbered, without}
use Rattle.cache_model.proofs.Lists.{each_push}
use Rattle.script_report.specs.Commands.{Reading, Silent, Says, Bad}
use Rattle.script_report.specs.declared.commands.Command.{Command}
use Rattle.script_report.specs.declared.commands.Command.TheVariants.{Load, Index, Prepare, Run, Cursor, Fetch, Close}
use Rattle.script_report.specs.declared.commands.Command.TheVariants.{Evict, Show}
use Rattle.script_report.specs.declared.replies.Reply.{Reply}
use Rattle.script_report.specs.declared.replies.Reply.TheVariants as reply
use Rattle.catalog_model.specs.Catalogs.{StatementState, number_of, with_index, with_statement, with_version}
use Rattle.catalog_model.specs.Held.{holding_refusal, versions_of}
use Rattle.catalog_model.specs.Indexing.{indexing_of}
use Rattle.catalog_model.specs.Instances.{Instance, instance_of}
use Rattle.catalog_model.specs.Loading.{loading_of}
use Rattle.catalog_model.specs.Preparing.{preparing_of}
use Rattle.catalog_model.proofs.Measures.{statement_found}
use Rattle.session_model.specs.Executions.{rows_refusal}
use Rattle.session_model.specs.Session.{IsSession}
use Rattle.session_model.specs.State.{CursorState, State, cache_at, cleared_for, closed_from, cursor_named}
use Rattle.session_model.specs.State.{fetched_from, held_versions, holds_of}
use Rattle.session_model.specs.Step.{CloseStep, Closes, CommandStep, CursorStep, EvictFrom, EvictStep, Evicts}
use Rattle.session_model.specs.Step.{ExecutionStep, Executes, FetchStep, Fetches, IndexStep, Indexes, InstanceStep}
use Rattle.session_model.specs.Step.{LoadStep, Loads, OpenInstanceStep, OpenStep, Opens, PrepareStep, Prepares, Refuses}
use Rattle.session_model.specs.Step.{RunStep, ShowStep, Shows, Step, anchor_shown, plan_shown, present_tables}
use Rattle.reported_items.specs.Reported.{AreRows}
use Rattle.reported_items.proofs.KeptNames.{AreKeptNames, execution_plain, shown_plain, there_has}
use Rattle.reported_items.proofs.LineCommands.{IsName, NamesLines, ReadsLines, line_name}
use Rattle.reported_items.proofs.LineNames.{canonical_line}
use Rattle.reported_items.proofs.LineParts.{IsLined}
use Rattle.reported_items.proofs.LineRefusals.{IfThere, plain_refusal}
use Rattle.reported_items.proofs.LineRows.{rows_lines}
use Rattle.reported_items.proofs.Pieces.{decimal_one_line}
use Rattle.reported_items.proofs.PlainOutcomes.{HasPlaceLines, holding_plain, indexing_outcome, instance_outcome}
use Rattle.reported_items.proofs.PlainOutcomes.{loading_outcome, preparing_outcome, rows_plain}
use Rattle.reported_items.proofs.PlainReplies.{IsPlainRefusal, IsPlainReply}
use Rattle.reported_items.proofs.PlainTables.{indexed_lines, loaded_lines}

-- the reply is plain, the names are kept, and there was one execution at most
pub record IsPlainStep (old : State) (answer : Reply) (new : State) : Type 0 where
  pub plain : IsPlainReply answer
  pub kept : AreKeptNames new
  pub count : new.executions ≤ old.executions + 1

-- a step with this reply to this state
reaches : (old new state : State) (answer told : Reply) → answer ≡ told → new ≡ state → IsPlainReply told
    → AreKeptNames state → state.executions ≤ old.executions + 1 → IsPlainStep old answer new
reaches old new state answer told says is plain kept count = record {
  plain = subst IsPlainReply (sym says) plain;
  kept = subst AreKeptNames (sym is) kept;
  count = subst (λ (s : State). s.executions ≤ old.executions + 1) (sym is) count;
}

turned_down : (why : Refusal) (old new : State) (answer : Reply) → IsPlainRefusal why → AreKeptNames old
    → Refuses why old answer new → IsPlainStep old answer new
turned_down why old new answer plain kept r =
    reaches old new old answer (reply.Refused why) r.says r.unchanged plain kept (omega arith)

-- by which outcome a line was answered
by_result : {A : Type 0} (R : Type 0) (r : Result A Refusal) (P : A → Type 0) (Q : Refusal → Type 0) → MatchResult r P Q
    → ((a : A) → r ≡ Ok a → P a → R) → ((why : Refusal) → r ≡ Err why → Q why → R) → R
by_result R (Ok a) P Q m ok err = ok a refl m
by_result R (Err why) P Q m ok err = err why refl m

by_none : {A : Type 0} (R : Type 0) (o : Option A) (P : Type 0) (Q : A → Type 0) → MatchOption o P Q → (P → R)
    → ((a : A) → o ≡ Some a → Q a → R) → R
by_none R None P Q m none some = none m
by_none R (Some a) P Q m none some = some a refl m

-- Tables.

load_step : (old new : State) (name : List ℕ) (file : Option (List ℕ)) (answer : Reply) → IsName name
    → AreKeptNames old → LoadStep old name file answer new → IsPlainStep old answer new
load_step old new name None answer is kept step =
    turned_down refused.missing_file old new answer (plain_refusal _ [] refl refl) kept step
load_step old new name (Some bytes) answer is kept step =
    let outcome = loading_outcome (held_versions old.cursors) old.catalog name bytes is.line in
    by_result (IsPlainStep old answer new) (loading_of (held_versions old.cursors) old.catalog name bytes)
    (λ version. Loads old name version answer new) (λ why. Refuses why old answer new) step
    (λ version e l. reaches old new (record old {
      catalog = with_version old.catalog name version;
      caches = cleared_for name old.catalog.statements old.caches;
    }) answer (reply.Loaded name (length version.content.rows) (length version.content.schema)) l.says l.keeps
    (line_name name is)
    (record {
      tables = loaded_lines old.catalog.tables name version (outcome.ok version e) kept.tables;
      statements = kept.statements;
      cursors = kept.cursors;
    })
    (omega arith))
    (λ why e r. turned_down why old new answer (outcome.err why e) kept r)

index_step : (old new : State) (table column : List ℕ) (answer : Reply) → IsName table → IsName column
    → AreKeptNames old → IndexStep old table column answer new → IsPlainStep old answer new
index_step old new table column answer is also kept step =
    let outcome = indexing_outcome old.catalog table column is.line also.line in
    by_result (IsPlainStep old answer new) (indexing_of old.catalog table column)
    (λ number. Indexes old table column number answer new) (λ why. Refuses why old answer new) step
    (λ number e i. reaches old new (record old {
      catalog = with_index old.catalog table number;
      caches = cleared_for table old.catalog.statements old.caches;
    }) answer (reply.Indexed table column) i.says i.keeps (line_name table is, line_name column also)
    (record {
      tables = indexed_lines old.catalog.tables table number (outcome.ok number e) kept.tables;
      statements = kept.statements;
      cursors = kept.cursors;
    })
    (omega arith))
    (λ why e r. turned_down why old new answer (outcome.err why e) kept r)

-- Statements.

prepare_step : (old new : State) (name : List ℕ) (select : Parts) (answer : Reply) → IsName name → IsLined select
    → AreKeptNames old → PrepareStep old name select answer new → IsPlainStep old answer new
prepare_step old new name select answer is lined kept step =
    let outcome = preparing_outcome old.catalog name select is.line lined in
    by_result (IsPlainStep old answer new) (preparing_of old.catalog name select)
    (λ q. Prepares old name q answer new) (λ why. Refuses why old answer new) step
    (λ q e p. reaches old new (record old {
      catalog = with_statement old.catalog name q;
      caches = old.caches ++ empty_cache ∷ [];
    }) answer (reply.Prepared name (length q.places) (length q.preds) (length (kinds_of q.places q.preds))) p.says
    p.keeps (line_name name is)
    (record {
      tables = kept.tables;
      statements = each_push (λ (prepared : StatementState). HasPlaceLines prepared.statement) old.catalog.statements
          (record { name = name; statement = q }) kept.statements (outcome.ok q e);
      cursors = kept.cursors;
    })
    (omega arith))
    (λ why e r. turned_down why old new answer (outcome.err why e) kept r)

-- Executions.

-- what an execution leaves
after_execution : (old new : State) (name : List ℕ) (q : Statement) (args : List Value) → AreKeptNames old
    → ExecutionStep old name q args new → AreKeptNames new
after_execution old new name q args kept step =
    subst AreKeptNames (sym step.keeps)
    (record { tables = kept.tables; statements = kept.statements; cursors = kept.cursors })

executed : (old new : State) (name : List ℕ) (args : List Value) (instance : Instance) (answer : Reply) → IsName name
    → IsSession old → AreKeptNames old → old.executions + 1 < 2 ^ 63
    → instance_of old.catalog name args ≡ Ok instance
    → Executes old name instance.statement instance.args answer new → IsPlainStep old answer new
executed old new name args instance answer is session kept few e x =
    let q : Statement = instance.statement in
    reaches old new (record old { caches = set old.caches x.step.number x.step.cache; executions = old.executions + 1 })
    answer (reply.Ran x.step.execution (map row_line (meaning_of q (present_tables old q) instance.args))) x.says
    x.step.keeps (
      execution_plain old new name q instance.args is session kept few
          (statement_found old.catalog name args instance e).0 x.step,
      rows_lines (meaning_of q (present_tables old q) instance.args),
    )
    (record { tables = kept.tables; statements = kept.statements; cursors = kept.cursors })
    (omega arith)

run_step : (old new : State) (name : List ℕ) (args : List Value) (answer : Reply) → IsName name → IsSession old
    → AreKeptNames old → old.executions + 1 < 2 ^ 63 → RunStep old name args answer new → IsPlainStep old answer new
run_step old new name args answer is session kept few step =
    let outcome = instance_outcome old.catalog name args is.line kept.statements in
    by_result (IsPlainStep old answer new) (instance_of old.catalog name args)
    (λ instance. InstanceStep old name instance.statement instance.args answer new)
    (λ why. Refuses why old answer new) step
    (λ instance e s. by_none (IsPlainStep old answer new)
    (rows_refusal (length (meaning_of instance.statement (present_tables old instance.statement) instance.args)))
    (Executes old name instance.statement instance.args answer new)
    (λ why. Refuses why old answer new) s
    (λ x. executed old new name args instance answer is session kept few e x)
    (λ why there r. turned_down why old new answer (there_has IsPlainRefusal _ why (rows_plain _) there) kept r))
    (λ why e r. turned_down why old new answer (outcome.err why e) kept r)

-- Plans.

evict_step : (old new : State) (name : List ℕ) (plan : ℕ) (answer : Reply) → IsName name → AreKeptNames old
    → EvictStep old name plan answer new → IsPlainStep old answer new
evict_step old new name plan answer is kept step =
    by_none (IsPlainStep old answer new) (number_of old.catalog.statements name)
    (Refuses (refused.unknown_statement (canonical_name name)) old answer new)
    (λ number. EvictFrom old name plan number answer new) step
    (λ r. turned_down _ old new answer (plain_refusal _ (canonical_name name) (canonical_line name is.line) refl)
    kept r)
    (λ number at from. by_none (IsPlainStep old answer new) (top_numbered (cache_at old.caches number).plans plan)
    (Refuses (refused.unknown_plan plan) old answer new) (λ top. Evicts old name number plan answer new) from
    (λ r. turned_down _ old new answer (plain_refusal _ (decimal plan) (decimal_one_line plan) refl) kept r)
    (λ top there e. reaches old new
    (record old { caches = set old.caches number (without (cache_at old.caches number) plan) }) answer
    (reply.Evicted name plan (length (anchors_of (cache_at old.caches number).anchors plan))) e.says e.drops
    (line_name name is)
    (record { tables = kept.tables; statements = kept.statements; cursors = kept.cursors })
    (omega arith)))

show_step : (old new : State) (name : List ℕ) (answer : Reply) → IsName name → IsSession old → AreKeptNames old
    → ShowStep old name answer new → IsPlainStep old answer new
show_step old new name answer is session kept step =
    by_none (IsPlainStep old answer new) (number_of old.catalog.statements name)
    (Refuses (refused.unknown_statement (canonical_name name)) old answer new)
    (λ number. Shows old name number answer new) step
    (λ r. turned_down _ old new answer (plain_refusal _ (canonical_name name) (canonical_line name is.line) refl)
    kept r)
    (λ number at s. reaches old new old answer (reply.Shown name
    (map (plan_shown s.statement (cache_at old.caches number).anchors) (cache_at old.caches number).plans)
    (map anchor_shown (cache_at old.caches number).anchors)) s.says s.unchanged
    (line_name name is, shown_plain old name s.statement number session kept at s.prepared) kept (omega arith))

-- Cursors.

-- a cursor's waiting rows
abbrev HasRows : CursorState → Type 0
HasRows cursor = AreRows cursor.lines

opened : (old new : State) (cursor name : List ℕ) (args : List Value) (instance : Instance) (answer : Reply)
    → IsName cursor → IsName name → IsSession old → AreKeptNames old → old.executions + 1 < 2 ^ 63
    → instance_of old.catalog name args ≡ Ok instance
    → Opens old cursor name instance.statement instance.args answer new → IsPlainStep old answer new
opened old new cursor name args instance answer is also session kept few e o =
    let q : Statement = instance.statement in
    let added : CursorState = record {
      name = cursor;
      held = versions_of old.catalog.tables q;
      lines = map row_line (meaning_of q (present_tables old q) instance.args);
    } in
    let middle = after_execution old o.middle name q instance.args kept o.step in
    let count : o.middle.executions ≤ old.executions + 1 =
    subst (λ (s : State). s.executions ≤ old.executions + 1) (sym o.step.keeps) (omega arith) in
    reaches old new (record o.middle { cursors = old.cursors ++ added ∷ [] }) answer
    (reply.Opened cursor o.step.execution) o.says o.keeps (
      line_name cursor is,
      execution_plain old o.middle name q instance.args also session kept few
          (statement_found old.catalog name args instance e).0 o.step,
    )
    (record {
      tables = middle.tables;
      statements = middle.statements;
      cursors = each_push HasRows old.cursors added kept.cursors
          (rows_lines (meaning_of q (present_tables old q) instance.args));
    })
    count

cursor_step : (old new : State) (cursor name : List ℕ) (args : List Value) (answer : Reply) → IsName cursor
    → IsName name → IsSession old → AreKeptNames old → old.executions + 1 < 2 ^ 63
    → CursorStep old cursor name args answer new → IsPlainStep old answer new
cursor_step old new cursor name args answer is also session kept few step =
    let outcome = instance_outcome old.catalog name args also.line kept.statements in
    by_none (IsPlainStep old answer new) (holding_refusal (holds_of old.cursors) cursor)
    (OpenStep old cursor name args answer new) (λ why. Refuses why old answer new) step
    (λ from. by_result (IsPlainStep old answer new) (instance_of old.catalog name args)
    (λ instance. OpenInstanceStep old cursor name instance.statement instance.args answer new)
    (λ why. Refuses why old answer new) from
    (λ instance e s. by_none (IsPlainStep old answer new)
    (rows_refusal (length (meaning_of instance.statement (present_tables old instance.statement) instance.args)))
    (Opens old cursor name instance.statement instance.args answer new)
    (λ why. Refuses why old answer new) s
    (λ o. opened old new cursor name args instance answer is also session kept few e o)
    (λ why there r. turned_down why old new answer (there_has IsPlainRefusal _ why (rows_plain _) there) kept r))
    (λ why e r. turned_down why old new answer (outcome.err why e) kept r))
    (λ why there r. turned_down why old new answer
    (there_has IsPlainRefusal _ why (holding_plain (holds_of old.cursors) cursor is.line) there) kept r)

rows_take : (n : ℕ) (rows : List (List ℕ)) → AreRows rows → AreRows (take n rows)
rows_take zero rows h = tt
rows_take (suc n) [] h = tt
rows_take (suc n) (row ∷ rows) h = (h.0, rows_take n rows h.1)

rows_drop : (n : ℕ) (rows : List (List ℕ)) → AreRows rows → AreRows (drop n rows)
rows_drop zero rows h = h
rows_drop (suc n) [] h = tt
rows_drop (suc n) (row ∷ rows) h = rows_drop n rows h.1

named_rows : (cursors : List CursorState) (name : List ℕ) → AllByRecursion HasRows cursors
    → IfThere HasRows (cursor_named cursors name)
named_rows [] name h = tt
named_rows (cursor ∷ cursors) name h = by_test (bytes_eq cursor.name name) (named_rows cursors name h.1)
  where
    by_test : (test : Bool) → IfThere HasRows (cursor_named cursors name)
        → IfThere HasRows (cond test (Some cursor) (cursor_named cursors name))
    by_test true later = h.0
    by_test false later = later

fetched_rows : (cursors : List CursorState) (name : List ℕ) (count : ℕ) → AllByRecursion HasRows cursors
    → AllByRecursion HasRows (fetched_from cursors name count)
fetched_rows [] name count h = tt
fetched_rows (cursor ∷ cursors) name count h =
    by_test (bytes_eq cursor.name name) (fetched_rows cursors name count h.1)
  where
    by_test : (test : Bool) → AllByRecursion HasRows (fetched_from cursors name count)
        → AllByRecursion HasRows (cond test (record cursor { lines = drop count cursor.lines } ∷ cursors)
        (cursor ∷ fetched_from cursors name count))
    by_test true later = (rows_drop count cursor.lines h.0, h.1)
    by_test false later = (h.0, later)

closed_rows : (cursors : List CursorState) (name : List ℕ) → AllByRecursion HasRows cursors
    → AllByRecursion HasRows (closed_from cursors name)
closed_rows [] name h = tt
closed_rows (cursor ∷ cursors) name h = by_test (bytes_eq cursor.name name) (closed_rows cursors name h.1)
  where
    by_test : (test : Bool) → AllByRecursion HasRows (closed_from cursors name)
        → AllByRecursion HasRows (cond test cursors (cursor ∷ closed_from cursors name))
    by_test true later = h.1
    by_test false later = (h.0, later)

fetch_step : (old new : State) (cursor : List ℕ) (count : ℕ) (answer : Reply) → IsName cursor → AreKeptNames old
    → FetchStep old cursor count answer new → IsPlainStep old answer new
fetch_step old new cursor count answer is kept step =
    by_none (IsPlainStep old answer new) (cursor_named old.cursors cursor)
    (Refuses (refused.unknown_cursor (canonical_name cursor)) old answer new)
    (λ waiting. Fetches old cursor waiting count answer new) step
    (λ r. turned_down _ old new answer (plain_refusal _ (canonical_name cursor) (canonical_line cursor is.line) refl)
    kept r)
    (λ waiting there f. reaches old new (record old { cursors = fetched_from old.cursors cursor count }) answer
    (reply.Fetched cursor (take count waiting.lines) (length (drop count waiting.lines))) f.says f.keeps (
      line_name cursor is,
      rows_take count waiting.lines
          (there_has HasRows (cursor_named old.cursors cursor) waiting (named_rows old.cursors cursor kept.cursors) there),
    )
    (record {
      tables = kept.tables;
      statements = kept.statements;
      cursors = fetched_rows old.cursors cursor count kept.cursors;
    })
    (omega arith))

close_step : (old new : State) (cursor : List ℕ) (answer : Reply) → IsName cursor → AreKeptNames old
    → CloseStep old cursor answer new → IsPlainStep old answer new
close_step old new cursor answer is kept step =
    by_none (IsPlainStep old answer new) (cursor_named old.cursors cursor)
    (Refuses (refused.unknown_cursor (canonical_name cursor)) old answer new)
    (λ waiting. Closes old cursor answer new) step
    (λ r. turned_down _ old new answer (plain_refusal _ (canonical_name cursor) (canonical_line cursor is.line) refl)
    kept r)
    (λ waiting there c. reaches old new (record old { cursors = closed_from old.cursors cursor }) answer
    (reply.Closed cursor) c.says c.drops (line_name cursor is)
    (record {
      tables = kept.tables;
      statements = kept.statements;
      cursors = closed_rows old.cursors cursor kept.cursors;
    })
    (omega arith))

-- Steps.

command_step : (old new : State) (c : Command) (file : Option (List ℕ)) (answer : Reply) → NamesLines c
    → IsSession old → AreKeptNames old → old.executions + 1 < 2 ^ 63 → CommandStep old c file answer new
    → IsPlainStep old answer new
command_step old new (Load table name) file answer names session kept few step =
    load_step old new table file answer names kept step
command_step old new (Index table column) file answer names session kept few step =
    index_step old new table column answer names.0 names.1 kept step
command_step old new (Prepare name select) file answer names session kept few step =
    prepare_step old new name select answer names.0 names.1 kept step
command_step old new (Run name args) file answer names session kept few step =
    run_step old new name args answer names session kept few step
command_step old new (Cursor cursor name args) file answer names session kept few step =
    cursor_step old new cursor name args answer names.0 names.1 session kept few step
command_step old new (Fetch cursor rows) file answer names session kept few step =
    fetch_step old new cursor rows answer names kept step
command_step old new (Close cursor) file answer names session kept few step =
    close_step old new cursor answer names kept step
command_step old new (Evict name plan) file answer names session kept few step =
    evict_step old new name plan answer names kept step
command_step old new (Show name) file answer names session kept few step =
    show_step old new name answer names session kept step

-- a step that a line takes
pub plain_step : (old new : State) (reading : Reading) (file : Option (List ℕ)) (answer : Reply) → ReadsLines reading
    → IsSession old → AreKeptNames old → old.executions + 1 < 2 ^ 63 → Step old reading file answer new
    → IsPlainStep old answer new
unfolding Step
plain_step old new Silent file answer names session kept few step = elim step [ ]
plain_step old new (Says c) file answer names session kept few step =
    command_step old new c file answer names session kept few step
plain_step old new Bad file answer names session kept few step =
    turned_down refused.syntax old new answer (plain_refusal _ [] refl refl) kept step
