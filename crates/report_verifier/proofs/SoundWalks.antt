-- Every step keeps a walk sound, and matches its line.
use Rattle.std.proofs.Common.{ℕ, ◌≡◌, ◌∙◌, ◌≤◌, ◌<◌, ◌+◌, ◌++◌, inl, inr, nat_lt, List, [], ◌∷◌, length}
use Rattle.std.proofs.Common.{Option, Some, None, Result, Ok, Err, Bool, true, false, refl, sym, subst, arith}
use Rattle.std.proofs.Common.{MatchOption, MatchResult, length-append, if◌then◌else◌, All}
use Rattle.std.proofs.lemmas.Bool.Decides.{nat_tests}
use Rattle.std.proofs.lemmas.Option.{none-some, same_Some}
use Rattle.std.proofs.lemmas.List.Elements.{All-nil}
use Rattle.fraction_math.specs.Fraction.{Fraction}
use Rattle.row_values.specs.Statements.{IsSoundQuery, Statement}
use Rattle.row_values.specs.declared.refusals.Refusal.{Refusal}
use Rattle.row_values.specs.declared.values.Value.{Value}
use Rattle.csv_tables.specs.Tables.{IsTable}
use Rattle.sql_parser.specs.Statement.{IsSound, Parts}
use Rattle.plan_trees.specs.Statistics.{AreWeights, Statistics}
use Rattle.plan_trees.specs.declared.statistics.Weights.{Weights}
use Rattle.statement_meaning.specs.Vectors.{vector_of}
use Rattle.certificate_check.specs.Ledgers.{IsTrueEntry, IsTrueLedger}
use Rattle.certificate_check.specs.declared.entries.Entry.{Entry}
use Rattle.certificate_check.proofs.Judging.{accepted_bound}
use Rattle.script_report.proofs.ReadStatements.{statements_sound}
use Rattle.script_report.specs.Commands.{Reading, Silent, Says, Bad, reading_of}
use Rattle.script_report.specs.declared.commands.Command.{Command}
use Rattle.script_report.specs.declared.commands.Command.TheVariants.{Load, Index, Prepare, Run, Cursor, Fetch, Close}
use Rattle.script_report.specs.declared.commands.Command.TheVariants.{Evict, Show}
use Rattle.report_items.specs.declared.items.ReportItem.{ReportItem}
use Rattle.catalog_model.specs.Catalogs.{StatementState, TableState, Version, empty_catalog}
use Rattle.catalog_model.specs.Catalogs.{number_of, put_version, stats_now, tables_of}
use Rattle.catalog_model.specs.Held.{HeldCursor, held_by, holding_refusal, is_open, present_versions, versions_of}
use Rattle.catalog_model.specs.Held.{without_cursor}
use Rattle.catalog_model.specs.Indexing.{indexing_of}
use Rattle.catalog_model.specs.Instances.{Instance, instance_of}
use Rattle.catalog_model.specs.Loading.{loading_of}
use Rattle.catalog_model.specs.Preparing.{preparing_of}
use Rattle.catalog_model.specs.Sound.{AreNumbered, IsCatalog, IsLoaded}
use Rattle.catalog_model.proofs.Cursors.{closed, differ_closed, differ_opened, few_left, numbered_closed}
use Rattle.catalog_model.proofs.Cursors.{numbered_opened, numbered_put, opened}
use Rattle.catalog_model.proofs.Indexings.{indexed as catalog_indexed, same_versions}
use Rattle.catalog_model.proofs.Loads.{load_number, loaded as catalog_loaded}
use Rattle.catalog_model.proofs.Measures.{measured, statement_found}
use Rattle.catalog_model.proofs.Numbers.{numbered}
use Rattle.catalog_model.proofs.Preparations.{prepared as catalog_prepared}
use Rattle.session_model.specs.Run.{Line}
use Rattle.report_verifier.specs.Findings.{Accepts, Finding, Finds, SaidTooLarge, TurnsDown}
use Rattle.report_verifier.specs.Claims.{IsBlockJudged}
use Rattle.report_verifier.specs.Sound.{IsSoundWalk}
use Rattle.report_verifier.specs.Soundness.{AreMatched, IsMatched, IsMatchedCommand, IsMatchedInstance, IsMatchedLine}
use Rattle.report_verifier.specs.Truth.{IsTrueIn}
use Rattle.report_verifier.specs.Verification.{GoesOn, StepOfLine, Taking, Verifies, ended}
use Rattle.report_verifier.specs.Walk.{CommandStep, CursorStep, ExecutionStep, Matches, Step, Walk, after, claims_of}
use Rattle.report_verifier.specs.Walk.{cursors_after, fetched, first_walk, indexed, later_items, loaded, next_item}
use Rattle.report_verifier.specs.Walk.{prepared}
use Rattle.report_verifier.specs.declared.rejections.Verification.TheVariants.{Rejected, Verified}
use Rattle.report_verifier.specs.declared.rejections.Why.{Why}
use Rattle.report_verifier.proofs.AcceptedBlocks.{accepted_block, said_too_large, true_after}
use Rattle.report_verifier.proofs.TrueLedgers.{IsTrueAfter, executed_true, indexed_true, loaded_true, prepared_true}

-- By cases, with what is known in each.

by_result : {T E : Type 0} (P : Type 0) (r : Result T E) (F : T → Type 0) (G : E → Type 0) → MatchResult r F G
    → ((t : T) → r ≡ Ok t → F t → P) → ((e : E) → r ≡ Err e → G e → P) → P
by_result P (Ok t) F G h ok err = ok t refl h
by_result P (Err e) F G h ok err = err e refl h

by_option : {T : Type 0} (P : Type 0) (o : Option T) (F : Type 0) (G : T → Type 0) → MatchOption o F G
    → (o ≡ None → F → P) → ((t : T) → o ≡ Some t → G t → P) → P
by_option P None F G h none some = none refl h
by_option P (Some t) F G h none some = some t refl h

-- The first walk.

empty : (weights : Weights) → AreWeights weights → IsCatalog [] (empty_catalog weights)
empty weights are = record {
  weights = are;
  table_names = refl;
  statement_names = refl;
  version_numbers = refl;
  numbered = All-nil (λ (table : TableState). table.now.number < 0);
  are_tables = All-nil (λ (table : TableState). IsTable table.now.content);
  are_sound = All-nil (λ (p : StatementState). IsSoundQuery p.statement);
  loaded = All-nil (λ (p : StatementState). All (IsLoaded []) p.statement.places);
  few_tables = omega arith;
  few_statements = omega arith;
  few_cells = omega arith;
  few_bytes = omega arith;
}

none_numbered : AreNumbered 0 []
none_numbered = record {
  version_of = λ number. nothing;
  one_each = All-nil (λ (version : Version). nothing ≡ version);
  before = All-nil (λ (version : Version). version.number < 0);
}
  where
    nothing : Version
    nothing = record { content = record { schema = []; rows = [] }; bytes = 0; number = 0 }

pub first_sound : (lambda : Fraction) (weights : Weights) (items : List ReportItem) → lambda.den ≤ lambda.num
    → AreWeights weights → IsSoundWalk (first_walk lambda weights items)
first_sound lambda weights items ratio are = record {
  lambda = ratio;
  catalog = empty weights are;
  numbered = none_numbered;
  cursor_names = refl;
  few_cursors = omega arith;
  truth = record {
    of_each = λ number p there. absurd (none-some p there);
    of_none = λ number late q s. All-nil (λ (entry : Entry). entry.statement ≡ number → IsTrueEntry q s entry);
  };
}

-- Tables and statements.

numbered_loaded : (old : Walk) (table bytes : List ℕ) (version : Version) → IsSoundWalk old
    → loading_of (held_by old.cursors) old.catalog table bytes ≡ Ok version
    → AreNumbered (old.catalog.versions + 1)
    (held_by old.cursors ++ present_versions (put_version old.catalog.tables table version))
numbered_loaded old table bytes version sound e =
    let number = load_number (held_by old.cursors) old.catalog table bytes version e in
    subst (λ n. AreNumbered (n + 1)
    (held_by old.cursors ++ present_versions (put_version old.catalog.tables table version))) number
    (numbered_put (held_by old.cursors) old.catalog.tables table version
    (subst (λ n. AreNumbered n (held_by old.cursors ++ present_versions old.catalog.tables)) (sym number)
    sound.numbered))

loaded_by : (old : Walk) (table bytes : List ℕ) (r : Result Version Refusal) → IsSoundWalk old
    → loading_of (held_by old.cursors) old.catalog table bytes ≡ r → IsSoundWalk (loaded old table r)
loaded_by old table bytes (Err why) sound e = sound
loaded_by old table bytes (Ok version) sound e = record {
  lambda = sound.lambda;
  catalog = catalog_loaded (held_by old.cursors) old.catalog table bytes version sound.catalog e;
  numbered = numbered_loaded old table bytes version sound e;
  cursor_names = sound.cursor_names;
  few_cursors = sound.few_cursors;
  truth = loaded_true old.catalog old.ledger table version sound.truth;
}

fetched_sound : (old : Walk) (table : List ℕ) (file : Option (List ℕ)) → IsSoundWalk old
    → IsSoundWalk (fetched old table file)
fetched_sound old table None sound = sound
fetched_sound old table (Some bytes) sound =
    loaded_by old table bytes (loading_of (held_by old.cursors) old.catalog table bytes) sound refl

indexed_sound : (old : Walk) (table : List ℕ) (r : Result ℕ Refusal) → IsSoundWalk old
    → IsSoundWalk (indexed old table r)
indexed_sound old table (Err why) sound = sound
indexed_sound old table (Ok column) sound = record {
  lambda = sound.lambda;
  catalog = catalog_indexed (held_by old.cursors) old.catalog table column sound.catalog;
  numbered = subst (λ (vs : List Version). AreNumbered old.catalog.versions (held_by old.cursors ++ vs))
      (sym (same_versions old.catalog.tables table column)) sound.numbered;
  cursor_names = sound.cursor_names;
  few_cursors = sound.few_cursors;
  truth = indexed_true old.catalog old.ledger table column sound.truth;
}

prepared_by : (old : Walk) (name : List ℕ) (select : Parts) (r : Result Statement Refusal) → IsSound select
    → IsSoundWalk old → preparing_of old.catalog name select ≡ r → IsSoundWalk (prepared old name r)
prepared_by old name select (Err why) parts sound e = sound
prepared_by old name select (Ok q) parts sound e = record {
  lambda = sound.lambda;
  catalog = catalog_prepared (held_by old.cursors) old.catalog name select q parts sound.catalog e;
  numbered = sound.numbered;
  cursor_names = sound.cursor_names;
  few_cursors = sound.few_cursors;
  truth = prepared_true old.catalog old.ledger name q sound.truth;
}

closed_sound : (old : Walk) (cursor : List ℕ) → IsSoundWalk old
    → IsSoundWalk (record old { cursors = without_cursor cursor old.cursors })
closed_sound old cursor sound =
    let most = sound.few_cursors in
    let fewer = few_left old.cursors cursor in
    record {
      lambda = sound.lambda;
      catalog = closed old.cursors cursor old.catalog sound.catalog sound.numbered;
      numbered = numbered_closed old.cursors cursor old.catalog sound.numbered;
      cursor_names = differ_closed old.cursors cursor sound.cursor_names;
      few_cursors = omega (arith, most, fewer);
      truth = sound.truth;
    }

-- Executions.

-- a cursor of this name may be opened, where there is one
abbrev IsFree : Walk → Option (List ℕ) → Type 0
IsFree old None = Unit {0}
IsFree old (Some cursor) = holding_refusal old.cursors cursor ≡ None

may_open : (cursors : List HeldCursor) (name : List ℕ) → holding_refusal cursors name ≡ None
    → (is_open name cursors ≡ false) × (length cursors < 16)
may_open cursors name e = by_test (is_open name cursors) (nat_lt (length cursors) 16) _ _ refl refl e
  where
    by_test : (there few : Bool) (taken many : Refusal) → is_open name cursors ≡ there
        → nat_lt (length cursors) 16 ≡ few → (if there then Some taken else if few then None else Some many) ≡ None
        → (is_open name cursors ≡ false) × (length cursors < 16)
    by_test true few taken many o f e = absurd cc
    by_test false false taken many o f e = absurd cc
    by_test false true taken many o f e = (o, grind (arith, nat_tests))

-- after an execution with this ledger
opened_sound : (old : Walk) (cursor : Option (List ℕ)) (q : Statement) (ledger : List Entry) (items : List ReportItem)
    → IsFree old cursor → IsSoundWalk old → IsTrueIn old.catalog ledger
    → IsSoundWalk (record old {
      cursors = cursors_after old.cursors old.catalog.tables cursor q;
      ledger = ledger;
      executions = old.executions + 1;
      items = items;
    })
opened_sound old None q ledger items free sound truth = record {
  lambda = sound.lambda;
  catalog = sound.catalog;
  numbered = sound.numbered;
  cursor_names = sound.cursor_names;
  few_cursors = sound.few_cursors;
  truth = truth;
}
opened_sound old (Some cursor) q ledger items free sound truth =
    let may = may_open old.cursors cursor free in
    let room = may.1 in
    let new : HeldCursor = record { name = cursor; held = versions_of old.catalog.tables q } in
    record {
      lambda = sound.lambda;
      catalog = opened old.cursors cursor old.catalog q sound.catalog;
      numbered = numbered_opened old.cursors cursor old.catalog q sound.numbered;
      cursor_names = differ_opened old.cursors new may.0 sound.cursor_names;
      few_cursors = subst (λ n. n ≤ 16) (sym (length-append old.cursors (new ∷ []))) (omega (arith, room));
      truth = truth;
    }

-- the line is matched, and the next walk is sound
pub record IsGood (old : Walk) (line : ℕ) (name : List ℕ) (q : Statement) (args : List Value) (next : Walk)
    : Type 0 where
  pub matched : IsMatched old line name q args
  pub sound : IsSoundWalk next

-- a walk that goes on
abbrev on : Walk → Result Walk Why
on walk = Ok walk

same_ok : (a b : Walk) → on a ≡ on b → a ≡ b
same_ok a b e = cc

module _ (old : Walk) (line : ℕ) (cursor : Option (List ℕ)) (name : List ℕ) (args : List Value) (instance : Instance)
    (next : Walk) (i : instance_of old.catalog name args ≡ Ok instance) (free : IsFree old cursor)
    (sound : IsSoundWalk old) where
  accepted_good : (statement : ℕ) (ledger : List Entry) → number_of old.catalog.statements name ≡ Some statement
      → Finds (IsBlockJudged old.ledger statement (old.executions + 1) instance.statement
      (claims_of old instance.statement instance.args)) line name (old.executions + 1) (next_item old.items)
      (Accepts ledger)
      → Ok next ≡ after old (cursors_after old.cursors old.catalog.tables cursor instance.statement) (Accepts ledger)
      → IsGood old line name instance.statement instance.args next
  accepted_good statement ledger numbers finds goes =
      let q : Statement = instance.statement in
      let s : Statistics = stats_now old.catalog.tables old.catalog.weights q in
      let at : List ℕ = vector_of q (tables_of old.catalog.tables q) instance.args in
      let one = numbered old.catalog.statements name statement numbers in
      let same : one.prepared.statement ≡ q =
      same_Some one.prepared.statement q (sym one.found ∙ (statement_found old.catalog name args instance i).0) in
      let known = measured (held_by old.cursors) old.catalog name args instance sound.catalog i in
      let a = accepted_block old.ledger statement (old.executions + 1) q (claims_of old q instance.args) line name
      (next_item old.items) ledger finds in
      let truth : IsTrueLedger q s statement old.ledger =
      subst (λ (p : Statement).
      IsTrueLedger p (stats_now old.catalog.tables old.catalog.weights p) statement old.ledger) same
      (sound.truth.of_each statement one.prepared one.there) in
      let later = true_after old.ledger ledger statement (old.executions + 1) q s at old.lambda line name
      (next_item old.items) known.vector truth a in
      let now_true = executed_true old.catalog old.ledger ledger statement one.prepared one.there
      (subst (λ (p : Statement).
      IsTrueAfter p (stats_now old.catalog.tables old.catalog.weights p) statement old.ledger ledger) (sym same) later)
      sound.truth in
      record {
        matched = inr (record {
          plan = a.plan;
          cost = a.cost;
          cert = a.cert;
          next = a.is_block;
          top = a.top;
          spelled = a.spelled;
          paid = a.paid;
          priced = a.priced;
          claimed = a.claimed;
          certified = a.certified;
          within = accepted_bound old.ledger statement (claims_of old q instance.args a.top a.paid a.claimed)
              sound.lambda
              known.vector truth a.accepted;
        });
        sound = subst IsSoundWalk (sym (same_ok next _ goes))
            (opened_sound old cursor q ledger (later_items old.items) free sound now_true);
      }

  large_good : (statement : ℕ)
      → Finds (IsBlockJudged old.ledger statement (old.executions + 1) instance.statement
      (claims_of old instance.statement instance.args)) line name (old.executions + 1) (next_item old.items)
      SaidTooLarge
      → Ok next ≡ after old (cursors_after old.cursors old.catalog.tables cursor instance.statement) SaidTooLarge
      → IsGood old line name instance.statement instance.args next
  large_good statement finds goes = record {
    matched = inl (said_too_large (IsBlockJudged old.ledger statement (old.executions + 1) instance.statement
        (claims_of old instance.statement instance.args)) line name (old.executions + 1) (next_item old.items) finds);
    sound = subst IsSoundWalk (sym (same_ok next _ goes)) (record {
      lambda = sound.lambda;
      catalog = sound.catalog;
      numbered = sound.numbered;
      cursor_names = sound.cursor_names;
      few_cursors = sound.few_cursors;
      truth = sound.truth;
    });
  }

  found_good : (statement : ℕ) (finding : Finding) → number_of old.catalog.statements name ≡ Some statement
      → Finds (IsBlockJudged old.ledger statement (old.executions + 1) instance.statement
      (claims_of old instance.statement instance.args)) line name (old.executions + 1) (next_item old.items) finding
      → Ok next ≡ after old (cursors_after old.cursors old.catalog.tables cursor instance.statement) finding
      → IsGood old line name instance.statement instance.args next
  found_good statement SaidTooLarge numbers finds goes = large_good statement finds goes
  found_good statement (Accepts ledger) numbers finds goes = accepted_good statement ledger numbers finds goes
  found_good statement (TurnsDown why) numbers finds goes = absurd cc

  matches_good : Matches old line cursor name instance.statement instance.args (Ok next)
      → IsGood old line name instance.statement instance.args next
  matches_good m = found_good m.statement m.finding m.its_number m.finds m.goes

stayed : (old next : Walk) → on next ≡ on old → IsSoundWalk old → IsSoundWalk next
stayed old next e sound = subst IsSoundWalk (sym (same_ok next old e)) sound

execution_good : (old : Walk) (line : ℕ) (cursor : Option (List ℕ)) (name : List ℕ) (args : List Value) (next : Walk)
    → IsFree old cursor → IsSoundWalk old → ExecutionStep old line cursor name args (Ok next)
    → IsMatchedInstance old line name args × IsSoundWalk next
execution_good old line cursor name args next free sound step =
    let Matched = λ (r : Result Instance Refusal). MatchResult r
    (λ instance. IsMatched old line name instance.statement instance.args) (λ why. Unit {0}) in
    by_result (IsMatchedInstance old line name args × IsSoundWalk next) (instance_of old.catalog name args)
    (λ instance. Matches old line cursor name instance.statement instance.args (Ok next)) (λ why. Ok next ≡ Ok old) step
    (λ instance i m.
    let good = matches_good old line cursor name args instance next i free sound m in
    (subst Matched (sym i) good.matched, good.sound))
    (λ why i e. (subst Matched (sym i) tt, stayed old next e sound))

cursor_good : (old : Walk) (line : ℕ) (cursor name : List ℕ) (args : List Value) (next : Walk) → IsSoundWalk old
    → CursorStep old line cursor name args (Ok next)
    → IsMatchedCommand old line (Cursor cursor name args) × IsSoundWalk next
cursor_good old line cursor name args next sound step =
    let Matched = λ (o : Option Refusal). MatchOption o (IsMatchedInstance old line name args) (λ why. Unit {0}) in
    by_option (IsMatchedCommand old line (Cursor cursor name args) × IsSoundWalk next)
    (holding_refusal old.cursors cursor) (ExecutionStep old line (Some cursor) name args (Ok next))
    (λ why. on next ≡ on old) step
    (λ free h.
    let good = execution_good old line (Some cursor) name args next free sound h in
    (subst Matched (sym free) good.0, good.1))
    (λ why e h. (subst Matched (sym e) tt, stayed old next h sound))

-- Steps.

-- where this is said, a statement that is prepared is sound
abbrev PreparesSound : Reading → Type 0
PreparesSound reading = (name : List ℕ) (select : Parts) → reading ≡ Says (Prepare name select) → IsSound select

command_good : (old : Walk) (line : ℕ) (command : Command) (file : Option (List ℕ)) (next : Walk)
    → PreparesSound (Says command) → IsSoundWalk old → CommandStep old line command file (Ok next)
    → IsMatchedCommand old line command × IsSoundWalk next
command_good old line (Load table name) file next parts sound e =
    (tt, subst IsSoundWalk (sym (same_ok next _ e)) (fetched_sound old table file sound))
command_good old line (Index table column) file next parts sound e = (
  tt,
  subst IsSoundWalk (sym (same_ok next _ e)) (indexed_sound old table (indexing_of old.catalog table column)
      sound),
)
command_good old line (Prepare name select) file next parts sound e = (
  tt,
  subst IsSoundWalk (sym (same_ok next _ e))
      (prepared_by old name select (preparing_of old.catalog name select) (parts name select refl) sound refl),
)
command_good old line (Run name args) file next parts sound step =
    execution_good old line None name args next tt sound step
command_good old line (Cursor cursor name args) file next parts sound step =
    cursor_good old line cursor name args next sound step
command_good old line (Fetch cursor rows) file next parts sound e = (tt, stayed old next e sound)
command_good old line (Close cursor) file next parts sound e =
    (tt, subst IsSoundWalk (sym (same_ok next _ e)) (closed_sound old cursor sound))
command_good old line (Evict name plan) file next parts sound e = (tt, stayed old next e sound)
command_good old line (Show name) file next parts sound e = (tt, stayed old next e sound)

step_by : (old : Walk) (line : ℕ) (reading : Reading) (file : Option (List ℕ)) (next : Walk) → PreparesSound reading
    → IsSoundWalk old → Step old line reading file (Ok next) → IsMatchedLine old line reading × IsSoundWalk next
unfolding Step
step_by old line Silent file next parts sound e = (tt, stayed old next e sound)
step_by old line Bad file next parts sound e = (tt, stayed old next e sound)
step_by old line (Says command) file next parts sound step = command_good old line command file next parts sound step

pub step_good : (old : Walk) (line : ℕ) (text : List ℕ) (file : Option (List ℕ)) (next : Walk) → IsSoundWalk old
    → Step old line (reading_of text) file (Ok next) → IsMatchedLine old line (reading_of text) × IsSoundWalk next
step_good old line text file next sound step =
    step_by old line (reading_of text) file next (statements_sound text) sound step

-- Walks.

none_left : (walk : Walk) (items : List ReportItem) (executions too_large : ℕ)
    → Verified executions too_large ≡ ended walk items → items ≡ []
none_left walk [] executions too_large e = refl
none_left walk (item ∷ items) executions too_large e = absurd cc

module _ (Takes : Taking)
    (is_step : (old : Walk) (line : Line) (outcome : Result Walk Why) → Takes old line outcome
    → StepOfLine old line outcome) where
  pub all_matched : (old : Walk) (lines : List Line) (executions too_large : ℕ) → IsSoundWalk old
      → Verifies Takes old lines (Verified executions too_large) → AreMatched Takes old lines
  all_matched old [] executions too_large sound e = none_left old old.items executions too_large e
  all_matched old (line ∷ lines) executions too_large sound (outcome, step, later) =
      by_outcome outcome step later (λ next good. all_matched next lines executions too_large good)
    where
      by_outcome : (outcome : Result Walk Why) → Takes old line outcome
          → GoesOn line.number outcome (λ next. Verifies Takes next lines (Verified executions too_large))
          (Verified executions too_large)
          → ((next : Walk) → IsSoundWalk next → Verifies Takes next lines (Verified executions too_large)
          → AreMatched Takes next lines)
          → AreMatched Takes old (line ∷ lines)
      by_outcome (Ok next) step later more =
          let taken = is_step old line (Ok next) step in
          let good = step_good old line.number line.text taken.0 next sound taken.1 in
          (good.0, (next, step, more next good.1 later))
      by_outcome (Err why) step later more = absurd (let e : Verified executions too_large ≡ Rejected _ = later in cc)
