-- Sessions with open cursors: what a change of the catalog leaves of them, and how they are opened, fetched from and
-- closed.
use Rattle.std.proofs.Common.{ℕ, zero, suc, cond, ◌≡◌, ◌||◌, ◌<◌, ◌≤◌, ◌+◌, ◌∙◌, Bool, true, false, List, [], ◌∷◌, ◌++◌}
use Rattle.std.proofs.Common.{length, length-append}
use Rattle.std.proofs.Common.{map, nat_le, set, remove, take, drop, All, MatchOption, MatchResult}
use Rattle.std.proofs.Common.{Option, Some, None, Result, Ok, Err, ap, ap₂, refl, sym, subst, arith, slice_get}
use Rattle.std.proofs.Common.{slice_index_or}
use Rattle.std.proofs.lemmas.Bool.Decides.{nat_tests}
use Rattle.std.proofs.lemmas.Slice.Eq.{bytes_eq-Decides}
use Rattle.std.proofs.lemmas.List.{length-drop, length-map}
use Rattle.std.specs.Option.{option_map}
use Rattle.std.specs.Str.{bytes_eq}
use Rattle.row_values.specs.Names.{canonical_name}
use Rattle.row_values.specs.Refusals.{too_many_rows, unknown_cursor, unknown_statement}
use Rattle.row_values.specs.Statements.{Statement, kinds_of}
use Rattle.row_values.specs.declared.refusals.Refusal.{Refusal}
use Rattle.row_values.specs.declared.values.Value.{Value}
use Rattle.sql_parser.specs.Statement.{IsSound, Parts}
use Rattle.cache_model.specs.Caches.{empty_cache}
use Rattle.anchor_cache.specs.Contents.{Contents, state_of}
use Rattle.result_shape.specs.Rows.{rows_seen}
use Rattle.result_shape.specs.declared.rows.Rows.{Rows}
use Rattle.script_report.specs.declared.replies.Execution.{Execution}
use Rattle.script_report.specs.declared.replies.Reply.{Reply}
use Rattle.script_report.specs.declared.replies.Reply.TheVariants as reply
use Rattle.statement_meaning.specs.Meaning.{meaning_of}
use Rattle.statement_meaning.specs.Spelling.{row_line}
use Rattle.catalog_model.specs.Catalogs.{Catalog, StatementState, Version, find_statement, with_index, with_statement}
use Rattle.catalog_model.specs.Catalogs.{number_of, with_version}
use Rattle.catalog_model.specs.Indexing.{indexing_of}
use Rattle.catalog_model.specs.Loading.{loading_of}
use Rattle.catalog_model.specs.Preparing.{preparing_of}
use Rattle.catalog_model.specs.Held.{HeldCursor, cursor_number, held_by, holding_refusal, is_open, versions_of}
use Rattle.catalog_model.specs.Held.{without_cursor}
use Rattle.catalog_model.specs.Instances.{Instance, instance_of}
use Rattle.catalog_model.proofs.Measures.{statement_found}
use Rattle.catalog_model.proofs.Numbers.{numbered, position_next}
use Rattle.session_store.specs.Kept.{StoreState}
use Rattle.session_store.specs.Outcomes as store
use Rattle.session_store.proofs.Fittings.{unknown}
use Rattle.session_store.proofs.OpenCursors.{gone}
use Rattle.session_model.specs.Executions.{rows_refusal}
use Rattle.session_model.specs.State.{CursorState, State, cursor_named, held_versions}
use Rattle.session_model.specs.State.{holds_of}
use Rattle.session_model.specs.Step.{CloseStep, Closes, CursorStep, Executes, FetchStep, Fetches, IndexStep}
use Rattle.session_model.specs.Step.{InstanceStep}
use Rattle.session_model.specs.Step.{LoadStep, OpenInstanceStep, PrepareStep}
use Rattle.session_model.specs.Step.{OpenStep, Opens, Refuses, RunStep, present_tables}
use Rattle.session_model.specs.declared.settings.Settings.{Settings}
use Rattle.session_model.proofs.Sessions.{close_keeps, cursor_keeps, fetch_keeps}
use Rattle.session_engine.specs.Cursors.{IsWaiting, cursors_with, lines_of, lines_waiting}
use Rattle.session_engine.specs.Engines.{CountsOn}
use Rattle.session_engine.specs.Running.{IsUnchanged, RunsKept}
use Rattle.session_engine.specs.Serving.{AreCleared, IsKeptWhole, IsSessionKept, open_in, session_in, session_of}
use Rattle.session_engine.specs.declared.waiting.Waiting.{Waiting}
use Rattle.session_engine.proofs.KeptSessions.{IsKeptBy, index_kept, load_kept, prepare_kept}
use Rattle.session_engine.proofs.OpenCursors.{cursors_behind, held_are, holds_are, lines_are, named_at, not_named}
use Rattle.session_engine.proofs.OpenCursors.{statement_less, without_last}
use Rattle.session_engine.proofs.OpenCursors.{waits_behind, waits_left, waits_more, waits_set, waits_there, with_behind}

-- A change of the catalog.

pub record IsWholeBy (step : State → State → Type 0) (old new : StoreState) (olds news : List Contents)
    (rows : List Waiting) (executions after : ℕ) (settings : Settings) : Type 0 where
  pub steps : step (session_in old olds rows executions settings) (session_in new news rows after settings)
  pub kept : IsKeptWhole new news rows after settings

pub whole_by : (step : State → State → Type 0) (old new : StoreState) (olds news : List Contents) (rows : List Waiting)
    (executions after : ℕ) (settings : Settings) → IsKeptWhole old olds rows executions settings
    → open_in new rows ≡ open_in old rows → new.cursors ≡ old.cursors → All (IsWaiting new.catalog.statements) rows
    → IsKeptBy step old.catalog new.catalog olds news (open_in old rows) executions after settings
    → IsWholeBy step old new olds news rows executions after settings
whole_by step old new olds news rows executions after settings h same cursors waits by = record {
  steps = subst (λ (cs : List CursorState). step (session_in old olds rows executions settings)
      (session_of new.catalog news cs after settings)) (sym same) by.steps;
  kept = record {
    kept = subst (λ (cs : List CursorState). IsSessionKept new.catalog news cs after settings) (sym same) by.kept;
    one_each = h.one_each ∙ ap (λ (hs : List HeldCursor). length hs) (sym cursors);
    waits = waits;
  };
}

-- the statements are the same
pub same_open : (old new : StoreState) (rows : List Waiting) → new.catalog.statements ≡ old.catalog.statements
    → new.cursors ≡ old.cursors → open_in new rows ≡ open_in old rows
same_open old new rows statements cursors =
    ap₂ (λ (ss : List StatementState) (hs : List HeldCursor). cursors_with ss hs rows) statements cursors

-- a store that is as it was
pub same_store : (old new : StoreState) → new.catalog ≡ old.catalog → new.cursors ≡ old.cursors → new ≡ old
same_store old new catalog cursors =
    ap₂ (λ (k : Catalog) (hs : List HeldCursor). let s : StoreState = record { catalog = k; cursors = hs } in s) catalog
    cursors

pub loaded : (old new : StoreState) (olds news : List Contents) (rows : List Waiting) (executions : ℕ)
    (settings : Settings) (name bytes : List ℕ) (version : Version) → IsKeptWhole old olds rows executions settings
    → loading_of (held_by old.cursors) old.catalog name bytes ≡ Ok version
    → new.catalog ≡ with_version old.catalog name version → new.cursors ≡ old.cursors
    → AreCleared name new.catalog.statements olds news
    → IsWholeBy (λ a b. LoadStep a name (Some bytes)
    (reply.Loaded name (length version.content.rows) (length version.content.schema)) b)
    old new olds news rows executions executions settings
loaded old new olds news rows executions settings name bytes version h e made cursors gone =
    let statements = ap (λ (k : Catalog). k.statements) made in
    let held = held_are old.catalog.statements old.cursors rows h.one_each in
    whole_by (λ a b. LoadStep a name (Some bytes)
    (reply.Loaded name (length version.content.rows) (length version.content.schema)) b)
    old new olds news rows executions executions settings h (same_open old new rows statements cursors) cursors
    (subst (λ (ss : List StatementState). All (IsWaiting ss) rows) (sym statements) h.waits)
    (load_kept old.catalog new.catalog olds news (open_in old rows) executions settings name bytes version h.kept
    (ap (λ (vs : List Version). loading_of vs old.catalog name bytes) held ∙ e) made gone)

pub load_refused : (old new : StoreState) (caches : List Contents) (rows : List Waiting) (executions : ℕ)
    (settings : Settings) (now : State) (name bytes : List ℕ) (why : Refusal)
    → IsKeptWhole old caches rows executions settings → session_in old caches rows executions settings ≡ now
    → loading_of (held_by old.cursors) old.catalog name bytes ≡ Err why → new.catalog ≡ old.catalog
    → new.cursors ≡ old.cursors
    → LoadStep now name (Some bytes) (reply.Refused why) (session_in new caches rows executions settings)
load_refused old new caches rows executions settings now name bytes why h view e catalog cursors =
    let held = held_are old.catalog.statements old.cursors rows h.one_each in
    let same : new ≡ old = same_store old new catalog cursors in
    subst (λ (s : State). LoadStep s name (Some bytes) (reply.Refused why)
    (session_in new caches rows executions settings)) view
    (subst (λ (n : StoreState). LoadStep (session_in old caches rows executions settings) name (Some bytes)
    (reply.Refused why) (session_in n caches rows executions settings)) (sym same)
    (refused (session_in old caches rows executions settings)
    (ap (λ (vs : List Version). loading_of vs old.catalog name bytes) held ∙ e)))
  where
    refused : (s : State) → loading_of (held_versions s.cursors) s.catalog name bytes ≡ Err why
        → LoadStep s name (Some bytes) (reply.Refused why) s
    refused s is = rw is (record { says = refl; unchanged = refl })

pub indexed : (old new : StoreState) (olds news : List Contents) (rows : List Waiting) (executions : ℕ)
    (settings : Settings) (table column : List ℕ) (number : ℕ) → IsKeptWhole old olds rows executions settings
    → indexing_of old.catalog table column ≡ Ok number → new.catalog ≡ with_index old.catalog table number
    → new.cursors ≡ old.cursors → AreCleared table new.catalog.statements olds news
    → IsWholeBy (λ a b. IndexStep a table column (reply.Indexed table column) b) old new olds news rows executions
    executions settings
indexed old new olds news rows executions settings table column number h e made cursors gone =
    let statements = ap (λ (k : Catalog). k.statements) made in
    whole_by (λ a b. IndexStep a table column (reply.Indexed table column) b) old new olds news rows executions
    executions settings h (same_open old new rows statements cursors) cursors
    (subst (λ (ss : List StatementState). All (IsWaiting ss) rows) (sym statements) h.waits)
    (index_kept old.catalog new.catalog olds news (open_in old rows) executions settings table column number h.kept e
    made gone)

pub prepared : (old new : StoreState) (olds : List Contents) (cache : Contents) (rows : List Waiting) (executions : ℕ)
    (settings : Settings) (name : List ℕ) (select : Parts) (q : Statement) → IsSound select
    → IsKeptWhole old olds rows executions settings → preparing_of old.catalog name select ≡ Ok q
    → new.catalog ≡ with_statement old.catalog name q → new.cursors ≡ old.cursors → state_of cache ≡ empty_cache
    → IsWholeBy (λ a b. PrepareStep a name select
    (reply.Prepared name (length q.places) (length q.preds) (length (kinds_of q.places q.preds))) b)
    old new olds (olds ++ cache ∷ []) rows executions executions settings
prepared old new olds cache rows executions settings name select q parts h e made cursors empty =
    let own : StatementState = record { name = name; statement = q } in
    let statements : new.catalog.statements ≡ old.catalog.statements ++ own ∷ [] =
    ap (λ (k : Catalog). k.statements) made in
    let same = ap₂ (λ (ss : List StatementState) (hs : List HeldCursor). cursors_with ss hs rows) statements cursors
    ∙ with_behind old.catalog.statements own old.cursors rows h.waits in
    whole_by (λ a b. PrepareStep a name select
    (reply.Prepared name (length q.places) (length q.preds) (length (kinds_of q.places q.preds))) b)
    old new olds (olds ++ cache ∷ []) rows executions executions settings h same cursors
    (subst (λ (ss : List StatementState). All (IsWaiting ss) rows) (sym statements)
    (waits_behind old.catalog.statements own rows h.waits))
    (prepare_kept old.catalog new.catalog olds cache (open_in old rows) executions settings name select q parts h.kept e
    made empty)

-- Openings.

-- a run that was executed
record HasRun (old : State) (name : List ℕ) (args : List Value) (execution : Execution) (lines : List (List ℕ))
    (new : State) : Type 0 where
  pub instance : Instance
  pub instance_is : instance_of old.catalog name args ≡ Ok instance
  pub few : rows_refusal (length (meaning_of instance.statement (present_tables old instance.statement) instance.args))
      ≡ None
  pub executes : Executes old name instance.statement instance.args (reply.Ran execution lines) new

refuses_none : (why : Refusal) (old new : State) (execution : Execution) (lines : List (List ℕ))
    → Refuses why old (reply.Ran execution lines) new → ⊥
refuses_none why old new execution lines r = let says = r.says in absurd cc

has_run : (old new : State) (name : List ℕ) (args : List Value) (execution : Execution) (lines : List (List ℕ))
    → RunStep old name args (reply.Ran execution lines) new → HasRun old name args execution lines new
has_run old new name args execution lines step = by_instance (instance_of old.catalog name args) refl step
  where
    by_rows : (i : Instance) (o : Option Refusal) → instance_of old.catalog name args ≡ Ok i
        → rows_refusal (length (meaning_of i.statement (present_tables old i.statement) i.args)) ≡ o
        → MatchOption o (Executes old name i.statement i.args (reply.Ran execution lines) new)
        (λ why. Refuses why old (reply.Ran execution lines) new) → HasRun old name args execution lines new
    by_rows i None is few e = record { instance = i; instance_is = is; few = few; executes = e }
    by_rows i (Some why) is few r = absurd (refuses_none why old new execution lines r)

    by_instance : (r : Result Instance Refusal) → instance_of old.catalog name args ≡ r
        → MatchResult r (λ i. InstanceStep old name i.statement i.args (reply.Ran execution lines) new)
        (λ why. Refuses why old (reply.Ran execution lines) new) → HasRun old name args execution lines new
    by_instance (Err why) is r = absurd (refuses_none why old new execution lines r)
    by_instance (Ok i) is s =
        by_rows i (rows_refusal (length (meaning_of i.statement (present_tables old i.statement) i.args))) is refl s

opens_by : (old new : State) (cursor name : List ℕ) (args : List Value) (answer : Reply) (i : Instance)
    → holding_refusal (holds_of old.cursors) cursor ≡ None → instance_of old.catalog name args ≡ Ok i
    → rows_refusal (length (meaning_of i.statement (present_tables old i.statement) i.args)) ≡ None
    → Opens old cursor name i.statement i.args answer new → CursorStep old cursor name args answer new
opens_by old new cursor name args answer i free is few o = rw (free, is, few) o

pub open_refused : (old : State) (cursor name : List ℕ) (args : List Value) (why : Refusal)
    → holding_refusal (holds_of old.cursors) cursor ≡ Some why
    → CursorStep old cursor name args (reply.Refused why) old
open_refused old cursor name args why taken = rw taken (record { says = refl; unchanged = refl })

-- a run that is refused is so for a cursor too
pub refused_open : (old new : State) (cursor name : List ℕ) (args : List Value) (why : Refusal)
    → holding_refusal (holds_of old.cursors) cursor ≡ None → RunStep old name args (reply.Refused why) new
    → CursorStep old cursor name args (reply.Refused why) new
refused_open old new cursor name args why free step =
    let open_step : OpenStep old cursor name args (reply.Refused why) new =
    by_instance (instance_of old.catalog name args) step in rw free open_step
  where
    by_rows : (i : Instance) (o : Option Refusal)
        → MatchOption o (Executes old name i.statement i.args (reply.Refused why) new)
        (λ w. Refuses w old (reply.Refused why) new)
        → MatchOption o (Opens old cursor name i.statement i.args (reply.Refused why) new)
        (λ w. Refuses w old (reply.Refused why) new)
    by_rows i None e = let says = e.says in absurd cc
    by_rows i (Some w) r = r

    by_instance : (r : Result Instance Refusal)
        → MatchResult r (λ i. InstanceStep old name i.statement i.args (reply.Refused why) new)
        (λ w. Refuses w old (reply.Refused why) new)
        → MatchResult r (λ i. OpenInstanceStep old cursor name i.statement i.args (reply.Refused why) new)
        (λ w. Refuses w old (reply.Refused why) new)
    by_instance (Err w) r = r
    by_instance (Ok i) s =
        by_rows i (rows_refusal (length (meaning_of i.statement (present_tables old i.statement) i.args))) s

within_limit : (n : ℕ) → rows_refusal n ≡ None → n ≤ 1000000
within_limit n e = by_test (nat_le n 1000000) refl e
  where
    by_test : (test : Bool) → nat_le n 1000000 ≡ test → cond test None (Some too_many_rows) ≡ None → n ≤ 1000000
    by_test true is e = grind (arith, nat_tests)
    by_test false is e = absurd cc

pub record IsOpened (old new : StoreState) (olds news : List Contents) (rows : List Waiting) (waiting : Waiting)
    (executions : ℕ) (settings : Settings) (cursor name : List ℕ) (args : List Value) (execution : Execution)
    : Type 0 where
  pub steps : CursorStep (session_in old olds rows executions settings) cursor name args
      (reply.Opened cursor execution) (session_in new news (rows ++ waiting ∷ []) (executions + 1) settings)
  pub kept : IsKeptWhole new news (rows ++ waiting ∷ []) (executions + 1) settings

-- the store with one more cursor
abbrev pub held_more : StoreState → List ℕ → Statement → StoreState
held_more store cursor q = record store {
  cursors = store.cursors ++ record { name = cursor; held = versions_of store.catalog.tables q } ∷ [];
}

abbrev pub rows_of : ℕ → Rows → Waiting
rows_of number rows = record { statement = number; rows = rows; fetched = 0 }

-- the session in which these cursors and one more are open
abbrev with_open : Catalog → List Contents → List CursorState → ℕ → Settings → List ℕ → Statement → List (List ℕ) →
    State
with_open catalog caches cursors executions settings cursor q lines =
    session_of catalog caches
    (cursors ++ record { name = cursor; held = versions_of catalog.tables q; lines = lines } ∷ []) executions settings

one_found : (o : Option Statement) (p q : Statement) → o ≡ Some p → o ≡ Some q → p ≡ q
one_found o p q e f = let same : Some p ≡ Some q = sym e ∙ f in cc

pub opened : (old : StoreState) (olds news : List Contents) (ws : List Waiting) (executions : ℕ) (settings : Settings)
    (cursor name : List ℕ) (args : List Value) (execution : Execution) (rows : Rows) (number : ℕ) (q : Statement)
    → IsKeptWhole old olds ws executions settings → holding_refusal old.cursors cursor ≡ None
    → option_map (λ (s : StatementState). s.statement) (slice_get old.catalog.statements number) ≡ Some q
    → find_statement old.catalog.statements name ≡ Some q
    → RunsKept lines_of old.catalog olds news executions settings name args (Ok (execution, rows)) (open_in old ws)
    → IsOpened old (held_more old cursor q) olds news ws (rows_of number rows) executions settings cursor name args
    execution
opened old olds news ws executions settings cursor name args execution rows number q h free there found runs =
    let s : State = session_in old olds ws executions settings in
    let mid : State = session_of old.catalog news (open_in old ws) (executions + 1) settings in
    let w : Waiting = rows_of number rows in
    let new : State = session_in (held_more old cursor q) news (ws ++ w ∷ []) (executions + 1) settings in
    let r = has_run s mid name args execution (lines_of runs.runs.0 rows) runs.runs.2 in
    let i : Instance = r.instance in
    let meant : List (List ℕ) = map row_line (meaning_of i.statement (present_tables s i.statement) i.args) in
    let says = r.executes.says in
    let its_own : execution ≡ r.executes.step.execution = cc in
    let its_lines : lines_of runs.runs.0 rows ≡ meant = cc in
    let same : i.statement ≡ q =
    one_found (find_statement old.catalog.statements name) i.statement q
    (statement_found old.catalog name args i r.instance_is).0 found in
    let shown : runs.runs.0 ≡ q = one_found (find_statement old.catalog.statements name) _ q runs.runs.1 found in
    let lines : lines_of q rows ≡ meant = ap (λ (p : Statement). lines_of p rows) (sym shown) ∙ its_lines in
    let waits : lines_waiting old.catalog.statements w ≡ meant = lines_are old.catalog.statements w q there ∙ lines in
    let free' : holding_refusal (holds_of s.cursors) cursor ≡ None =
    ap (λ (hs : List HeldCursor). holding_refusal hs cursor)
    (holds_are old.catalog.statements old.cursors ws h.one_each) ∙ free in
    let keeps : new ≡ with_open old.catalog news (open_in old ws) (executions + 1) settings cursor i.statement meant =
    ap (λ (cs : List CursorState). session_of old.catalog news cs (executions + 1) settings)
    (cursors_behind old.catalog.statements old.cursors ws
    (record { name = cursor; held = versions_of old.catalog.tables q }) w h.one_each)
    ∙ ap₂ (with_open old.catalog news (open_in old ws) (executions + 1) settings cursor) (sym same) waits in
    let step = opens_by s new cursor name args (reply.Opened cursor execution) i free' r.instance_is r.few
    (record {
      middle = mid;
      step = r.executes.step;
      says = ap (reply.Opened cursor) its_own;
      keeps = keeps;
    }) in
    let long : length (rows_seen q rows)
    ≡ length (meaning_of i.statement (present_tables s i.statement) i.args) =
    sym (length-map (rows_seen q rows) row_line)
    ∙ (ap (λ (ls : List (List ℕ)). length ls) lines ∙ length-map _ row_line) in
    let few = within_limit _ r.few in
    let one_each = h.one_each in
    record {
      steps = step;
      kept = record {
        kept = record {
          session = cursor_keeps s new cursor name args _ h.kept.session step;
          costed = runs.kept.costed;
        };
        one_each = length-append ws (w ∷ []) ∙ (ap (λ n. n + 1) one_each ∙ sym (length-append old.cursors _));
        waits = waits_more old.catalog.statements ws w h.waits
            (record { statement = q; there = there; few = omega (arith, long, few) });
      };
    }

-- Fetches.

pub unknown_fetch : (old : State) (cursor : List ℕ) (count : ℕ) (why : Refusal)
    → cursor_number (holds_of old.cursors) cursor ≡ None → why ≡ unknown_cursor (canonical_name cursor)
    → FetchStep old cursor count (reply.Refused why) old
unknown_fetch old cursor count why none is =
    rw (not_named old.cursors cursor none) (record { says = ap reply.Refused is; unchanged = refl })

fetches : (old new : State) (cursor : List ℕ) (count : ℕ) (waiting : CursorState) (answer : Reply)
    → cursor_named old.cursors cursor ≡ Some waiting → Fetches old cursor waiting count answer new
    → FetchStep old cursor count answer new
fetches old new cursor count waiting answer is f = rw is f

pub record IsFetched (store : StoreState) (caches : List Contents) (ws news : List Waiting) (executions : ℕ)
    (settings : Settings) (cursor : List ℕ) (count : ℕ) (lines : List (List ℕ)) (left : ℕ) : Type 0 where
  pub steps : FetchStep (session_in store caches ws executions settings) cursor count
      (reply.Fetched cursor lines left) (session_in store caches news executions settings)
  pub kept : IsKeptWhole store caches news executions settings

-- of the rows of this number
pub record AreFetched (was w : Waiting) (q : Statement) (count : ℕ) (lines : List (List ℕ)) (left : ℕ) : Type 0 where
  pub first : lines ≡ take count (drop was.fetched (lines_of q was.rows))
  pub rest : drop w.fetched (lines_of q w.rows) ≡ drop count (drop was.fetched (lines_of q was.rows))
  pub statement : w.statement ≡ was.statement
  pub rows : w.rows ≡ was.rows
  pub left_are : left ≡ length (drop w.fetched (lines_of q w.rows))

pub fetched : (store : StoreState) (caches : List Contents) (ws : List Waiting) (executions : ℕ) (settings : Settings)
    (cursor : List ℕ) (count number : ℕ) (was w : Waiting) (q : Statement) (lines : List (List ℕ)) (left : ℕ)
    → IsKeptWhole store caches ws executions settings → cursor_number store.cursors cursor ≡ Some number
    → was ≡ slice_index_or ws number was
    → option_map (λ (s : StatementState). s.statement) (slice_get store.catalog.statements was.statement) ≡ Some q
    → AreFetched was w q count lines left
    → IsFetched store caches ws (set ws number w) executions settings cursor count lines left
fetched store caches ws executions settings cursor count number was w q lines left h is read there f =
    let ss : List StatementState = store.catalog.statements in
    let s : State = session_in store caches ws executions settings in
    let new : State = session_in store caches (set ws number w) executions settings in
    let one = named_at ss store.cursors ws cursor number was h.one_each is in
    let before : lines_waiting ss (slice_index_or ws number was) ≡ drop was.fetched (lines_of q was.rows) =
    ap (lines_waiting ss) (sym read) ∙ lines_are ss was q there in
    let there' : option_map (λ (s : StatementState). s.statement) (slice_get ss w.statement) ≡ Some q =
    ap (λ n. option_map (λ (s : StatementState). s.statement) (slice_get ss n)) f.statement ∙ there in
    let after : lines_waiting ss w ≡ drop count (lines_waiting ss (slice_index_or ws number was)) =
    lines_are ss w q there' ∙ (f.rest ∙ ap (drop count) (sym before)) in
    let says : reply.Fetched cursor lines left
    ≡ reply.Fetched cursor (take count (lines_waiting ss (slice_index_or ws number was)))
    (length (drop count (lines_waiting ss (slice_index_or ws number was)))) =
    ap₂ (reply.Fetched cursor) (f.first ∙ ap (take count) (sym before))
    (f.left_are ∙ ap (λ (ls : List (List ℕ)). length ls) (f.rest ∙ ap (drop count) (sym before))) in
    let step = fetches s new cursor count _ (reply.Fetched cursor lines left) one.named
    (record {
      says = says;
      keeps = ap (λ (cs : List CursorState). session_of store.catalog caches cs executions settings)
          (one.fetched count w after);
    }) in
    let own = waits_there ss ws number was one.less h.waits in
    let few = own.few in
    record {
      steps = step;
      kept = record {
        kept = record { session = fetch_keeps s new cursor count _ h.kept.session step; costed = h.kept.costed };
        one_each = set_long ws number w ∙ h.one_each;
        waits = waits_set ss ws number w h.waits
            (record {
              statement = own.statement;
              there = ap (λ n. option_map (λ (s : StatementState). s.statement) (slice_get ss n))
                  (f.statement ∙ ap (λ (v : Waiting). v.statement) read) ∙ own.there;
              few = subst (λ (rows : Rows). length (rows_seen own.statement rows) ≤ 1000000)
                  (sym (f.rows ∙ ap (λ (v : Waiting). v.rows) read)) few;
            });
      };
    }
  where
    set_long : (vs : List Waiting) (n : ℕ) (v : Waiting) → length (set vs n v) ≡ length vs
    set_long [] n v = refl
    set_long (x ∷ vs) zero v = refl
    set_long (x ∷ vs) (suc n) v = ap suc (set_long vs n v)

pub fetch_shown : (old now new : State) (cursor shown : List ℕ) (count : ℕ) (lines : List (List ℕ)) (left : ℕ)
    → old ≡ now → shown ≡ cursor → FetchStep old cursor count (reply.Fetched cursor lines left) new
    → FetchStep now cursor count (reply.Fetched shown lines left) new
fetch_shown old now new cursor shown count lines left same copy step =
    subst (λ (n : List ℕ). FetchStep now cursor count (reply.Fetched n lines left) new) (sym copy)
    (subst (λ (s : State). FetchStep s cursor count (reply.Fetched cursor lines left) new) same step)

-- the number of an open cursor, as the store tells it
pub number_in : (store : StoreState) (caches : List Contents) (ws : List Waiting) (executions : ℕ) (settings : Settings)
    (now : State) (cursor : List ℕ) (found : Option ℕ) → IsKeptWhole store caches ws executions settings
    → session_in store caches ws executions settings ≡ now → cursor_number (holds_of now.cursors) cursor ≡ found
    → cursor_number store.cursors cursor ≡ found
number_in store caches ws executions settings now cursor found h view is =
    ap (λ (hs : List HeldCursor). cursor_number hs cursor)
    (sym (holds_are store.catalog.statements store.cursors ws h.one_each))
    ∙ (ap (λ (s : State). cursor_number (holds_of s.cursors) cursor) view ∙ is)

pub number_told : (store : StoreState) (caches : List Contents) (ws : List Waiting) (executions : ℕ)
    (settings : Settings) (now : State) (cursor : List ℕ) (found : Option ℕ)
    → IsKeptWhole store caches ws executions settings → session_in store caches ws executions settings ≡ now
    → found ≡ cursor_number store.cursors cursor → cursor_number (holds_of now.cursors) cursor ≡ found
number_told store caches ws executions settings now cursor found h view is =
    ap (λ (s : State). cursor_number (holds_of s.cursors) cursor) (sym view)
    ∙ (ap (λ (hs : List HeldCursor). cursor_number hs cursor)
    (holds_are store.catalog.statements store.cursors ws h.one_each) ∙ sym is)

pub named_less : (store : StoreState) (caches : List Contents) (ws : List Waiting) (executions : ℕ)
    (settings : Settings) (cursor : List ℕ) (number : ℕ) → IsKeptWhole store caches ws executions settings
    → cursor_number store.cursors cursor ≡ Some number → number < length ws
named_less store caches ws executions settings cursor number h is =
    by_first ws refl
  where
    by_first : (vs : List Waiting) → vs ≡ ws → number < length ws
    by_first [] e =
        let none = ap (λ (xs : List Waiting). length xs) e ∙ h.one_each in
        absurd (never store.cursors (omega (arith, none)) is)
      where
        never : (hs : List HeldCursor) → length hs ≡ 0 → cursor_number hs cursor ≡ Some number → ⊥
        never [] k found = absurd cc
        never (c ∷ hs) k found = absurd (omega (arith, k))
    by_first (v ∷ vs) e = (named_at store.catalog.statements store.cursors ws cursor number v h.one_each is).less

-- the rows of the cursor of a number
pub record AreRowsAt (store : StoreState) (ws : List Waiting) (number : ℕ) (was : Waiting) : Type 0 where
  pub less : number < length ws
  pub statement : was.statement < length store.catalog.statements
  pub few : (w : Waiting) (left : ℕ) → w.rows ≡ was.rows
      → ((q : Statement) → left ≡ length (drop w.fetched (lines_of q w.rows))) → left ≤ 1000000

pub rows_at : (store : StoreState) (caches : List Contents) (ws : List Waiting) (executions : ℕ) (settings : Settings)
    (cursor : List ℕ) (number : ℕ) (was : Waiting) → IsKeptWhole store caches ws executions settings
    → cursor_number store.cursors cursor ≡ Some number → was ≡ slice_index_or ws number was
    → AreRowsAt store ws number was
rows_at store caches ws executions settings cursor number was h is read =
    let ss : List StatementState = store.catalog.statements in
    let one = named_at ss store.cursors ws cursor number was h.one_each is in
    let own : IsWaiting ss was = subst (IsWaiting ss) (sym read) (waits_there ss ws number was one.less h.waits) in
    record {
      less = one.less;
      statement = statement_less ss was own;
      few = λ w left same count.
          let rows = subst (λ (r : Rows). length (rows_seen own.statement r) ≤ 1000000) (sym same) own.few in
          let all = length-map (rows_seen own.statement w.rows) row_line in
          let some = count own.statement in
          let most = length-drop w.fetched (lines_of own.statement w.rows) in
          omega (arith, rows, all, some, most);
    }

-- Closings.

pub unknown_close : (old : State) (cursor : List ℕ) (why : Refusal)
    → cursor_number (holds_of old.cursors) cursor ≡ None → why ≡ unknown_cursor (canonical_name cursor)
    → CloseStep old cursor (reply.Refused why) old
unknown_close old cursor why none is =
    rw (not_named old.cursors cursor none) (record { says = ap reply.Refused is; unchanged = refl })

closes : (old new : State) (cursor : List ℕ) (waiting : CursorState) (answer : Reply)
    → cursor_named old.cursors cursor ≡ Some waiting → Closes old cursor answer new → CloseStep old cursor answer new
closes old new cursor waiting answer is c = rw is c

abbrev pub held_less : StoreState → List ℕ → StoreState
held_less store cursor = record store { cursors = without_cursor cursor store.cursors }

pub record IsClosed (store : StoreState) (caches : List Contents) (ws news : List Waiting) (executions : ℕ)
    (settings : Settings) (cursor : List ℕ) : Type 0 where
  pub steps : CloseStep (session_in store caches ws executions settings) cursor (reply.Closed cursor)
      (session_in (held_less store cursor) caches news executions settings)
  pub kept : IsKeptWhole (held_less store cursor) caches news executions settings

pub closed : (store : StoreState) (caches : List Contents) (ws : List Waiting) (executions : ℕ) (settings : Settings)
    (cursor : List ℕ) (number : ℕ) (d : Waiting) → IsKeptWhole store caches ws executions settings
    → cursor_number store.cursors cursor ≡ Some number
    → IsClosed store caches ws (remove ws number) executions settings cursor
closed store caches ws executions settings cursor number d h is =
    let ss : List StatementState = store.catalog.statements in
    let s : State = session_in store caches ws executions settings in
    let new : State = session_in (held_less store cursor) caches (remove ws number) executions settings in
    let one = named_at ss store.cursors ws cursor number d h.one_each is in
    let step = closes s new cursor _ (reply.Closed cursor) one.named
    (record {
      says = refl;
      drops = ap (λ (cs : List CursorState). session_of store.catalog caches cs executions settings) one.closed;
    }) in
    record {
      steps = step;
      kept = record {
        kept = record { session = close_keeps s new cursor _ h.kept.session step; costed = h.kept.costed };
        one_each = one.fewer;
        waits = waits_left ss ws number h.waits;
      };
    }

pub close_shown : (old now new : State) (cursor shown : List ℕ) → old ≡ now → shown ≡ cursor
    → CloseStep old cursor (reply.Closed cursor) new → CloseStep now cursor (reply.Closed shown) new
close_shown old now new cursor shown same copy step =
    subst (λ (n : List ℕ). CloseStep now cursor (reply.Closed n) new) (sym copy)
    (subst (λ (s : State). CloseStep s cursor (reply.Closed cursor) new) same step)

-- what the store leaves where a cursor is open
pub closed_store : (old new : StoreState) (cursor : List ℕ) (answer : Bool) → is_open cursor old.cursors ≡ true
    → store.Closes old cursor answer new → new ≡ held_less old cursor
closed_store old new cursor true there c = c.1
closed_store old new cursor false there c = let none = c.0 in absurd cc

pub number_open : (old : StoreState) (cursor : List ℕ) (number : ℕ) → cursor_number old.cursors cursor ≡ Some number
    → is_open cursor old.cursors ≡ true
number_open old cursor number is = (gone cursor old.cursors number (sym is)).0

-- The store's side of an opening.

-- no cursor of this name is held, and there is room for one, as the session sees it
pub free_told : (store : StoreState) (caches : List Contents) (ws : List Waiting) (executions : ℕ) (settings : Settings)
    (now : State) (cursor : List ℕ) (o : Option Refusal) → IsKeptWhole store caches ws executions settings
    → session_in store caches ws executions settings ≡ now → holding_refusal store.cursors cursor ≡ o
    → holding_refusal (holds_of now.cursors) cursor ≡ o
free_told store caches ws executions settings now cursor o h view is =
    ap (λ (s : State). holding_refusal (holds_of s.cursors) cursor) (sym view)
    ∙ (ap (λ (hs : List HeldCursor). holding_refusal hs cursor)
    (holds_are store.catalog.statements store.cursors ws h.one_each) ∙ is)

no_number : (ss : List StatementState) (name : List ℕ) → number_of ss name ≡ None → find_statement ss name ≡ None
no_number [] name e = refl
no_number (s ∷ ss) name e =
    by_test (bytes_eq name s.name) (number_of ss name) refl
    (sym (position_next (λ (p : StatementState). bytes_eq name p.name) s ss) ∙ e) (no_number ss name)
  where
    by_test : (test : Bool) (o : Option ℕ) → bytes_eq name s.name ≡ test
        → cond test (Some 0) (option_map suc o) ≡ None → (o ≡ None → find_statement ss name ≡ None)
        → find_statement (s ∷ ss) name ≡ None
    by_test true o is k later = absurd cc
    by_test false (Some n) is k later = absurd cc
    by_test false None is k later = rw is (later refl)

-- the statement isn't there
pub unknown_open : (old : State) (cursor name : List ℕ) (args : List Value) (why : Refusal)
    → holding_refusal (holds_of old.cursors) cursor ≡ None → number_of old.catalog.statements name ≡ None
    → why ≡ unknown_statement (canonical_name name) → CursorStep old cursor name args (reply.Refused why) old
unknown_open old cursor name args why free none is =
    let refused = unknown old.catalog name args (canonical_name name) (no_number old.catalog.statements name none) refl
    in
    rw (free, refused) (record { says = ap reply.Refused is; unchanged = refl })

-- the store with the cursor that it holds from now on
pub record IsHeldFor (old new : StoreState) (cursor name : List ℕ) (number : ℕ) : Type 0 where
  pub q : Statement
  pub there : option_map (λ (s : StatementState). s.statement) (slice_get old.catalog.statements number) ≡ Some q
  pub found : find_statement old.catalog.statements name ≡ Some q
  pub held : new ≡ held_more old cursor q

pub held_for : (old new : StoreState) (cursor name : List ℕ) (number : ℕ)
    → number_of old.catalog.statements name ≡ Some number
    → ((q : Statement) → option_map (λ (s : StatementState). s.statement) (slice_get old.catalog.statements number)
    ≡ Some q → new ≡ held_more old cursor q) → IsHeldFor old new cursor name number
held_for old new cursor name number is holds =
    let one = numbered old.catalog.statements name number is in
    let there = ap (option_map (λ (s : StatementState). s.statement)) one.there in
    record { q = one.prepared.statement; there = there; found = one.found; held = holds one.prepared.statement there }

-- memory was short for it
pub not_held : (old new : StoreState) (name : List ℕ) (number : ℕ)
    → number_of old.catalog.statements name ≡ Some number
    → ((q : Statement) → option_map (λ (s : StatementState). s.statement) (slice_get old.catalog.statements number)
    ≡ Some q → new ≡ old) → new ≡ old
not_held old new name number is same =
    let one = numbered old.catalog.statements name number is in
    same one.prepared.statement (ap (option_map (λ (s : StatementState). s.statement)) one.there)

own_name : (name : List ℕ) → bytes_eq name name ≡ true
own_name name = (bytes_eq-Decides name name).1 refl

last_open : (name : List ℕ) (hs : List HeldCursor) (h : HeldCursor) → h.name ≡ name
    → is_open name (hs ++ h ∷ []) ≡ true
last_open name [] h e = by_test (bytes_eq h.name name) (ap (λ (n : List ℕ). bytes_eq n name) e ∙ own_name name)
  where
    by_test : (test : Bool) → test ≡ true → (test || false) ≡ true
    by_test true e = refl
    by_test false e = absurd cc
last_open name (first ∷ hs) h e = by_test (bytes_eq first.name name) (last_open name hs h e)
  where
    by_test : (test : Bool) → is_open name (hs ++ h ∷ []) ≡ true → (test || is_open name (hs ++ h ∷ [])) ≡ true
    by_test true later = refl
    by_test false later = later

not_open : (cursors : List HeldCursor) (name : List ℕ) → holding_refusal cursors name ≡ None
    → is_open name cursors ≡ false
not_open cursors name e = by_test (is_open name cursors) _ _ refl e
  where
    by_test : (test : Bool) (taken : Refusal) (rest : Option Refusal) → is_open name cursors ≡ test
        → cond test (Some taken) rest ≡ None → is_open name cursors ≡ false
    by_test true taken rest is k = absurd cc
    by_test false taken rest is k = is

-- it is closed again
closed_again : (old new last : StoreState) (cursor name : List ℕ) (number : ℕ) (answer : Bool)
    → IsHeldFor old new cursor name number → holding_refusal old.cursors cursor ≡ None
    → store.Closes new cursor answer last → last ≡ old
closed_again old new last cursor name number answer f free c =
    let h : HeldCursor = record { name = cursor; held = versions_of old.catalog.tables f.q } in
    let there : is_open cursor new.cursors ≡ true =
    ap (λ (s : StoreState). is_open cursor s.cursors) f.held ∙ last_open cursor old.cursors h refl in
    closed_store new last cursor answer there c
    ∙ (ap (λ (s : StoreState). held_less s cursor) f.held
    ∙ ap (λ (hs : List HeldCursor). let s : StoreState = record { catalog = old.catalog; cursors = hs } in s)
    (without_last old.cursors h (not_open old.cursors cursor free) (own_name cursor)))

-- the opening, as the session makes it
pub record IsOpening (old new : StoreState) (olds news : List Contents) (ws after : List Waiting) (executions : ℕ)
    (settings : Settings) (cursor name : List ℕ) (args : List Value) (execution : Execution) : Type 0 where
  pub steps : CursorStep (session_in old olds ws executions settings) cursor name args
      (reply.Opened cursor execution) (session_in new news after (executions + 1) settings)
  pub kept : IsKeptWhole new news after (executions + 1) settings

-- what the run of the session says, whatever its cursors are
abbrev pub RunsWith : {A : Type 0} → (Statement → A → List (List ℕ)) → StoreState → List Contents → List Contents → ℕ
    → Settings → List ℕ → List Value → Result (Execution × A) Refusal → Type 0
RunsWith lines new olds news executions settings name args outcome =
    (cursors : List CursorState) → IsSessionKept new.catalog olds cursors executions settings
    → RunsKept lines new.catalog olds news executions settings name args outcome cursors

pub opening : (old new : StoreState) (olds given news : List Contents) (ws after : List Waiting) (executions : ℕ)
    (settings : Settings) (cursor name : List ℕ) (args : List Value) (execution : Execution) (rows : Rows) (number : ℕ)
    → IsHeldFor old new cursor name number → IsKeptWhole old olds ws executions settings
    → holding_refusal old.cursors cursor ≡ None → given ≡ olds → after ≡ ws ++ rows_of number rows ∷ []
    → RunsWith lines_of new given news executions settings name args (Ok (execution, rows))
    → IsOpening old new olds news ws after executions settings cursor name args execution
opening old new olds given news ws after executions settings cursor name args execution rows number f h free same more
    runs =
    let runs' = subst (λ (cs : List Contents). RunsWith lines_of new cs news executions settings name args
    (Ok (execution, rows))) same runs in
    subst (λ (vs : List Waiting). IsOpening old new olds news ws vs executions settings cursor name args execution)
    (sym more)
    (subst (λ (s : StoreState). RunsWith lines_of s olds news executions settings name args (Ok (execution, rows))
    → IsOpening old s olds news ws (ws ++ rows_of number rows ∷ []) executions settings cursor name args execution)
    (sym f.held)
    (λ r. by_opened f.q (opened old olds news ws executions settings cursor name args execution rows number f.q h free
    f.there f.found (r (open_in old ws) h.kept))) runs')
  where
    by_opened : (q : Statement) → IsOpened old (held_more old cursor q) olds news ws (rows_of number rows) executions
        settings cursor name args execution → IsOpening old (held_more old cursor q) olds news ws
        (ws ++ rows_of number rows ∷ []) executions settings cursor name args execution
    by_opened q o = record { steps = o.steps; kept = o.kept }

-- the opening is refused
pub record IsNotOpened (old new : StoreState) (olds news : List Contents) (ws : List Waiting) (executions : ℕ)
    (settings : Settings) (cursor name : List ℕ) (args : List Value) (why : Refusal) : Type 0 where
  pub steps : CursorStep (session_in old olds ws executions settings) cursor name args
      (reply.Refused why) (session_in new news ws executions settings)
  pub kept : IsKeptWhole new news ws executions settings

pub refused_opening : {A : Type 0} (lines : Statement → A → List (List ℕ)) (old new last : StoreState)
    (olds given news : List Contents) (ws : List Waiting) (executions : ℕ) (settings : Settings)
    (cursor name : List ℕ) (args : List Value) (why : Refusal) (number : ℕ) (answer : Bool)
    → IsHeldFor old new cursor name number → IsKeptWhole old olds ws executions settings
    → holding_refusal old.cursors cursor ≡ None → given ≡ olds → store.Closes new cursor answer last
    → RunsWith lines new given news executions settings name args (Err why)
    → IsNotOpened old last olds news ws executions settings cursor name args why
refused_opening lines old new last olds given news ws executions settings cursor name args why number answer f h free
    same closes runs =
    let catalog : new.catalog ≡ old.catalog = ap (λ (s : StoreState). s.catalog) f.held in
    let back : last ≡ old = closed_again old new last cursor name number answer f free closes in
    let kept = subst (λ (k : Catalog). IsSessionKept k olds (open_in old ws) executions settings) (sym catalog) h.kept
    in
    let r = subst (λ (cs : List Contents). RunsWith lines new cs news executions settings name args (Err why)) same runs
    (open_in old ws) kept in
    let r' = subst (λ (k : Catalog). RunsKept lines k olds news executions settings name args (Err why)
    (open_in old ws))
    catalog r in
    subst (λ (s : StoreState). IsNotOpened old s olds news ws executions settings cursor name args why) (sym back)
    (record {
      steps = refused_open (session_in old olds ws executions settings) (session_in old news ws executions settings)
          cursor name args why
          (free_told old olds ws executions settings (session_in old olds ws executions settings) cursor None h refl
          free)
          r'.runs;
      kept = record { kept = r'.kept; one_each = h.one_each; waits = h.waits };
    })

-- memory was short at it: all is as it was
pub record IsAsBefore (old new : StoreState) (olds news : List Contents) (ws : List Waiting) (executions : ℕ)
    (settings : Settings) : Type 0 where
  pub seen : session_in new news ws executions settings ≡ session_in old olds ws executions settings
  pub kept : IsKeptWhole new news ws executions settings

pub failed_opening : (old new last : StoreState) (olds given news : List Contents) (ws : List Waiting) (executions : ℕ)
    (settings : Settings) (cursor name : List ℕ) (number : ℕ) (answer : Bool)
    → IsHeldFor old new cursor name number → IsKeptWhole old olds ws executions settings
    → holding_refusal old.cursors cursor ≡ None → given ≡ olds → store.Closes new cursor answer last
    → ((cursors : List CursorState) → IsSessionKept new.catalog given cursors executions settings
    → IsUnchanged new.catalog given news executions settings cursors)
    → IsAsBefore old last olds news ws executions settings
failed_opening old new last olds given news ws executions settings cursor name number answer f h free same closes runs =
    let catalog : new.catalog ≡ old.catalog = ap (λ (s : StoreState). s.catalog) f.held in
    let back : last ≡ old = closed_again old new last cursor name number answer f free closes in
    let kept = subst (λ (k : Catalog). IsSessionKept k olds (open_in old ws) executions settings) (sym catalog) h.kept
    in
    let r = subst (λ (cs : List Contents). (cursors : List CursorState)
    → IsSessionKept new.catalog cs cursors executions settings
    → IsUnchanged new.catalog cs news executions settings cursors) same runs (open_in old ws) kept in
    let r' = subst (λ (k : Catalog). IsUnchanged k olds news executions settings (open_in old ws)) catalog r in
    subst (λ (s : StoreState). IsAsBefore old s olds news ws executions settings) (sym back)
    (record { seen = r'.seen; kept = record { kept = r'.kept; one_each = h.one_each; waits = h.waits } })

pub open_shown : (old now new : State) (cursor shown name : List ℕ) (args : List Value) (execution : Execution)
    → old ≡ now → shown ≡ cursor → CursorStep old cursor name args (reply.Opened cursor execution) new
    → CursorStep now cursor name args (reply.Opened shown execution) new
open_shown old now new cursor shown name args execution same copy step =
    subst (λ (n : List ℕ). CursorStep now cursor name args (reply.Opened n execution) new) (sym copy)
    (subst (λ (s : State). CursorStep s cursor name args (reply.Opened cursor execution) new) same step)

-- Counts.

pub counts_same : (old new : State) → new ≡ old → CountsOn old new
counts_same old new e =
    subst (CountsOn old) (sym e) (record { executions = omega arith; versions = omega arith })

pub counts_held : (old new : StoreState) (olds news : List Contents) (ws after : List Waiting) (executions : ℕ)
    (settings : Settings) (now : State) (cursor name : List ℕ) (number : ℕ) → IsHeldFor old new cursor name number
    → session_in old olds ws executions settings ≡ now
    → CountsOn now (session_in new news after (executions + 1) settings)
counts_held old new olds news ws after executions settings now cursor name number f view =
    let versions : new.catalog.versions ≡ old.catalog.versions =
    ap (λ (s : StoreState). s.catalog.versions) f.held in
    subst (λ (s : State). CountsOn s (session_in new news after (executions + 1) settings)) view
    (record { executions = omega arith; versions = omega (arith, versions) })

pub counts_back : (old new last : StoreState) (olds news : List Contents) (ws after : List Waiting) (executions : ℕ)
    (settings : Settings) (now : State) (cursor name : List ℕ) (number : ℕ) (answer : Bool)
    → IsHeldFor old new cursor name number → holding_refusal old.cursors cursor ≡ None
    → store.Closes new cursor answer last → session_in old olds ws executions settings ≡ now
    → CountsOn now (session_in last news after executions settings)
counts_back old new last olds news ws after executions settings now cursor name number answer f free closes view =
    let versions : last.catalog.versions ≡ old.catalog.versions =
    ap (λ (s : StoreState). s.catalog.versions) (closed_again old new last cursor name number answer f free closes) in
    subst (λ (s : State). CountsOn s (session_in last news after executions settings)) view
    (record { executions = omega arith; versions = omega (arith, versions) })
