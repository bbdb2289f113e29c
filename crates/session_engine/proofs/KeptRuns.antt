-- Sessions in which a statement was executed, or had too many rows.
use Rattle.std.proofs.Common.{ℕ, ◌≡◌, ◌<◌, ◌+◌, ◌∙◌, List, [], length, set, All, false, nat_le}
use Rattle.std.proofs.Common.{Some, Result, Ok, Err, OnErr, ap, refl, sym, subst, slice_get}
use Rattle.std.proofs.Common.{slice_index_or}
use Rattle.std.specs.Option.{option_map}
use Rattle.row_values.specs.Refusals.{refusal}
use Rattle.row_values.specs.Statements.{Statement}
use Rattle.row_values.specs.declared.refusals.Refusal.{Refusal}
use Rattle.row_values.specs.declared.values.Value.{Value}
use Rattle.plan_trees.specs.Statistics.{Statistics}
use Rattle.statement_meaning.specs.Meaning.{meaning_of}
use Rattle.anchor_cache.specs.Contents.{Contents, state_of}
use Rattle.script_report.specs.declared.replies.Execution.{Execution}
use Rattle.script_report.specs.declared.replies.Reply.TheVariants as reply
use Rattle.catalog_model.specs.Catalogs.{Catalog, StatementState, stats_now, tables_of}
use Rattle.catalog_model.specs.Instances.{instance_of}
use Rattle.catalog_model.proofs.Numbers.{numbered}
use Rattle.session_model.specs.State.{CursorState, State}
use Rattle.session_model.specs.Step.{RunStep}
use Rattle.session_model.specs.declared.settings.Settings.{Settings}
use Rattle.session_model.proofs.Sessions.{run_keeps}
use Rattle.session_store.specs.Outcomes.{IsInstance}
use Rattle.session_store.specs.declared.instances.Instance as stored
use Rattle.session_engine.specs.Executed.{Ran}
use Rattle.session_engine.specs.Running.{IsUnchanged, RunsKept}
use Rattle.session_engine.specs.Serving.{AreCosted, IsCosted, IsServing, IsSessionKept, session_of}
use Rattle.session_engine.proofs.KeptCaches.{AreCostedAt, IsSameSession, cache_less, same_session}
use Rattle.session_engine.proofs.KeptCaches.{serving_there}
use Rattle.session_engine.proofs.KeptSessions.{each_set_there, state_there, states_set, with_states}
use Rattle.session_engine.proofs.Ready.{its_query}
use Rattle.session_engine.proofs.Runs.{executed_run, too_large}

pub on_err : {T E : Type 0} (r : Result T E) (P : Type 0) → P → OnErr r P
on_err (Ok x) P p = tt
on_err (Err e) P p = p

-- a told instance of a kept session, its statement, and the rows of its tables
pub record IsToldOf (catalog : Catalog) (name : List ℕ) (args : List Value) (told : stored.Instance) (q : Statement)
    (rows : List (List (List Value))) : Type 0 where
  pub instance : IsInstance name (instance_of catalog name args) catalog args told
  pub there : option_map (λ (s : StatementState). s.statement) (slice_get catalog.statements told.statement) ≡ Some q
  pub rows_are : rows ≡ tables_of catalog.tables q

-- the statement is the instance's own
query_is : (catalog : Catalog) (name : List ℕ) (args : List Value) (told : stored.Instance) (q : Statement)
    (rows : List (List (List Value))) (t : IsToldOf catalog name args told q rows) → t.instance.query ≡ q
query_is catalog name args told q rows t =
    its_query name (instance_of catalog name args) catalog args told q t.instance t.there

pub stats_told : (catalog : Catalog) (name : List ℕ) (args : List Value) (told : stored.Instance) (q : Statement)
    (rows : List (List (List Value))) → IsToldOf catalog name args told q rows
    → told.stats ≡ stats_now catalog.tables catalog.weights q
stats_told catalog name args told q rows t =
    t.instance.stats_are ∙ ap (stats_now catalog.tables catalog.weights) (query_is catalog name args told q rows t)

pub told_less : (catalog : Catalog) (caches : List Contents) (cursors : List CursorState) (executions : ℕ)
    (settings : Settings) (name : List ℕ)
    (args : List Value) (told : stored.Instance) → IsSessionKept catalog caches cursors executions settings
    → IsInstance name (instance_of catalog name args) catalog args told → told.statement < length caches
told_less catalog caches cursors executions settings name args told h i =
    cache_less catalog caches cursors executions settings told.statement h i.number.0

-- the cache that was read serves the statement
pub serving_told : (catalog : Catalog) (caches : List Contents) (cursors : List CursorState) (executions : ℕ)
    (settings : Settings) (name : List ℕ)
    (args : List Value) (told : stored.Instance) (q : Statement) (rows : List (List (List Value))) (was : Contents)
    → IsSessionKept catalog caches cursors executions settings → IsToldOf catalog name args told q rows
    → was ≡ slice_index_or caches told.statement was → IsServing q told.stats executions settings.budget was
serving_told catalog caches cursors executions settings name args told q rows was h t read =
    subst (λ (cache : Contents). IsServing q told.stats executions settings.budget cache) (sym read)
    (subst (λ (s : Statistics). IsServing q s executions settings.budget (slice_index_or caches told.statement was))
    (sym (stats_told catalog name args told q rows t))
    (serving_there catalog caches cursors executions settings told.statement was q h t.there))

-- its plans afterwards have exact polynomials
pub costed_told : (catalog : Catalog) (name : List ℕ) (args : List Value) (told : stored.Instance) (q : Statement)
    (rows : List (List (List Value))) (cache : Contents) → IsToldOf catalog name args told q rows
    → All (IsCosted q told.stats) cache.plans → AreCostedAt catalog told.statement cache
costed_told catalog name args told q rows cache t costs = λ prepared found.
    let same : Some prepared.statement ≡ Some q =
    sym (ap (option_map (λ (s : StatementState). s.statement)) found) ∙ t.there in
    let one : q ≡ prepared.statement = cc in
    let now = subst (λ (s : Statistics). All (IsCosted q s) cache.plans) (stats_told catalog name args told q rows t)
    costs in
    subst (λ (p : Statement). All (IsCosted p (stats_now catalog.tables catalog.weights p)) cache.plans) one now

-- there were too many rows
pub run_refused : (catalog : Catalog) (caches : List Contents) (cursors : List CursorState) (executions : ℕ)
    (settings : Settings) (name : List ℕ)
    (args : List Value) (told : stored.Instance) (q : Statement) (rows : List (List (List Value)))
    → IsToldOf catalog name args told q rows
    → nat_le (length (meaning_of q rows args)) 1000000 ≡ false
    → RunStep (session_of catalog caches cursors executions settings) name args (reply.Refused (refusal 12 []))
    (session_of catalog caches cursors executions settings)
run_refused catalog caches cursors executions settings name args told q rows t many =
    let query = query_is catalog name args told q rows t in
    let large = subst (λ (p : Statement). nat_le (length (meaning_of p (tables_of catalog.tables p) args)) 1000000
    ≡ false) (sym query)
    (subst (λ (ts : List (List (List Value))). nat_le (length (meaning_of q ts args)) 1000000 ≡ false) t.rows_are many)
    in
    too_large (session_of catalog caches cursors executions settings) name args
    (record { statement = t.instance.query; args = args }) (reply.Refused (refusal 12 [])) t.instance.instance_is large
    refl

-- it was executed
pub record IsRun (catalog : Catalog) (caches : List Contents) (cursors : List CursorState) (executions : ℕ)
    (settings : Settings) (name : List ℕ)
    (args : List Value) (number : ℕ) (execution : Execution) (lines : List (List ℕ)) (cache : Contents)
    : Type 0 where
  pub steps : RunStep (session_of catalog caches cursors executions settings) name args (reply.Ran execution lines)
      (session_of catalog (set caches number cache) cursors (executions + 1) settings)
  pub kept : IsSessionKept catalog (set caches number cache) cursors (executions + 1) settings

pub run_kept : (catalog : Catalog) (caches : List Contents) (cursors : List CursorState) (executions : ℕ)
    (settings : Settings) (name : List ℕ)
    (args : List Value) (told : stored.Instance) (q : Statement) (rows : List (List (List Value)))
    (execution : Execution) (lines : List (List ℕ)) (cache was : Contents)
    → IsSessionKept catalog caches cursors executions settings → IsToldOf catalog name args told q rows
    → was ≡ slice_index_or caches told.statement was
    → Ran settings (executions + 1) name q rows args told.stats told.at (state_of was) execution lines (state_of cache)
    → All (IsCosted q told.stats) cache.plans
    → IsRun catalog caches cursors executions settings name args told.statement execution lines cache
run_kept catalog caches cursors executions settings name args told q rows execution lines cache was h t read ran costs =
    let old : State = session_of catalog caches cursors executions settings in
    let new : State = session_of catalog (set caches told.statement cache) cursors (executions + 1) settings in
    let i = t.instance in
    let query = query_is catalog name args told q rows t in
    let less = told_less catalog caches cursors executions settings name args told h i in
    let here = state_there caches told.statement was less ∙ ap state_of (sym read) in
    let by_query = subst (λ (p : Statement). Ran settings (executions + 1) name p rows args told.stats told.at
    (state_of was) execution lines (state_of cache)) (sym query) ran in
    let tables : rows ≡ tables_of catalog.tables i.query =
    t.rows_are ∙ ap (tables_of catalog.tables) (sym query) in
    let by_rows = subst (λ (ts : List (List (List Value))). Ran settings (executions + 1) name i.query ts args
    told.stats
    told.at (state_of was) execution lines (state_of cache)) tables by_query in
    let by_stats = subst (λ (s : Statistics). Ran settings (executions + 1) name i.query
    (tables_of catalog.tables i.query) args s told.at (state_of was) execution lines (state_of cache)) i.stats_are
    by_rows in
    let by_vector = subst (λ (v : List ℕ). Ran settings (executions + 1) name i.query
    (tables_of catalog.tables i.query) args (stats_now catalog.tables catalog.weights i.query) v (state_of was)
    execution lines (state_of cache)) i.vector_is by_stats in
    let step = executed_run old new name args (record { statement = i.query; args = args }) told.statement
    (state_of was)
    (state_of cache) execution lines i.instance_is i.named here by_vector
    (ap (with_states catalog cursors (executions + 1) settings) (states_set caches told.statement cache)) in
    record {
      steps = step;
      kept = record {
        session = run_keeps old new name args (reply.Ran execution lines) h.session step;
        costed = each_set_there (AreCosted catalog) catalog.statements caches told.statement cache
            (costed_told catalog name args told q rows cache t costs) h.costed;
      };
    }

-- The same as outcomes, for whatever answer the rows are made into.

-- the cache that was read, put back with the same plans and anchors
pub record IsPutBack (catalog : Catalog) (caches : List Contents) (name : List ℕ) (args : List Value)
    (told : stored.Instance) (q : Statement) (rows : List (List (List Value))) (was cache : Contents) : Type 0 where
  pub told_of : IsToldOf catalog name args told q rows
  pub read : was ≡ slice_index_or caches told.statement was
  pub same : state_of cache ≡ state_of was
  pub costed : All (IsCosted q told.stats) cache.plans

put_back : (catalog : Catalog) (caches : List Contents) (cursors : List CursorState) (executions : ℕ)
    (settings : Settings) (name : List ℕ) (args : List Value) (told : stored.Instance) (q : Statement)
    (rows : List (List (List Value))) (was cache : Contents)
    → IsSessionKept catalog caches cursors executions settings
    → IsPutBack catalog caches name args told q rows was cache
    → IsSameSession catalog caches cursors executions settings told.statement cache
put_back catalog caches cursors executions settings name args told q rows was cache h p =
    same_session catalog caches cursors executions settings told.statement cache was h (p.same ∙ ap state_of p.read)
    (costed_told catalog name args told q rows cache p.told_of p.costed)

pub unchanged : (catalog : Catalog) (caches : List Contents) (cursors : List CursorState) (executions : ℕ)
    (settings : Settings) (name : List ℕ) (args : List Value) (told : stored.Instance) (q : Statement)
    (rows : List (List (List Value))) (was cache : Contents)
    → IsPutBack catalog caches name args told q rows was cache
    → IsSessionKept catalog caches cursors executions settings
    → IsUnchanged catalog caches (set caches told.statement cache) executions settings cursors
unchanged catalog caches cursors executions settings name args told q rows was cache p h =
    let same = put_back catalog caches cursors executions settings name args told q rows was cache h p in
    record { seen = same.seen; kept = same.kept }

pub many_kept : {A : Type 0} (lines : Statement → A → List (List ℕ)) (catalog : Catalog) (caches : List Contents)
    (cursors : List CursorState) (executions : ℕ) (settings : Settings) (name : List ℕ) (args : List Value)
    (told : stored.Instance) (q : Statement) (rows : List (List (List Value))) (was cache : Contents) (why : Refusal)
    → why ≡ refusal 12 [] → IsPutBack catalog caches name args told q rows was cache
    → nat_le (length (meaning_of q rows args)) 1000000 ≡ false
    → IsSessionKept catalog caches cursors executions settings
    → RunsKept lines catalog caches (set caches told.statement cache) executions settings name args (Err why) cursors
many_kept lines catalog caches cursors executions settings name args told q rows was cache why is p many h =
    let same = put_back catalog caches cursors executions settings name args told q rows was cache h p in
    record {
      runs = subst (λ (s : State). RunStep (session_of catalog caches cursors executions settings) name args
          (reply.Refused why) s) (sym same.seen)
          (subst (λ (w : Refusal). RunStep (session_of catalog caches cursors executions settings) name args
          (reply.Refused w) (session_of catalog caches cursors executions settings)) (sym is)
          (run_refused catalog caches cursors executions settings name args told q rows p.told_of many));
      kept = same.kept;
    }

pub ran_kept : {A : Type 0} (lines : Statement → A → List (List ℕ)) (catalog : Catalog) (caches : List Contents)
    (cursors : List CursorState) (executions : ℕ) (settings : Settings) (name : List ℕ) (args : List Value)
    (told : stored.Instance) (q : Statement) (rows : List (List (List Value))) (execution : Execution) (answer : A)
    (was cache : Contents) → IsToldOf catalog name args told q rows
    → was ≡ slice_index_or caches told.statement was
    → Ran settings (executions + 1) name q rows args told.stats told.at (state_of was) execution (lines q answer)
    (state_of cache)
    → All (IsCosted q told.stats) cache.plans
    → IsSessionKept catalog caches cursors executions settings
    → RunsKept lines catalog caches (set caches told.statement cache) executions settings name args
    (Ok (execution, answer)) cursors
ran_kept lines catalog caches cursors executions settings name args told q rows execution answer was cache t read ran
    costs h =
    let one = numbered catalog.statements name told.statement t.instance.named in
    let same : Some one.prepared.statement ≡ Some q =
    sym (ap (option_map (λ (s : StatementState). s.statement)) one.there) ∙ t.there in
    let run = run_kept catalog caches cursors executions settings name args told q rows execution (lines q answer) cache
    was h t read ran costs in
    record { runs = (q, one.found ∙ same, run.steps); kept = run.kept }
