-- What every session has: the first state has it, and each step keeps it.
use Rattle.std.proofs.Common.{ℕ, ◌≡◌, ◌≢◌, ◌<◌, ◌≤◌, ◌+◌, List, [], ◌∷◌, ◌++◌, length, set, Option, Some, None, Result, Ok, Err}
use Rattle.std.proofs.Common.{MatchOption, MatchResult, All, AllPairs, refl, sym, subst, arith, false, true, Bool, cond, IsTrue, length-append, map, nat_lt}
use Rattle.std.proofs.lemmas.Bool.Decides.{nat_tests}
use Rattle.std.proofs.lemmas.List.Elements.{All-nil}
use Rattle.outside_model.specs.Files.{Files}
use Rattle.row_values.specs.Statements.{IsSoundQuery, Statement}
use Rattle.row_values.specs.declared.refusals.Refusal.{Refusal}
use Rattle.row_values.specs.declared.values.Value.{Value}
use Rattle.csv_tables.specs.Tables.{IsTable}
use Rattle.sql_parser.specs.Statement.{IsSound, Parts}
use Rattle.statement_meaning.specs.Meaning.{meaning_of}
use Rattle.statement_meaning.specs.Spelling.{row_line}
use Rattle.plan_trees.specs.Statistics.{AreWeights, IsSoundStats, IsSoundVector, Statistics}
use Rattle.plan_trees.specs.Trees.{TopTree}
use Rattle.plan_trees.specs.declared.statistics.Weights.{Weights}
use Rattle.cache_model.specs.Caches.{Anchor, CachedPlan, CacheState, cleared, empty_cache, reused, top_numbered, without}
use Rattle.cache_model.specs.Choices.{ByCost, ByOptimum, BySelectivity, Choice, choice_of}
use Rattle.cache_model.specs.Faithful.{IsFaithfulAnchor, IsFaithfulCache, IsFaithfulPlan, IsWide}
use Rattle.cache_model.specs.Keeping.{Optimum, kept_after}
use Rattle.cache_model.proofs.Evicting.{faithful_without}
use Rattle.cache_model.proofs.Lists.{pairs_from}
use Rattle.cache_model.proofs.Reusing.{faithful_after, faithful_reused}
use Rattle.cache_model.proofs.Saving.{faithful_kept, next_kept}
use Rattle.script_report.proofs.ReadStatements.{statements_sound}
use Rattle.script_report.specs.Commands.{Reading, Silent, Says, Bad, reading_of}
use Rattle.script_report.specs.declared.commands.Command.{Command}
use Rattle.script_report.specs.declared.commands.Command.TheVariants.{Load, Index, Prepare, Run, Cursor, Fetch, Close, Evict, Show}
use Rattle.script_report.specs.declared.replies.Execution.{Execution}
use Rattle.script_report.specs.declared.replies.Reply.{Reply}
use Rattle.catalog_model.specs.Catalogs.{Catalog, TableState, StatementState, Version, empty_catalog, find_statement, number_of}
use Rattle.catalog_model.specs.Catalogs.{put_version, reads_table, stats_now, with_index, with_statement, with_version}
use Rattle.catalog_model.specs.Indexing.{indexing_of}
use Rattle.catalog_model.specs.Instances.{Instance, instance_of}
use Rattle.catalog_model.specs.Loading.{loading_of}
use Rattle.catalog_model.specs.Preparing.{preparing_of}
use Rattle.catalog_model.specs.Held.{HeldCursor, cursors_differ, held_by, holding_refusal, is_open, present_versions}
use Rattle.catalog_model.specs.Held.{versions_of, without_cursor}
use Rattle.catalog_model.specs.Sound.{AreNumbered, IsCatalog, IsLoaded}
use Rattle.catalog_model.proofs.Indexings.{indexed, same_versions}
use Rattle.catalog_model.proofs.Cursors.{closed, differ_closed, differ_opened, few_left, numbered_closed, numbered_opened}
use Rattle.catalog_model.proofs.Cursors.{numbered_put, opened}
use Rattle.catalog_model.proofs.Loads.{load_number, loaded}
use Rattle.catalog_model.proofs.Measures.{measured, statement_found}
use Rattle.catalog_model.proofs.Preparations.{prepared}
use Rattle.catalog_model.proofs.Unread.{indexed_unread, loaded_unread}
use Rattle.session_model.specs.Executions.{IsChosen, optimum_of, rows_refusal}
use Rattle.session_model.specs.Run.{Line, IsChain, StepOver}
use Rattle.session_model.specs.Session.{AreSettings, EachWithCache, IsCacheOf, IsSession}
use Rattle.session_model.specs.State.{CursorState, State, cache_at, cleared_for, closed_from, cursor_named, fetched_from}
use Rattle.session_model.specs.State.{held_versions, hold_of, holds_of, initial_state}
use Rattle.session_model.specs.Step.{Step, CommandStep, LoadStep, PrepareStep, RunStep, InstanceStep, Refuses}
use Rattle.session_model.specs.Step.{CloseStep, Closes, CursorStep, EvictFrom, EvictStep, Evicts, ExecutionStep, FetchStep, Fetches}
use Rattle.session_model.specs.Step.{OpenInstanceStep, OpenStep, Opens, ShowStep, Shows}
use Rattle.session_model.specs.Step.{Loads, Prepares, Executes, file_of, present_stats, present_tables, present_vector}
use Rattle.session_model.specs.Step.{IndexStep, Indexes}
use Rattle.session_model.specs.declared.settings.Settings.{Settings}
use Rattle.session_model.proofs.Chains.{keeps}
use Rattle.session_model.proofs.Holds.{holds_behind, holds_closed, holds_fetched, holds_long}
use Rattle.session_model.proofs.EachCache.{each_behind, each_cleared, each_set, each_weaker}

empty : (weights : Weights) → AreWeights weights → IsCatalog [] (empty_catalog weights)
empty weights are = record {
  weights = are;
  table_names = refl;
  statement_names = refl;
  version_numbers = refl;
  numbered = All-nil (λ (table : TableState). table.now.number < 0);
  are_tables = All-nil (λ (table : TableState). IsTable table.now.content);
  are_sound = All-nil (λ (prepared : StatementState). IsSoundQuery prepared.statement);
  loaded = All-nil (λ (prepared : StatementState). All (IsLoaded []) prepared.statement.places);
  few_tables = omega arith;
  few_statements = omega arith;
  few_cells = omega arith;
  few_bytes = omega arith;
}

no_version : Version
no_version = record { content = record { schema = []; rows = [] }; bytes = 0; number = 0 }

pub first : (settings : Settings) → AreSettings settings → IsSession (initial_state settings)
first settings are = record {
  settings = are;
  catalog = empty settings.weights are.weights;
  numbered = record {
    version_of = λ n. no_version;
    one_each = All-nil (λ (v : Version). no_version ≡ v);
    before = All-nil (λ (v : Version). v.number < 0);
  };
  cursor_names = refl;
  few_cursors = omega arith;
  caches = tt;
}

-- a session with another catalog, which is sound, and caches that are true of it
abbrev with_both : State → Catalog → List CacheState → State
with_both old catalog caches = record old { catalog = catalog; caches = caches }

changed : (old new : State) (catalog : Catalog) (caches : List CacheState) → IsSession old
    → IsCatalog (held_versions old.cursors) catalog
    → AreNumbered catalog.versions (held_versions old.cursors ++ present_versions catalog.tables)
    → EachWithCache (IsCacheOf (with_both old catalog caches)) catalog.statements caches
    → new ≡ with_both old catalog caches → IsSession new
changed old new catalog caches session sound numbered each e =
    subst IsSession (sym e)
    (record {
      settings = session.settings;
      catalog = sound;
      numbered = numbered;
      cursor_names = session.cursor_names;
      few_cursors = session.few_cursors;
      caches = each;
    })

refused : (why : Refusal) (old new : State) (reply : Reply) → IsSession old → Refuses why old reply new → IsSession new
refused why old new reply session r = subst IsSession (sym r.unchanged) session

-- by which outcome a line was answered
by_result : {A : Type 0} (R : Type 0) (r : Result A Refusal) (P : A → Type 0) (Q : Refusal → Type 0) → MatchResult r P Q
    → ((a : A) → r ≡ Ok a → P a → R) → ((why : Refusal) → Q why → R) → R
by_result R (Ok a) P Q m ok err = ok a refl m
by_result R (Err why) P Q m ok err = err why m

by_option : (R : Type 0) (o : Option Refusal) (P : Type 0) (Q : Refusal → Type 0) → MatchOption o P Q → (P → R)
    → ((why : Refusal) → Q why → R) → R
by_option R None P Q m none some = none m
by_option R (Some why) P Q m none some = some why m

by_free : (R : Type 0) (o : Option Refusal) (P : Type 0) (Q : Refusal → Type 0) → MatchOption o P Q
    → (o ≡ None → P → R) → ((why : Refusal) → Q why → R) → R
by_free R None P Q m none some = none refl m
by_free R (Some why) P Q m none some = some why m

by_none : {A : Type 0} (R : Type 0) (o : Option A) (P : Type 0) (Q : A → Type 0) → MatchOption o P Q → (P → R)
    → ((a : A) → o ≡ Some a → Q a → R) → R
by_none R None P Q m none some = none m
by_none R (Some a) P Q m none some = some a refl m

-- Caches that are true of their statements.

-- an empty one is
none_faithful : (cache : CacheState) (q : Statement) (s : Statistics) (executions budget : ℕ) → cache.plans ≡ []
    → cache.anchors ≡ [] → IsFaithfulCache cache q s executions budget
none_faithful cache q s executions budget plans anchors = record {
  plans = subst (λ (ps : List CachedPlan). All (IsFaithfulPlan q s cache.anchors cache.next_plan) ps) (sym plans)
      (All-nil (IsFaithfulPlan q s cache.anchors cache.next_plan));
  anchors = subst (λ (some : List Anchor). All (IsFaithfulAnchor q s cache.plans executions) some) (sym anchors)
      (All-nil (IsFaithfulAnchor q s cache.plans executions));
  numbers_rise = subst (λ (ps : List CachedPlan). AllPairs (λ a b. a.number < b.number) ps) (sym plans)
      (no_pairs (λ (a b : CachedPlan). a.number < b.number));
  executions_rise = subst (λ (some : List Anchor). AllPairs (λ a b. a.execution < b.execution) some) (sym anchors)
      (no_pairs (λ (a b : Anchor). a.execution < b.execution));
  no_two_same = subst (λ (ps : List CachedPlan). AllPairs (λ a b. a.top ≢ b.top) ps) (sym plans)
      (no_pairs (λ (a b : CachedPlan). a.top ≢ b.top));
  few_plans = subst (λ (ps : List CachedPlan). length ps ≤ budget) (sym plans) (omega arith);
  few_anchors = subst (λ (some : List Anchor). length some ≤ 4096) (sym anchors) (omega arith);
  no_plan_if_wide = λ wide. plans;
  no_anchor_if_wide = λ wide. anchors;
}
  where
    no_pairs : {X : Type 0} (R : X → X → Type 0) → AllPairs R []
    no_pairs R = pairs_from R [] tt

-- where the statements that don't read the table keep their statistics
cleared_true : (old : State) (catalog : Catalog) (table : List ℕ) → IsSession old →
    ((q : Statement) → reads_table table q.places ≡ false → stats_now catalog.tables catalog.weights q
    ≡ stats_now old.catalog.tables old.catalog.weights q)
    → EachWithCache (IsCacheOf (with_both old catalog (cleared_for table old.catalog.statements old.caches)))
    old.catalog.statements (cleared_for table old.catalog.statements old.caches)
cleared_true old catalog table session kept =
    let new : State = with_both old catalog (cleared_for table old.catalog.statements old.caches) in
    each_cleared (IsCacheOf old) (IsCacheOf new) table
    (λ s c h. record {
      faithful = none_faithful (cleared c) s.statement _ old.executions old.settings.budget refl refl;
      numbers = h.numbers;
    })
    (λ s c unread h. record {
      faithful = subst (λ (numbers : Statistics). IsFaithfulCache c s.statement numbers old.executions
          old.settings.budget) (sym (kept s.statement unread)) h.faithful;
      numbers = h.numbers;
    })
    old.catalog.statements old.caches session.caches

-- another cache of the statement of this number, after so many executions
abbrev with_cache : State → ℕ → CacheState → ℕ → State
with_cache old number cache executions =
    record old { caches = set old.caches number cache; executions = executions }

-- one stays so as other statements are executed
cache_later : (old : State) (number : ℕ) (cache : CacheState) (executions : ℕ) → old.executions ≤ executions
    → (s : StatementState) (c : CacheState) → IsCacheOf old s c → IsCacheOf (with_cache old number cache executions) s c
cache_later old number cache executions later s c h =
    let few = h.numbers in
    record {
      faithful = faithful_after c s.statement _ old.executions executions old.settings.budget old.settings.budget later
          (omega arith) h.faithful;
      numbers = omega (arith, few, later);
    }

-- after a reuse
reused_true : (q : Statement) (s : Statistics) (executions budget : ℕ) (before after : CacheState) (position : ℕ)
    → after ≡ reused before position → IsFaithfulCache before q s executions budget
    → before.next_plan ≤ executions + 1
    → IsFaithfulCache after q s (executions + 1) budget × (after.next_plan ≤ executions + 1 + 1)
reused_true q s executions budget before after position e h few =
    let count : before.next_plan ≤ executions + 1 + 1 = omega (arith, few) in (
      subst (λ (c : CacheState). IsFaithfulCache c q s (executions + 1) budget) (sym e)
          (faithful_reused before q s executions budget position h),
      subst (λ (c : CacheState). c.next_plan ≤ executions + 1 + 1) (sym e) count,
    )

-- the next version has a number of its own
loaded_numbers : (old : State) (name bytes : List ℕ) (version : Version) → IsSession old
    → loading_of (held_versions old.cursors) old.catalog name bytes ≡ Ok version
    → AreNumbered (with_version old.catalog name version).versions
    (held_versions old.cursors ++ present_versions (with_version old.catalog name version).tables)
loaded_numbers old name bytes version session e =
    let number = load_number (held_versions old.cursors) old.catalog name bytes version e in
    subst (λ n. AreNumbered (n + 1)
    (held_versions old.cursors ++ present_versions (put_version old.catalog.tables name version))) number
    (numbered_put (held_versions old.cursors) old.catalog.tables name version
    (subst (λ n. AreNumbered n (held_versions old.cursors ++ present_versions old.catalog.tables)) (sym number)
    session.numbered))

pub load_keeps : (old new : State) (name : List ℕ) (file : Option (List ℕ)) (reply : Reply) → IsSession old
    → LoadStep old name file reply new → IsSession new
load_keeps old new name None reply session step = refused _ old new reply session step
load_keeps old new name (Some bytes) reply session step =
    by_result (IsSession new) (loading_of (held_versions old.cursors) old.catalog name bytes)
    (λ version. Loads old name version reply new) (λ why. Refuses why old reply new) step
    (λ version e l. changed old new (with_version old.catalog name version)
    (cleared_for name old.catalog.statements old.caches) session
    (loaded (held_versions old.cursors) old.catalog name bytes version session.catalog e)
    (loaded_numbers old name bytes version session e)
    (cleared_true old (with_version old.catalog name version) name session (loaded_unread old.catalog.tables name version
    old.catalog.weights)) l.keeps)
    (λ why r. refused why old new reply session r)

pub index_keeps : (old new : State) (table column : List ℕ) (reply : Reply) → IsSession old
    → IndexStep old table column reply new → IsSession new
index_keeps old new table column reply session step =
    by_result (IsSession new) (indexing_of old.catalog table column)
    (λ number. Indexes old table column number reply new) (λ why. Refuses why old reply new) step
    (λ number e i. changed old new (with_index old.catalog table number)
    (cleared_for table old.catalog.statements old.caches) session
    (indexed (held_versions old.cursors) old.catalog table number session.catalog)
    (subst (λ (vs : List Version). AreNumbered old.catalog.versions (held_versions old.cursors ++ vs))
    (sym (same_versions old.catalog.tables table number)) session.numbered)
    (cleared_true old (with_index old.catalog table number) table session
    (indexed_unread old.catalog.tables table number old.catalog.weights)) i.keeps)
    (λ why r. refused why old new reply session r)

pub prepare_keeps : (old new : State) (name : List ℕ) (select : Parts) (reply : Reply) → IsSound select → IsSession old
    → PrepareStep old name select reply new → IsSession new
prepare_keeps old new name select reply parts session step =
    by_result (IsSession new) (preparing_of old.catalog name select) (λ q. Prepares old name q reply new)
    (λ why. Refuses why old reply new) step
    (λ q e p. changed old new (with_statement old.catalog name q) (old.caches ++ empty_cache ∷ []) session
    (prepared (held_versions old.cursors) old.catalog name select q parts session.catalog e) session.numbered
    (each_behind (IsCacheOf (with_both old (with_statement old.catalog name q) (old.caches ++ empty_cache ∷ []))) _
    empty_cache
    (record { faithful = none_faithful empty_cache q _ old.executions old.settings.budget refl refl; numbers = omega arith })
    old.catalog.statements old.caches
    (each_weaker (IsCacheOf old) _ (λ s c h. record { faithful = h.faithful; numbers = h.numbers })
    old.catalog.statements old.caches session.caches)) p.keeps)
    (λ why r. refused why old new reply session r)

recached : (old new : State) (name : List ℕ) (number : ℕ) (cache : CacheState) (executions : ℕ) → IsSession old
    → number_of old.catalog.statements name ≡ Some number → old.executions ≤ executions
    → ((s : StatementState) → find_statement old.catalog.statements name ≡ Some s.statement
    → IsCacheOf old s (cache_at old.caches number) → IsCacheOf (with_cache old number cache executions) s cache)
    → new ≡ with_cache old number cache executions → IsSession new
recached old new name number cache executions session is later change e =
    subst IsSession (sym e)
    (record {
      settings = session.settings;
      catalog = session.catalog;
      numbered = session.numbered;
      cursor_names = session.cursor_names;
      few_cursors = session.few_cursors;
      caches = each_set (IsCacheOf old) (IsCacheOf (with_cache old number cache executions)) name cache
          (λ s c h. cache_later old number cache executions later s c h) old.catalog.statements old.caches number is
          change session.caches;
    })

-- the statement of this name is this one
pub same_statement : (o : Option Statement) (p q : Statement) → o ≡ Some p → o ≡ Some q → p ≡ q
same_statement o p q e k = cc

-- what an execution leaves in the cache is true of the statement
served : (settings : Settings) (executions : ℕ) (q : Statement) (s : Statistics) (vector : List ℕ) (before : CacheState)
    (plan : TopTree) (execution : Execution) (after : CacheState) (choice : Choice) → AreSettings settings
    → IsSoundStats q s → IsSoundVector q s vector → IsFaithfulCache before q s executions settings.budget
    → before.next_plan ≤ executions + 1
    → IsChosen settings (executions + 1) q s vector before plan execution after choice
    → IsFaithfulCache after q s (executions + 1) settings.budget × (after.next_plan ≤ executions + 1 + 1)
served settings executions q s vector before plan execution after (BySelectivity position) are stats sound h few chosen =
    reused_true q s executions settings.budget before after position chosen.uses h few
served settings executions q s vector before plan execution after (ByCost position tried) are stats sound h few chosen =
    reused_true q s executions settings.budget before after position chosen.uses h few
served settings executions q s vector before plan execution after (ByOptimum tried) are stats sound h few chosen =
    let optimum : Optimum = optimum_of (executions + 1) vector plan execution.cost in
    let wide : ¬ IsWide q s = λ w. let narrow = stats.not_wide in omega (arith, w, narrow) in
    let kept = faithful_kept before q s executions optimum settings.keep settings.budget are.some_plans wide
    (record {
      vector = sound;
      valid = chosen.optimum.valid;
      costs = chosen.optimum.costs;
      least = chosen.optimum.least;
    })
    refl h in
    let next = (next_kept before q s optimum settings.keep settings.budget).one_at_most in
    let count : (kept_after before q s optimum settings.keep settings.budget).cache.next_plan ≤ executions + 1 + 1 =
    omega (arith, next, few) in (
      subst (λ (c : CacheState). IsFaithfulCache c q s (executions + 1) settings.budget) (sym chosen.keeps.cache) kept,
      subst (λ (c : CacheState). c.next_plan ≤ executions + 1 + 1) (sym chosen.keeps.cache) count,
    )

execution_keeps : (old new : State) (name : List ℕ) (instance : Instance) (args : List Value) → IsSession old
    → instance_of old.catalog name args ≡ Ok instance
    → ExecutionStep old name instance.statement instance.args new → IsSession new
execution_keeps old new name instance args session i e =
    let q : Statement = instance.statement in
    let measured = measured (held_versions old.cursors) old.catalog name args instance session.catalog i in
    recached old new name e.number e.cache (old.executions + 1) session e.its_number (omega arith)
    (λ s found h.
    let same : s.statement ≡ q =
    same_statement (find_statement old.catalog.statements name) s.statement q found
    (statement_found old.catalog name args instance i).0 in
    let before = subst (λ (p : Statement). IsFaithfulCache (cache_at old.caches e.number) p
    (stats_now old.catalog.tables old.catalog.weights p) old.executions old.settings.budget) same h.faithful in
    let after = served old.settings old.executions q (present_stats old q) (present_vector old q instance.args)
    (cache_at old.caches e.number) e.shows.plan e.execution e.cache
    (choice_of (cache_at old.caches e.number) q (present_stats old q) (present_vector old q instance.args)
    old.settings.lambda old.settings.recosts)
    session.settings measured.stats measured.vector before h.numbers e.shows.chosen in
    record {
      faithful = subst (λ (p : Statement). IsFaithfulCache e.cache p
          (stats_now old.catalog.tables old.catalog.weights p) (old.executions + 1) old.settings.budget) (sym same)
          after.0;
      numbers = after.1;
    })
    e.keeps

pub evict_keeps : (old new : State) (name : List ℕ) (plan : ℕ) (reply : Reply) → IsSession old
    → EvictStep old name plan reply new → IsSession new
evict_keeps old new name plan reply session step =
    by_none (IsSession new) (number_of old.catalog.statements name) (Refuses _ old reply new)
    (λ number. EvictFrom old name plan number reply new) step (λ r. refused _ old new reply session r)
    (λ number is from. by_none (IsSession new) (top_numbered (cache_at old.caches number).plans plan)
    (Refuses _ old reply new) (λ top. Evicts old name number plan reply new) from
    (λ r. refused _ old new reply session r)
    (λ top there e. recached old new name number (without (cache_at old.caches number) plan) old.executions session is
    (omega arith)
    (λ s found h. record {
      faithful = faithful_without (cache_at old.caches number) s.statement _ old.executions old.settings.budget plan
          h.faithful;
      numbers = h.numbers;
    })
    e.drops))

show_keeps : (old new : State) (name : List ℕ) (reply : Reply) → IsSession old → ShowStep old name reply new
    → IsSession new
show_keeps old new name reply session step =
    by_none (IsSession new) (number_of old.catalog.statements name) (Refuses _ old reply new)
    (λ number. Shows old name number reply new) step (λ r. refused _ old new reply session r)
    (λ number is e. subst IsSession (sym e.unchanged) session)

pub run_keeps : (old new : State) (name : List ℕ) (args : List Value) (reply : Reply) → IsSession old
    → RunStep old name args reply new → IsSession new
run_keeps old new name args reply session step =
    by_result (IsSession new) (instance_of old.catalog name args)
    (λ instance. InstanceStep old name instance.statement instance.args reply new)
    (λ why. Refuses why old reply new) step
    (λ instance e s. by_option (IsSession new)
    (rows_refusal (length (meaning_of instance.statement (present_tables old instance.statement) instance.args)))
    (Executes old name instance.statement instance.args reply new)
    (λ why. Refuses why old reply new) s (λ x. execution_keeps old new name instance args session e x.step)
    (λ why r. refused why old new reply session r))
    (λ why r. refused why old new reply session r)

-- Cursors.

-- a session with other cursors
abbrev with_cursors : State → List CursorState → State
with_cursors old cursors = record old { cursors = cursors }

-- what a session needs of its cursors
record AreSoundCursors (old : State) (holds : List HeldCursor) : Type 0 where
  pub catalog : IsCatalog (held_by holds) old.catalog
  pub numbered : AreNumbered old.catalog.versions (held_by holds ++ present_versions old.catalog.tables)
  pub names : IsTrue (cursors_differ holds)
  pub few : length holds ≤ 16

recursored : (old new : State) (cursors : List CursorState) (holds : List HeldCursor) → IsSession old
    → holds_of cursors ≡ holds → AreSoundCursors old holds → new ≡ with_cursors old cursors → IsSession new
recursored old new cursors holds session same sound e =
    let s = subst (AreSoundCursors old) (sym same) sound in
    let few = s.few in
    let long = holds_long cursors in
    subst IsSession (sym e)
    (record {
      settings = session.settings;
      catalog = s.catalog;
      numbered = s.numbered;
      cursor_names = s.names;
      few_cursors = omega (arith, few, long);
      caches = each_weaker (IsCacheOf old) (IsCacheOf (with_cursors old cursors))
          (λ p c h. record { faithful = h.faithful; numbers = h.numbers }) old.catalog.statements old.caches
          session.caches;
    })

sound_cursors : (old : State) → IsSession old → AreSoundCursors old (holds_of old.cursors)
sound_cursors old session =
    let few = session.few_cursors in
    let long = holds_long old.cursors in
    record {
      catalog = session.catalog;
      numbered = session.numbered;
      names = session.cursor_names;
      few = omega (arith, few, long);
    }

-- what a cursor that may be opened finds
allowed : (cursors : List HeldCursor) (name : List ℕ) → holding_refusal cursors name ≡ None
    → (is_open name cursors ≡ false) × (length cursors < 16)
allowed cursors name e = by_test (is_open name cursors) (nat_lt (length cursors) 16) _ _ refl refl e
  where
    by_test : (there few : Bool) (taken many : Refusal) → is_open name cursors ≡ there
        → nat_lt (length cursors) 16 ≡ few → cond there (Some taken) (cond few None (Some many)) ≡ None
        → (is_open name cursors ≡ false) × (length cursors < 16)
    by_test true few taken many o f e = absurd cc
    by_test false false taken many o f e = absurd cc
    by_test false true taken many o f e = (o, grind (arith, nat_tests))

opened_keeps : (old new : State) (cursor name : List ℕ) (instance : Instance) (args : List Value) (reply : Reply)
    → IsSession old → holding_refusal (holds_of old.cursors) cursor ≡ None
    → instance_of old.catalog name args ≡ Ok instance
    → Opens old cursor name instance.statement instance.args reply new → IsSession new
opened_keeps old new cursor name instance args reply session free i o =
    let q : Statement = instance.statement in
    let middle = execution_keeps old o.middle name instance args session i o.step in
    let may = allowed (holds_of old.cursors) cursor free in
    let room = may.1 in
    let new_cursor : CursorState = record {
      name = cursor;
      held = versions_of old.catalog.tables q;
      lines = map row_line (meaning_of q (present_tables old q) instance.args);
    } in
    let holds : List HeldCursor = holds_of old.cursors ++ hold_of new_cursor ∷ [] in
    let sound : AreSoundCursors old holds = record {
      catalog = opened (holds_of old.cursors) cursor old.catalog q session.catalog;
      numbered = numbered_opened (holds_of old.cursors) cursor old.catalog q session.numbered;
      names = differ_opened (holds_of old.cursors) (hold_of new_cursor) may.0 session.cursor_names;
      few = subst (λ n. n ≤ 16) (sym (length-append (holds_of old.cursors) (hold_of new_cursor ∷ []))) (omega (
        arith,
        room,
      ));
    } in
    let there : AreSoundCursors o.middle holds = subst (λ (s : State). AreSoundCursors s holds) (sym o.step.keeps)
    (record { catalog = sound.catalog; numbered = sound.numbered; names = sound.names; few = sound.few }) in
    recursored o.middle new (old.cursors ++ new_cursor ∷ []) holds middle (holds_behind old.cursors new_cursor) there
    o.keeps

pub cursor_keeps : (old new : State) (cursor name : List ℕ) (args : List Value) (reply : Reply) → IsSession old
    → CursorStep old cursor name args reply new → IsSession new
cursor_keeps old new cursor name args reply session step =
    by_free (IsSession new) (holding_refusal (holds_of old.cursors) cursor)
    (OpenStep old cursor name args reply new) (λ why. Refuses why old reply new) step
    (λ free from. by_result (IsSession new) (instance_of old.catalog name args)
    (λ instance. OpenInstanceStep old cursor name instance.statement instance.args reply new)
    (λ why. Refuses why old reply new) from
    (λ instance e s. by_option (IsSession new)
    (rows_refusal (length (meaning_of instance.statement (present_tables old instance.statement) instance.args)))
    (Opens old cursor name instance.statement instance.args reply new)
    (λ why. Refuses why old reply new) s (opened_keeps old new cursor name instance args reply session free e)
    (λ why r. refused why old new reply session r))
    (λ why r. refused why old new reply session r))
    (λ why r. refused why old new reply session r)

pub fetch_keeps : (old new : State) (cursor : List ℕ) (count : ℕ) (reply : Reply) → IsSession old
    → FetchStep old cursor count reply new → IsSession new
fetch_keeps old new cursor count reply session step =
    by_none (IsSession new) (cursor_named old.cursors cursor) (Refuses _ old reply new)
    (λ waiting. Fetches old cursor waiting count reply new) step (λ r. refused _ old new reply session r)
    (λ waiting is f. recursored old new (fetched_from old.cursors cursor count) (holds_of old.cursors) session
    (holds_fetched old.cursors cursor count) (sound_cursors old session) f.keeps)

pub close_keeps : (old new : State) (cursor : List ℕ) (reply : Reply) → IsSession old
    → CloseStep old cursor reply new → IsSession new
close_keeps old new cursor reply session step =
    by_none (IsSession new) (cursor_named old.cursors cursor) (Refuses _ old reply new)
    (λ waiting. Closes old cursor reply new) step (λ r. refused _ old new reply session r)
    (λ waiting is c.
    let before = sound_cursors old session in
    let most = before.few in
    let fewer = few_left (holds_of old.cursors) cursor in
    recursored old new (closed_from old.cursors cursor) (without_cursor cursor (holds_of old.cursors)) session
    (holds_closed old.cursors cursor)
    (record {
      catalog = closed (holds_of old.cursors) cursor old.catalog before.catalog before.numbered;
      numbered = numbered_closed (holds_of old.cursors) cursor old.catalog before.numbered;
      names = differ_closed (holds_of old.cursors) cursor before.names;
      few = omega (arith, most, fewer);
    })
    c.drops)

-- where this is said, a statement that is prepared is sound
abbrev PreparesSound : Reading → Type 0
PreparesSound reading = (name : List ℕ) (select : Parts) → reading ≡ Says (Prepare name select) → IsSound select

command_keeps : (old new : State) (command : Command) (file : Option (List ℕ)) (reply : Reply)
    → PreparesSound (Says command) → IsSession old → CommandStep old command file reply new → IsSession new
command_keeps old new (Load table name) file reply sound session step = load_keeps old new table file reply session step
command_keeps old new (Index table column) file reply sound session step =
    index_keeps old new table column reply session step
command_keeps old new (Prepare name select) file reply sound session step =
    prepare_keeps old new name select reply (sound name select refl) session step
command_keeps old new (Run name args) file reply sound session step = run_keeps old new name args reply session step
command_keeps old new (Cursor cursor name args) file reply sound session step =
    cursor_keeps old new cursor name args reply session step
command_keeps old new (Fetch cursor rows) file reply sound session step =
    fetch_keeps old new cursor rows reply session step
command_keeps old new (Close cursor) file reply sound session step = close_keeps old new cursor reply session step
command_keeps old new (Evict name plan) file reply sound session step =
    evict_keeps old new name plan reply session step
command_keeps old new (Show name) file reply sound session step = show_keeps old new name reply session step

kept_by : (old : State) (reading : Reading) (file : Option (List ℕ)) (reply : Reply) (new : State)
    → PreparesSound reading → IsSession old → Step old reading file reply new → IsSession new
unfolding Step
kept_by old Silent file reply new sound session step = elim step [ ]
kept_by old (Says command) file reply new sound session step = command_keeps old new command file reply sound session step
kept_by old Bad file reply new sound session step = refused _ old new reply session step

pub kept : (old : State) (text : List ℕ) (file : Option (List ℕ)) (reply : Reply) (new : State) → IsSession old
    → Step old (reading_of text) file reply new → IsSession new
kept old text file reply new session step =
    kept_by old (reading_of text) file reply new (statements_sound text) session step

pub kept_along : (files : Files) (old : State) (lines : List Line) (replies : List Reply) (new : State) → IsSession old
    → IsChain (StepOver files) old lines replies new → IsSession new
kept_along files old lines replies new session chain =
    keeps (StepOver files) IsSession
    (λ a line reply b h step. kept a line.text (file_of files (reading_of line.text)) reply b h step)
    old lines replies new session chain
