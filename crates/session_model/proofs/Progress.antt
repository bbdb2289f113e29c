-- Each line has a step: to add a command, add its case to `command_goes_on`.
use Rattle.std.proofs.Common.{ℕ, suc, ◌≡◌, ◌∙◌, ◌+◌, List, [], ◌∷◌, ◌++◌, drop, length, map, set, take, Bool, true, false, cond, Option, Some, None}
use Rattle.std.proofs.Common.{Result, Ok, Err, MatchOption, MatchResult, ap, refl, subst, sym}
use Rattle.std.specs.Option.{option_map}
use Rattle.std.specs.Str.{bytes_eq}
use Rattle.row_values.specs.Names.{canonical_name}
use Rattle.row_values.specs.Refusals.{missing_file, syntax, unknown_cursor, unknown_plan, unknown_statement}
use Rattle.row_values.specs.Statements.{IsSoundQuery, Statement, kinds_of}
use Rattle.row_values.specs.declared.refusals.Refusal.{Refusal}
use Rattle.row_values.specs.declared.values.Value.{Value}
use Rattle.sql_parser.specs.Statement.{Parts}
use Rattle.statement_meaning.specs.Meaning.{meaning_of}
use Rattle.statement_meaning.specs.Spelling.{row_line}
use Rattle.plan_trees.specs.Spelling.{top_text}
use Rattle.plan_trees.specs.Statistics.{IsSoundVector, Statistics}
use Rattle.plan_trees.specs.Trees.{TopTree}
use Rattle.cost_model.specs.Costs.{top_cost}
use Rattle.plan_costs.proofs.Optima.{optimum_exists}
use Rattle.plan_costs.specs.BestPlans.{IsOptimum}
use Rattle.plan_costs.specs.LowerBounds.{LowerBounds}
use Rattle.cache_model.specs.Caches.{Anchor, CacheState, anchors_of, empty_cache, reused, top_numbered, without}
use Rattle.cache_model.specs.Choices.{ByCost, ByOptimum, BySelectivity, Choice, choice_of, position_chosen}
use Rattle.cache_model.specs.Faithful.{IsFaithfulCache}
use Rattle.cache_model.specs.Keeping.{Keeping, kept_after}
use Rattle.cache_model.specs.Laws.{IsWithinBound}
use Rattle.bound_certificate.specs.declared.certificates.Cert.{Cert}
use Rattle.bound_certificate.specs.declared.certificates.Cert.TheVariants as cert
use Rattle.script_report.specs.Commands.{Reading, Silent, Says, Bad}
use Rattle.script_report.specs.declared.commands.Command.{Command}
use Rattle.script_report.specs.declared.commands.Command.TheVariants.{Load, Index, Prepare, Run, Cursor, Fetch, Close, Evict, Show}
use Rattle.script_report.specs.declared.replies.By.{By}
use Rattle.script_report.specs.declared.replies.By.TheVariants as by
use Rattle.script_report.specs.declared.replies.Execution.{Execution}
use Rattle.script_report.specs.declared.replies.KeptNote.TheVariants as note
use Rattle.script_report.specs.declared.replies.Reply.{Reply}
use Rattle.script_report.specs.declared.replies.Reply.TheVariants as reply
use Rattle.catalog_model.specs.Catalogs.{StatementState, Version, find_statement, number_of, stats_now, with_version}
use Rattle.catalog_model.specs.Catalogs.{with_index, with_statement}
use Rattle.catalog_model.specs.Held.{holding_refusal, versions_of}
use Rattle.catalog_model.specs.Indexing.{indexing_of}
use Rattle.catalog_model.specs.Instances.{Instance, instance_of}
use Rattle.catalog_model.specs.Loading.{loading_of}
use Rattle.catalog_model.specs.Preparing.{preparing_of}
use Rattle.catalog_model.proofs.Measures.{measured, statement_found}
use Rattle.catalog_model.proofs.Numbers.{numbered, position_next}
use Rattle.session_model.specs.Executions.{IsChosen, IsExecution, Optimises, Reuses, by_cost, by_selectivity}
use Rattle.session_model.specs.Executions.{eviction_shown, note_shown, optimum_of, rows_refusal}
use Rattle.session_model.specs.Run.{is_silent}
use Rattle.session_model.specs.Session.{IsCacheOf, IsSession}
use Rattle.session_model.specs.State.{CursorState, State, cache_at, cleared_for, closed_from, cursor_named, fetched_from}
use Rattle.session_model.specs.State.{held_versions, holds_of}
use Rattle.session_model.specs.Step.{Step, CanStep, CommandStep, LoadStep, IndexStep, PrepareStep, RunStep, InstanceStep}
use Rattle.session_model.specs.Step.{CloseStep, Closes, CursorStep, FetchStep, Fetches, OpenInstanceStep, OpenStep, Opens}
use Rattle.session_model.specs.Step.{EvictFrom, EvictStep, Evicts, ExecutionStep, ShowStep, Shows, anchor_shown, plan_shown}
use Rattle.session_model.specs.Step.{Refuses, Loads, Indexes, Prepares, Executes, present_stats, present_tables}
use Rattle.session_model.specs.Step.{present_vector}
use Rattle.session_model.specs.declared.settings.Settings.{Settings}
use Rattle.session_model.proofs.EachCache.{each_at}
use Rattle.session_model.proofs.Reuse.{within_bound}
use Rattle.session_model.proofs.Sessions.{same_statement}

-- some reply and some state after it meet this
abbrev Can : (Reply → State → Type 0) → Type 0
Can P = (answer : Reply) × (new : State) × P answer new

refuses : (why : Refusal) (old : State) → Can (Refuses why old)
refuses why old = (reply.Refused why, old, record { says = refl; unchanged = refl })

by_result : {A : Type 0} (r : Result A Refusal) (old : State) (P : A → Reply → State → Type 0)
    → ((a : A) → r ≡ Ok a → Can (P a))
    → Can (λ answer new. MatchResult r (λ a. P a answer new) (λ why. Refuses why old answer new))
by_result (Ok a) old P p = p a refl
by_result (Err why) old P p = refuses why old

by_option : (o : Option Refusal) (old : State) (P : Reply → State → Type 0) → Can P
    → Can (λ answer new. MatchOption o (P answer new) (λ why. Refuses why old answer new))
by_option None old P p = p
by_option (Some why) old P p = refuses why old

loads : (old : State) (name : List ℕ) (version : Version) → Can (Loads old name version)
loads old name version = (
  reply.Loaded name (length version.content.rows)
      (length version.content.schema),
  record old {
    catalog = with_version old.catalog name version;
    caches = cleared_for name old.catalog.statements old.caches;
  },
  record
      { says = refl; keeps = refl },
)

load_goes_on : (old : State) (name : List ℕ) (file : Option (List ℕ)) → Can (LoadStep old name file)
load_goes_on old name None = refuses missing_file old
load_goes_on old name (Some bytes) =
    by_result (loading_of (held_versions old.cursors) old.catalog name bytes) old (Loads old name)
    (λ version e. loads old name version)

indexes : (old : State) (table column : List ℕ) (number : ℕ) → Can (Indexes old table column number)
indexes old table column number = (
  reply.Indexed table column,
  record old {
    catalog = with_index old.catalog table number;
    caches = cleared_for table old.catalog.statements old.caches;
  },
  record { says = refl; keeps = refl },
)

index_goes_on : (old : State) (table column : List ℕ) → Can (IndexStep old table column)
index_goes_on old table column =
    by_result (indexing_of old.catalog table column) old (Indexes old table column)
    (λ number e. indexes old table column number)

prepares : (old : State) (name : List ℕ) (q : Statement) → Can (Prepares old name q)
prepares old name q = (
  reply.Prepared name (length q.places) (length q.preds)
      (length (kinds_of q.places q.preds)),
  record old { catalog = with_statement old.catalog name q; caches = old.caches ++ empty_cache ∷ [] },
  record
      { says = refl; keeps = refl },
)

prepare_goes_on : (old : State) (name : List ℕ) (select : Parts) → Can (PrepareStep old name select)
prepare_goes_on old name select =
    by_result (preparing_of old.catalog name select) old (Prepares old name) (λ q e. prepares old name q)

-- Executions.

-- an execution of an instance with this cache, and the cache after it
record CanExecute (settings : Settings) (number : ℕ) (name : List ℕ) (q : Statement) (s : Statistics) (vector : List ℕ)
    (before : CacheState) : Type 0 where
  pub execution : Execution
  pub after : CacheState
  pub shows : IsExecution settings number name q s vector before execution after

reuses : (settings : Settings) (number : ℕ) (name : List ℕ) (q : Statement) (s : Statistics) (vector : List ℕ)
    (before : CacheState) (position : ℕ) (way : Anchor → By) (claimed : ℕ → Cert)
    → IsWithinBound before q s vector settings.lambda position
    → ((plan : TopTree) (execution : Execution) (after : CacheState)
    → Reuses before position way claimed plan execution after
    → IsChosen settings number q s vector before plan execution after
    (choice_of before q s vector settings.lambda settings.recosts))
    → CanExecute settings number name q s vector before
reuses settings number name q s vector before position way claimed bound is =
    let execution : Execution = record {
      name = name;
      number = number;
      spelled = top_text q.places bound.top;
      cost = top_cost q s vector bound.top;
      at = vector;
      by = way bound.anchor;
      evicted = None;
      kept = note.Reused;
      cert = claimed bound.anchor.execution;
    } in record {
      execution = execution;
      after = reused before position;
      shows = record {
        named = refl;
        numbered = refl;
        plan = bound.top;
        spelled = refl;
        costs = refl;
        at = refl;
        chosen = is bound.top execution (reused before position)
            (record {
              anchor = bound.anchor;
              there = bound.there;
              its_plan = bound.plan;
              by = refl;
              certified = refl;
              not_evicted = refl;
              not_kept = refl;
              uses = refl;
            });
      };
    }

optimises : (settings : Settings) (number : ℕ) (name : List ℕ) (q : Statement) (s : Statistics) (vector : List ℕ)
    (before : CacheState) (tried : ℕ) (top : TopTree) (cost : ℕ) (bounds : LowerBounds)
    → IsOptimum q s vector top cost bounds
    → ((plan : TopTree) (execution : Execution) (after : CacheState)
    → Optimises settings number q s vector before tried plan execution after
    → IsChosen settings number q s vector before plan execution after
    (choice_of before q s vector settings.lambda settings.recosts))
    → CanExecute settings number name q s vector before
optimises settings number name q s vector before tried top cost bounds best is =
    let keeping : Keeping = kept_after before q s (optimum_of number vector top cost) settings.keep
    settings.budget in
    let execution : Execution = record {
      name = name;
      number = number;
      spelled = top_text q.places top;
      cost = cost;
      at = vector;
      by = by.Optimum tried;
      evicted = option_map eviction_shown keeping.evicted;
      kept = note_shown keeping.kept;
      cert = cert.Optimum bounds;
    } in record {
      execution = execution;
      after = keeping.cache;
      shows = record {
        named = refl;
        numbered = refl;
        plan = top;
        spelled = refl;
        costs = sym best.costs;
        at = refl;
        chosen = is top execution keeping.cache
            (record {
              bounds = bounds;
              optimum = best;
              certified = refl;
              by = refl;
              keeps = record { evicted = refl; kept = refl; cache = refl };
            });
      };
    }

can_execute : (settings : Settings) (executions : ℕ) (name : List ℕ) (q : Statement) (s : Statistics) (vector : List ℕ)
    (before : CacheState) (choice : Choice) → IsSoundQuery q → IsSoundVector q s vector
    → IsFaithfulCache before q s executions settings.budget
    → choice_of before q s vector settings.lambda settings.recosts ≡ choice
    → CanExecute settings (executions + 1) name q s vector before
can_execute settings executions name q s vector before (BySelectivity position) sound numbers h e =
    reuses settings (executions + 1) name q s vector before position by_selectivity cert.Selectivity
    (within_bound before q s executions settings.budget vector settings.lambda settings.recosts position h numbers
    (ap position_chosen e))
    (λ plan execution after r. subst (IsChosen settings (executions + 1) q s vector before plan execution after) (sym e) r)
can_execute settings executions name q s vector before (ByCost position tried) sound numbers h e =
    reuses settings (executions + 1) name q s vector before position (by_cost tried) cert.Cost
    (within_bound before q s executions settings.budget vector settings.lambda settings.recosts position h numbers
    (ap position_chosen e))
    (λ plan execution after r. subst (IsChosen settings (executions + 1) q s vector before plan execution after) (sym e) r)
can_execute settings executions name q s vector before (ByOptimum tried) sound numbers h e =
    let best = optimum_exists q s vector sound in
    optimises settings (executions + 1) name q s vector before tried best.top best.cost best.bounds best.is_optimum
    (λ plan execution after r. subst (IsChosen settings (executions + 1) q s vector before plan execution after) (sym e) r)

-- Instances.

-- the statement of an instance has a number
number_there : (ss : List StatementState) (name : List ℕ) (q : Statement) → find_statement ss name ≡ Some q
    → (number : ℕ) × (number_of ss name ≡ Some number)
number_there [] name q h = absurd cc
number_there (p ∷ ps) name q h =
    by_test (bytes_eq name p.name) refl h (λ k. number_there ps name q k)
  where
    by_test : (test : Bool) → bytes_eq name p.name ≡ test → cond test (Some p.statement) (find_statement ps name) ≡ Some q
        → (find_statement ps name ≡ Some q → (number : ℕ) × (number_of ps name ≡ Some number))
        → (number : ℕ) × (number_of (p ∷ ps) name ≡ Some number)
    by_test true e k more = (0, position_next (λ (s : StatementState). bytes_eq name s.name) p ps ∙ rw e refl)
    by_test false e k more =
        let later = more k in (
          suc later.0,
          position_next (λ (s : StatementState). bytes_eq name s.name) p ps ∙ rw (e, later.1) refl,
        )

executes : (old : State) (name : List ℕ) (instance : Instance) (args : List Value) → IsSession old
    → instance_of old.catalog name args ≡ Ok instance
    → Can (λ answer new. (e : ExecutionStep old name instance.statement instance.args new) ×
    (answer ≡ reply.Ran e.execution
    (map row_line (meaning_of instance.statement (present_tables old instance.statement) instance.args))))
executes old name instance args session i =
    let q : Statement = instance.statement in
    let found = (statement_found old.catalog name args instance i).0 in
    let number = number_there old.catalog.statements name q found in
    let before : CacheState = cache_at old.caches number.0 in
    let m = measured (held_versions old.cursors) old.catalog name args instance session.catalog i in
    let own = each_at (IsCacheOf old) name old.catalog.statements old.caches number.0 number.1 session.caches in
    let same : own.prepared.statement ≡ q =
    same_statement (find_statement old.catalog.statements name) own.prepared.statement q own.found found in
    let h = subst (λ (p : Statement). IsFaithfulCache before p
    (stats_now old.catalog.tables old.catalog.weights p) old.executions old.settings.budget) same own.has.faithful in
    let can = can_execute old.settings old.executions name q (present_stats old q) (present_vector old q instance.args)
    before
    (choice_of before q (present_stats old q) (present_vector old q instance.args) old.settings.lambda
    old.settings.recosts)
    m.sound m.vector h refl in (
      reply.Ran can.execution
          (map row_line (meaning_of q (present_tables old q) instance.args)),
      record old { caches = set old.caches number.0 can.after; executions = old.executions + 1 },
      (
        record {
          number = number.0;
          its_number = number.1;
          execution = can.execution;
          cache = can.after;
          shows = can.shows;
          keeps = refl;
        },
        refl,
      ),
    )

runs : (old : State) (name : List ℕ) (q : Statement) (args : List Value)
    → Can (λ answer new. (e : ExecutionStep old name q args new) ×
    (answer ≡ reply.Ran e.execution (map row_line (meaning_of q (present_tables old q) args))))
    → Can (Executes old name q args)
runs old name q args can = (can.0, can.1, record { step = can.2.0; says = can.2.1 })

instance_goes_on : (old : State) (name : List ℕ) (instance : Instance) (args : List Value) → IsSession old
    → instance_of old.catalog name args ≡ Ok instance
    → Can (InstanceStep old name instance.statement instance.args)
instance_goes_on old name instance args session i =
    by_option (rows_refusal (length (meaning_of instance.statement (present_tables old instance.statement) instance.args)))
    old (Executes old name instance.statement instance.args)
    (runs old name instance.statement instance.args (executes old name instance args session i))

run_goes_on : (old : State) (name : List ℕ) (args : List Value) → IsSession old → Can (RunStep old name args)
run_goes_on old name args session =
    by_result (instance_of old.catalog name args) old
    (λ instance. InstanceStep old name instance.statement instance.args)
    (λ instance e. instance_goes_on old name instance args session e)

-- Caches.

by_none : {A : Type 0} (o : Option A) (old : State) (why : Refusal) (P : A → Reply → State → Type 0)
    → ((a : A) → o ≡ Some a → Can (P a))
    → Can (λ answer new. MatchOption o (Refuses why old answer new) (λ a. P a answer new))
by_none None old why P p = refuses why old
by_none (Some a) old why P p = p a refl

evicts : (old : State) (name : List ℕ) (number plan : ℕ) → Can (Evicts old name number plan)
evicts old name number plan = (
  reply.Evicted name plan (length (anchors_of (cache_at old.caches number).anchors plan)),
  record old { caches = set old.caches number (without (cache_at old.caches number) plan) },
  record { says = refl; drops = refl },
)

evict_goes_on : (old : State) (name : List ℕ) (plan : ℕ) → Can (EvictStep old name plan)
evict_goes_on old name plan =
    by_none (number_of old.catalog.statements name) old (unknown_statement (canonical_name name))
    (λ number. EvictFrom old name plan number)
    (λ number is. by_none (top_numbered (cache_at old.caches number).plans plan) old (unknown_plan plan)
    (λ top. Evicts old name number plan) (λ top there. evicts old name number plan))

shows : (old : State) (name : List ℕ) (number : ℕ) (q : Statement)
    → find_statement old.catalog.statements name ≡ Some q → Can (Shows old name number)
shows old name number q found = (
  reply.Shown name
      (map (plan_shown q (cache_at old.caches number).anchors) (cache_at old.caches number).plans)
      (map anchor_shown (cache_at old.caches number).anchors),
  old,
  record { statement = q; prepared = found; says = refl; unchanged = refl },
)

show_goes_on : (old : State) (name : List ℕ) → Can (ShowStep old name)
show_goes_on old name =
    by_none (number_of old.catalog.statements name) old (unknown_statement (canonical_name name))
    (λ number. Shows old name number)
    (λ number is. let one = numbered old.catalog.statements name number is in
    shows old name number one.prepared.statement one.found)

-- Cursors.

opens : (old : State) (cursor name : List ℕ) (q : Statement) (args : List Value)
    → Can (λ answer new. (e : ExecutionStep old name q args new) ×
    (answer ≡ reply.Ran e.execution (map row_line (meaning_of q (present_tables old q) args))))
    → Can (Opens old cursor name q args)
opens old cursor name q args can = (
  reply.Opened cursor can.2.0.execution,
  record can.1 {
    cursors = old.cursors ++ record {
      name = cursor;
      held = versions_of old.catalog.tables q;
      lines = map row_line (meaning_of q (present_tables old q) args);
    } ∷ [];
  },
  record { middle = can.1; step = can.2.0; says = refl; keeps = refl },
)

cursor_goes_on : (old : State) (cursor name : List ℕ) (args : List Value) → IsSession old
    → Can (CursorStep old cursor name args)
cursor_goes_on old cursor name args session =
    by_option (holding_refusal (holds_of old.cursors) cursor) old (OpenStep old cursor name args)
    (by_result (instance_of old.catalog name args) old
    (λ instance. OpenInstanceStep old cursor name instance.statement instance.args)
    (λ instance i.
    by_option (rows_refusal (length (meaning_of instance.statement (present_tables old instance.statement) instance.args)))
    old (Opens old cursor name instance.statement instance.args)
    (opens old cursor name instance.statement instance.args (executes old name instance args session i))))

fetches : (old : State) (cursor : List ℕ) (count : ℕ) (waiting : CursorState) → Can (Fetches old cursor waiting count)
fetches old cursor count waiting = (
  reply.Fetched cursor (take count waiting.lines) (length (drop count waiting.lines)),
  record old { cursors = fetched_from old.cursors cursor count },
  record { says = refl; keeps = refl },
)

fetch_goes_on : (old : State) (cursor : List ℕ) (count : ℕ) → Can (FetchStep old cursor count)
fetch_goes_on old cursor count =
    by_none (cursor_named old.cursors cursor) old (unknown_cursor (canonical_name cursor))
    (λ waiting. Fetches old cursor waiting count) (λ waiting is. fetches old cursor count waiting)

closes : (old : State) (cursor : List ℕ) → Can (Closes old cursor)
closes old cursor = (
  reply.Closed cursor,
  record old { cursors = closed_from old.cursors cursor },
  record { says = refl; drops = refl },
)

close_goes_on : (old : State) (cursor : List ℕ) → Can (CloseStep old cursor)
close_goes_on old cursor =
    by_none (cursor_named old.cursors cursor) old (unknown_cursor (canonical_name cursor))
    (λ waiting. Closes old cursor) (λ waiting is. closes old cursor)

command_goes_on : (old : State) (command : Command) (file : Option (List ℕ)) → IsSession old
    → Can (CommandStep old command file)
command_goes_on old (Load table name) file session = load_goes_on old table file
command_goes_on old (Index table column) file session = index_goes_on old table column
command_goes_on old (Prepare name select) file session = prepare_goes_on old name select
command_goes_on old (Run name args) file session = run_goes_on old name args session
command_goes_on old (Cursor cursor name args) file session = cursor_goes_on old cursor name args session
command_goes_on old (Fetch cursor rows) file session = fetch_goes_on old cursor rows
command_goes_on old (Close cursor) file session = close_goes_on old cursor
command_goes_on old (Evict name plan) file session = evict_goes_on old name plan
command_goes_on old (Show name) file session = show_goes_on old name

pub goes_on : (old : State) (reading : Reading) (file : Option (List ℕ)) → IsSession old → is_silent reading ≡ false
    → CanStep old reading file
unfolding Step
goes_on old Silent file session spoken = absurd cc
goes_on old (Says command) file session spoken = command_goes_on old command file session
goes_on old Bad file session spoken = refuses syntax old
