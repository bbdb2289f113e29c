-- A statement's cache as the engine keeps it: true of its statement, with exact polynomials.
use Rattle.std.specs.Prelude.{ℕ, ◌≡◌, ◌≤◌, ◌+◌, List, [], ◌∷◌, length, map, All, Bool, true, false}
use Rattle.row_values.specs.Statements.{Statement}
use Rattle.plan_trees.specs.Statistics.{Statistics, IsSoundVector}
use Rattle.plan_trees.specs.Trees.{top_tree}
use Rattle.cost_model.specs.Costs.{top_cost}
use Rattle.cache_model.specs.Caches.{cleared}
use Rattle.cache_model.specs.Faithful.{IsFaithfulCache}
use Rattle.catalog_model.specs.Catalogs.{Catalog, StatementState, reads_table, stats_now}
use Rattle.session_model.specs.Session.{IsSession}
use Rattle.session_model.specs.State.{CursorState, State}
use Rattle.session_model.specs.declared.settings.Settings.{Settings}
use Rattle.session_store.specs.Kept.{StoreState}
use Rattle.anchor_cache.specs.Contents.{Contents, state_of}
use Rattle.anchor_cache.specs.Instances.{HasCostAt, cost_at}
use Rattle.anchor_cache.specs.declared.kept_plans.Kept.{Kept}
use Rattle.session_engine.specs.Cursors.{IsWaiting, cursors_with}
use Rattle.session_engine.specs.declared.waiting.Waiting.{Waiting}

-- at every sound vector the polynomial of a kept plan is the plan's cost, and fits
pub record IsCosted (q : Statement) (s : Statistics) (kept : Kept) : Type 0 where
  pub costs : (vector : List ℕ) → IsSoundVector q s vector
      → cost_at vector kept ≡ top_cost q s vector (top_tree kept.costed.plan.value)
  pub fits : (vector : List ℕ) → IsSoundVector q s vector → HasCostAt vector kept

-- after so many executions, with this budget of plans
pub record IsServing (q : Statement) (s : Statistics) (executions budget : ℕ) (cache : Contents) : Type 0 where
  pub faithful : IsFaithfulCache (state_of cache) q s executions budget
  pub costed : All (IsCosted q s) cache.plans
  pub numbers : cache.next_plan ≤ executions + 1

-- Sessions.

-- the state of a session that keeps these
abbrev pub session_of : Catalog → List Contents → List CursorState → ℕ → Settings → State
session_of catalog caches cursors executions settings = record {
  catalog = catalog;
  caches = map state_of caches;
  cursors = cursors;
  executions = executions;
  settings = settings;
}

-- the plans of a cache have exact polynomials under the statistics of its statement now
abbrev pub AreCosted : Catalog → StatementState → Contents → Type 0
AreCosted catalog prepared cache =
    All (IsCosted prepared.statement (stats_now catalog.tables catalog.weights prepared.statement)) cache.plans

-- each statement with what its cache holds, in order
abbrev pub EachWithContents : (StatementState → Contents → Type 0) → List StatementState → List Contents → Type 0
EachWithContents P [] [] = Unit {0}
EachWithContents P (prepared ∷ others) (cache ∷ caches) = P prepared cache × EachWithContents P others caches
EachWithContents P [] (cache ∷ caches) = ⊥
EachWithContents P (prepared ∷ others) [] = ⊥

pub record IsSessionKept (catalog : Catalog) (caches : List Contents) (cursors : List CursorState) (executions : ℕ)
    (settings : Settings) : Type 0 where
  pub session : IsSession (session_of catalog caches cursors executions settings)
  pub costed : EachWithContents (AreCosted catalog) catalog.statements caches

-- the open cursors of a store, with the rows that wait in them
abbrev pub open_in : StoreState → List Waiting → List CursorState
open_in store rows = cursors_with store.catalog.statements store.cursors rows

-- the state of a session that keeps a store, caches, and rows that wait
abbrev pub session_in : StoreState → List Contents → List Waiting → ℕ → Settings → State
session_in store caches rows executions settings =
    session_of store.catalog caches (open_in store rows) executions settings

pub record IsKeptWhole (store : StoreState) (caches : List Contents) (rows : List Waiting) (executions : ℕ)
    (settings : Settings) : Type 0 where
  pub kept : IsSessionKept store.catalog caches (open_in store rows) executions settings
  -- each open cursor has its rows
  pub one_each : length rows ≡ length store.cursors
  pub waits : All (IsWaiting store.catalog.statements) rows

-- Clearing.

-- the cache is cleared, or it is as it was
abbrev pub IsClearedIf : Bool → Contents → Contents → Type 0
IsClearedIf true old new = state_of new ≡ cleared (state_of old)
IsClearedIf false old new = new ≡ old

-- of these statements those that read the table have their caches cleared
abbrev pub AreCleared : List ℕ → List StatementState → List Contents → List Contents → Type 0
AreCleared table [] [] [] = Unit {0}
AreCleared table (prepared ∷ others) (old ∷ olds) (new ∷ news) =
    IsClearedIf (reads_table table prepared.statement.places) old new × AreCleared table others olds news
AreCleared table statements olds news = ⊥
