-- What every state has that a session reaches.
use Rattle.std.specs.Prelude.{◌≤◌, ◌+◌, ◌*◌, List, [], ◌∷◌, ◌++◌, length, IsTrue}
use Rattle.plan_trees.specs.Statistics.{AreWeights}
use Rattle.cache_model.specs.Caches.{CacheState}
use Rattle.cache_model.specs.Faithful.{IsFaithfulCache}
use Rattle.cache_model.specs.declared.limits.TheConstants.{RECOST_LIMIT}
use Rattle.catalog_model.specs.Catalogs.{StatementState, stats_now}
use Rattle.catalog_model.specs.Held.{cursors_differ, present_versions}
use Rattle.catalog_model.specs.Sound.{AreNumbered, IsCatalog}
use Rattle.catalog_model.specs.declared.TheConstants.{CURSOR_LIMIT}
use Rattle.session_model.specs.declared.TheConstants.{BUDGET_LIMIT}
use Rattle.session_model.specs.declared.settings.Settings.{Settings}
use Rattle.session_model.specs.State.{State, held_versions, holds_of}

-- the settings of a run: lambda is at least 1, keep lies between 1 and lambda, and the numbers are within their limits
pub record AreSettings (settings : Settings) : Type 0 where
  pub weights : AreWeights settings.weights
  pub lambda : settings.lambda.den ≤ settings.lambda.num
  pub keep : settings.keep.den ≤ settings.keep.num
  pub keep_within : settings.keep.num * settings.lambda.den ≤ settings.lambda.num * settings.keep.den
  pub some_plans : 1 ≤ settings.budget
  pub few_plans : settings.budget ≤ BUDGET_LIMIT
  pub few_recosts : settings.recosts ≤ RECOST_LIMIT

-- the cache of a statement is true of it over the tables and indexes as they are now; no plan number was given that the
-- executions so far don't account for
pub record IsCacheOf (state : State) (prepared : StatementState) (cache : CacheState) : Type 0 where
  pub faithful : IsFaithfulCache cache prepared.statement
      (stats_now state.catalog.tables state.catalog.weights prepared.statement) state.executions state.settings.budget
  pub numbers : cache.next_plan ≤ state.executions + 1

-- each statement with its cache, in order
abbrev pub EachWithCache : (StatementState → CacheState → Type 0) → List StatementState → List CacheState → Type 0
EachWithCache P [] [] = Unit {0}
EachWithCache P (prepared ∷ others) (cache ∷ caches) = P prepared cache × EachWithCache P others caches
EachWithCache P [] (cache ∷ caches) = ⊥
EachWithCache P (prepared ∷ others) [] = ⊥

pub record IsSession (state : State) : Type 0 where
  pub settings : AreSettings state.settings
  -- names differ, each statement's tables are loaded with the columns that it knows, and all is within its limits
  pub catalog : IsCatalog (held_versions state.cursors) state.catalog
  -- each number stands for one version, whether it is present or held
  pub numbered : AreNumbered state.catalog.versions
      (held_versions state.cursors ++ present_versions state.catalog.tables)
  -- the open cursors differ, and are few
  pub cursor_names : IsTrue (cursors_differ (holds_of state.cursors))
  pub few_cursors : length state.cursors ≤ CURSOR_LIMIT
  -- each statement has a cache, which is true of it
  pub caches : EachWithCache (IsCacheOf state) state.catalog.statements state.caches
