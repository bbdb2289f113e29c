-- What a plan cache holds, as contracts see it, and what is true of every cache.
use Rattle.std.specs.Prelude.{ℕ, ◌≡◌, ◌<◌, ◌≤◌, ◌^◌, ◌==◌, Bool, IsTrue, List, length, map, All, AllPairs}
use Rattle.std.specs.List.{list_any}
use Rattle.plan_trees.specs.Trees.{top_tree}
use Rattle.cache_model.specs.Caches.{Anchor, CachedPlan, CacheState}
use Rattle.cache_model.specs.declared.limits.TheConstants.{ANCHOR_LIMIT}
use Rattle.anchor_cache.specs.declared.kept_plans.Kept.{Kept}
use Rattle.anchor_cache.specs.declared.kept_plans.PlanUses.{PlanUses}
use Rattle.anchor_cache.specs.declared.window.WindowEntry.{WindowEntry}
use Rattle.anchor_cache.specs.Sums.{sums_of}
use Rattle.anchor_cache.specs.Window.{IsOrdered}

-- plans with their costs, and anchors, both in the order of adding; the number of the next plan; and for how many
-- plans and for how many anchors more there is room
pub record Contents : Type 0 where
  pub plans : List Kept
  pub anchors : List Anchor
  pub next_plan : ℕ
  pub spare_plans : ℕ
  pub spare_anchors : ℕ

-- a kept plan, without the polynomial of its cost
abbrev pub cached : Kept → CachedPlan
cached kept = record { number = kept.number; top = top_tree kept.costed.plan.value }

abbrev pub state_of : Contents → CacheState
state_of cache = record { plans = map cached cache.plans; anchors = cache.anchors; next_plan = cache.next_plan }

abbrev pub has_number : ℕ → Kept → Bool
has_number number kept = kept.number == number

-- the plan of this number is there
abbrev pub has_plan : List Kept → ℕ → Bool
has_plan plans number = list_any (has_number number) plans

-- an anchor has a plan of the list, and a vector and costs of at least 1; its plan costs no less than the least
pub record IsKeptAnchor (plans : List Kept) (anchor : Anchor) : Type 0 where
  pub planned : IsTrue (has_plan plans anchor.plan)
  pub numbers : All (λ n. 1 ≤ n) anchor.at
  pub least : 1 ≤ anchor.least
  pub plan_cost : anchor.least ≤ anchor.plan_cost
  pub uses : anchor.uses < 2 ^ 64

-- plan numbers rise and were given before the next, executions rise, and anchors are few
pub record IsCache (plans : List Kept) (anchors : List Anchor) (next_plan : ℕ) : Type 0 where
  pub numbers_rise : AllPairs (λ a b. a.number < b.number) plans
  pub given : All (λ kept. kept.number < next_plan) plans
  pub executions_rise : AllPairs (λ a b. a.execution < b.execution) anchors
  pub kept : All (IsKeptAnchor plans) anchors
  pub few : length anchors ≤ ANCHOR_LIMIT

-- what a cache keeps beside its plans and anchors agrees with them
pub record IsInStep (plans : List Kept) (anchors : List Anchor) (next_plan : ℕ) (sums : List PlanUses)
    (entries : List WindowEntry) : Type 0 where
  pub cache : IsCache plans anchors next_plan
  pub summed : sums ≡ sums_of plans anchors
  pub ordered : IsOrdered anchors entries
