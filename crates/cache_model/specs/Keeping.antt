-- What is kept of an instance that was optimised: an anchor, and its plan unless an older one does as well.
use Rattle.std.specs.Prelude.{ℕ, ◌*◌, nat_lt, Bool, List, [], ◌∷◌, length, filter, find, Option, Some, None}
use Rattle.std.specs.Prelude.{if◌then◌else◌}
use Rattle.std.specs.List.{best_of}
use Rattle.std.specs.Option.{option_map, option_map_or, option_or}
use Rattle.fraction_math.specs.Fraction.{Fraction}
use Rattle.row_values.specs.Statements.{Statement}
use Rattle.plan_trees.specs.Statistics.{Statistics}
use Rattle.plan_trees.specs.Trees.{TopTree, same_top}
use Rattle.cost_model.specs.Costs.{top_cost}
use Rattle.cache_model.specs.Caches.{Anchor, CachedPlan, CacheState, anchors_of, uses_of, with_anchor, with_plan}
use Rattle.cache_model.specs.Caches.{without}
use Rattle.cache_model.specs.Choices.{is_at_most}
use Rattle.cache_model.specs.declared.limits.TheConstants.{ANCHOR_LIMIT}

-- an instance that was optimised: which execution it was, its vector, its plan and the least cost
pub record Optimum : Type 0 where
  pub execution : ℕ
  pub at : List ℕ
  pub top : TopTree
  pub least : ℕ

-- the first of those for which the number is least
abbrev pub first_least : {X : Type 0} → (X → ℕ) → List X → Option X
first_least number [] = None
first_least number (x ∷ xs) = Some (best_of (λ y least. nat_lt (number y) (number least)) x xs)

-- Redundant plans.

-- a plan of this cost is within the ratio of the least cost
abbrev pub covers : Fraction → ℕ → ℕ → Bool
covers keep least cost = is_at_most (cost * keep.den) (keep.num * least)

-- the plan of least cost, of those within the ratio; of two as cheap the one of less number, which stands first
abbrev pub covering : Fraction → ℕ → (TopTree → ℕ) → List CachedPlan → Option CachedPlan
covering keep least cost plans =
    first_least (λ plan. cost plan.top) (filter (λ plan. covers keep least (cost plan.top)) plans)

-- the plan that is there already and serves: the same, else one that covers
abbrev pub old_plan : Optimum → Fraction → (TopTree → ℕ) → List CachedPlan → Option CachedPlan
old_plan optimum keep cost plans =
    option_or (find (λ plan. same_top plan.top optimum.top) plans) (covering keep optimum.least cost plans)

-- Room for a plan.

-- the plan whose anchors were used least; of two the one of less number
abbrev pub victim : CacheState → Option CachedPlan
victim cache = first_least (λ plan. uses_of cache.anchors plan.number) cache.plans

-- the number of the plan that goes: only where there are as many as the budget
abbrev pub evicted_for_room : CacheState → ℕ → Option ℕ
evicted_for_room cache budget =
    if nat_lt (length cache.plans) budget then None else option_map (λ plan. plan.number) (victim cache)

abbrev pub with_room : CacheState → ℕ → CacheState
with_room cache budget = option_map_or (without cache) (evicted_for_room cache budget) cache

-- Keeping.

-- the number of a plan that went, and how many anchors went with it
pub record Eviction : Type 0 where
  pub plan : ℕ
  pub anchors : ℕ

-- what was kept: an anchor with the plan under a new number, an anchor of an old plan, or nothing
pub data KeptNote : Type 0 where
  KeptNew : (number : ℕ) → KeptNote
  KeptOld : (number : ℕ) → KeptNote
  KeptNothing : KeptNote

-- the cache afterwards, and what is told of it
pub record Keeping : Type 0 where
  pub cache : CacheState
  pub evicted : Option Eviction
  pub kept : KeptNote

-- the anchor of an optimum that gets the plan of this number, of this cost at its vector
abbrev pub anchor_of : Optimum → ℕ → ℕ → Anchor
anchor_of optimum number cost =
    record {
      execution = optimum.execution;
      at = optimum.at;
      plan = number;
      plan_cost = cost;
      least = optimum.least;
      uses = 1;
    }

-- the anchor gets a plan that is there
abbrev pub kept_with_old : CacheState → Optimum → (TopTree → ℕ) → CachedPlan → Keeping
kept_with_old cache optimum cost plan = record {
  cache = with_anchor cache (anchor_of optimum plan.number (cost plan.top));
  evicted = None;
  kept = KeptOld plan.number;
}

-- the anchor gets its own plan, for which there is room
abbrev pub added : CacheState → Optimum → (TopTree → ℕ) → CacheState
added cache optimum cost =
    with_anchor (with_plan cache optimum.top) (anchor_of optimum cache.next_plan (cost optimum.top))

abbrev pub eviction_of : CacheState → ℕ → Eviction
eviction_of cache number = record { plan = number; anchors = length (anchors_of cache.anchors number) }

abbrev pub kept_with_new : CacheState → Optimum → (TopTree → ℕ) → ℕ → Keeping
kept_with_new cache optimum cost budget = record {
  cache = added (with_room cache budget) optimum cost;
  evicted = option_map (eviction_of cache) (evicted_for_room cache budget);
  kept = KeptNew cache.next_plan;
}

-- what is kept where plans cost so much at the optimum's vector: nothing in a full cache; else an anchor with an old
-- plan that serves, or with the optimum's own
abbrev pub kept_at : CacheState → Optimum → (TopTree → ℕ) → Fraction → ℕ → Keeping
kept_at cache optimum cost keep budget =
    if nat_lt (length cache.anchors) ANCHOR_LIMIT
    then option_map_or (kept_with_old cache optimum cost) (old_plan optimum keep cost cache.plans)
    (kept_with_new cache optimum cost budget)
    else record { cache = cache; evicted = None; kept = KeptNothing }

abbrev pub kept_after : CacheState → Statement → Statistics → Optimum → Fraction → ℕ → Keeping
kept_after cache q s optimum keep budget = kept_at cache optimum (top_cost q s optimum.at) keep budget
