-- The plan cache of one statement: its plans, and the instances that were optimised.
use Rattle.std.specs.Prelude.{ℕ, zero, suc, ◌+◌, ◌==◌, Bool, not, List, [], ◌∷◌, ◌++◌, filter, sum_by, Option, Some}
use Rattle.std.specs.Prelude.{None, if◌then◌else◌}
use Rattle.std.specs.List.{list_any}
use Rattle.plan_trees.specs.Trees.{TopTree}

-- a plan, by the number that it has in this cache
pub record CachedPlan : Type 0 where
  pub number : ℕ
  pub top : TopTree

-- an instance that was optimised: which execution it was, its vector, the number of the plan that it got, what that
-- plan costs there, the least cost there, and how many executions the anchor has served, its own among them
pub record Anchor : Type 0 where
  pub execution : ℕ
  pub at : List ℕ
  pub plan : ℕ
  pub plan_cost : ℕ
  pub least : ℕ
  pub uses : ℕ

-- plans and anchors in the order of adding, and the number of the next plan
pub record CacheState : Type 0 where
  pub plans : List CachedPlan
  pub anchors : List Anchor
  pub next_plan : ℕ

abbrev pub empty_cache : CacheState
empty_cache = record { plans = []; anchors = []; next_plan = 1 }

-- Looking up.

-- the plan of this number
abbrev pub top_numbered : List CachedPlan → ℕ → Option TopTree
top_numbered [] number = None
top_numbered (plan ∷ plans) number = if plan.number == number then Some plan.top else top_numbered plans number

-- the anchor got the plan of this number
abbrev pub is_of : ℕ → Anchor → Bool
is_of number anchor = anchor.plan == number

abbrev pub has_anchor : List Anchor → ℕ → Bool
has_anchor anchors number = list_any (is_of number) anchors

abbrev pub anchors_of : List Anchor → ℕ → List Anchor
anchors_of anchors number = filter (is_of number) anchors

-- how often the anchors of a plan were used, together
abbrev pub uses_of : List Anchor → ℕ → ℕ
uses_of anchors number = sum_by (λ anchor. anchor.uses) (anchors_of anchors number)

-- Changes.

-- the anchor at this position has served one execution more
abbrev pub used_at : List Anchor → ℕ → List Anchor
used_at [] position = []
used_at (anchor ∷ anchors) zero = record anchor { uses = anchor.uses + 1 } ∷ anchors
used_at (anchor ∷ anchors) (suc position) = anchor ∷ used_at anchors position

-- a reuse: the anchor serves one execution more, and all else stays
abbrev pub reused : CacheState → ℕ → CacheState
reused cache position = record cache { anchors = used_at cache.anchors position }

-- a plan goes with its anchors; its number isn't given again
abbrev pub without : CacheState → ℕ → CacheState
without cache number = record {
  plans = filter (λ plan. not (plan.number == number)) cache.plans;
  anchors = filter (λ anchor. not (is_of number anchor)) cache.anchors;
  next_plan = cache.next_plan;
}

-- all plans and anchors go; plan numbers go on
abbrev pub cleared : CacheState → CacheState
cleared cache = record { plans = []; anchors = []; next_plan = cache.next_plan }

-- a plan is added, with the next number
abbrev pub with_plan : CacheState → TopTree → CacheState
with_plan cache top = record {
  plans = cache.plans ++ record { number = cache.next_plan; top = top } ∷ [];
  anchors = cache.anchors;
  next_plan = cache.next_plan + 1;
}

abbrev pub with_anchor : CacheState → Anchor → CacheState
with_anchor cache anchor = record cache { anchors = cache.anchors ++ anchor ∷ [] }
