-- What is kept of an optimum, as the model says it.
use Rattle.std.specs.Prelude.{ℕ, ◌≡◌, ◌⊎◌, not, List, Contains, Option, None, filter, find}
use Rattle.std.specs.Option.{option_map, option_map_or, option_or}
use Rattle.fraction_math.specs.Fraction.{Fraction}
use Rattle.plan_trees.specs.Trees.{TopTree, same_top, top_tree}
use Rattle.cache_model.specs.Caches.{with_anchor}
use Rattle.cache_model.specs.Keeping as model
use Rattle.plan_recost.specs.declared.kept_costs.Costed.{Costed}
use Rattle.anchor_cache.specs.declared.kept_plans.Kept.{Kept}
use Rattle.anchor_cache.specs.Contents.{Contents, has_number, state_of}
use Rattle.anchor_cache.specs.Instances.{cost_at}
use Rattle.redundancy_check.specs.Covering.{cheapest_serving}
use Rattle.session_engine.specs.declared.keeping.Keeping.{Keeping}
use Rattle.session_model.specs.Executions.{eviction_shown, note_shown}
use Rattle.session_engine.specs.declared.keeping.OldPlan.{OldPlan}
use Rattle.session_engine.specs.declared.keeping.Optimum.{Optimum}

abbrev pub optimum_of : Optimum → model.Optimum
optimum_of optimum = record {
  execution = optimum.execution;
  at = optimum.at;
  top = top_tree optimum.costed.plan.value;
  least = optimum.least;
}

-- the cache holds what the model keeps, and the answer tells of it
pub record IsKept (keeping : model.Keeping) (contents : Contents) (answer : Keeping) : Type 0 where
  pub cache : keeping.cache ≡ state_of contents
  pub evicted : answer.evicted ≡ option_map eviction_shown keeping.evicted
  pub kept : answer.kept ≡ note_shown keeping.kept

-- a plan of such a tree costs as much as the kept plan does by its polynomial
abbrev pub CostsAt : (TopTree → ℕ) → List ℕ → Kept → Type 0
CostsAt cost instance kept = cost_at instance kept ≡ cost (top_tree kept.costed.plan.value)

-- The old plan that serves, by the polynomials.

abbrev pub old_kept : Optimum → Fraction → List Kept → Option Kept
old_kept optimum keep plans =
    option_or (find (λ kept. same_top (top_tree kept.costed.plan.value) (top_tree optimum.costed.plan.value)) plans)
    (cheapest_serving keep optimum.least optimum.at plans)

-- its number, and what it costs at the instance
abbrev pub old_plan_at : List ℕ → Kept → OldPlan
old_plan_at instance kept = record { number = kept.number; cost = cost_at instance kept }

-- what the model keeps with the old plan of this number
abbrev pub kept_with_number : Contents → Optimum → OldPlan → model.Keeping
kept_with_number cache optimum old = record {
  cache = with_anchor (state_of cache) (model.anchor_of (optimum_of optimum) old.number old.cost);
  evicted = None;
  kept = model.KeptOld old.number;
}

-- a plan afterwards: it was among these, or is the optimum's own
abbrev pub WasOrIsNew : List Kept → Costed → Kept → Type 0
WasOrIsNew plans costed kept = Contains plans kept ⊎ (kept.costed ≡ costed)

-- Room for a plan.

-- the plans that stay where one goes for room
abbrev pub plans_with_room : Contents → ℕ → List Kept
plans_with_room cache budget =
    option_map_or (λ number. filter (λ kept. not (has_number number kept)) cache.plans)
    (model.evicted_for_room (state_of cache) budget) cache.plans
