-- How often the anchors of each plan were used, together.
use Rattle.std.specs.Prelude.{ℕ, ◌+◌, ◌==◌, List, map, if◌then◌else◌}
use Rattle.cache_model.specs.Caches.{Anchor, uses_of}
use Rattle.anchor_cache.specs.declared.kept_plans.Kept.{Kept}
use Rattle.anchor_cache.specs.declared.kept_plans.PlanUses.{PlanUses}

-- where it is this plan's, so many uses more
abbrev pub used_more : ℕ → ℕ → PlanUses → PlanUses
used_more plan uses sum = if plan == sum.plan then record sum { uses = sum.uses + uses } else sum

abbrev pub sum_of : List Anchor → Kept → PlanUses
sum_of anchors kept = record { plan = kept.number; uses = uses_of anchors kept.number }

abbrev pub sums_of : List Kept → List Anchor → List PlanUses
sums_of plans anchors = map (sum_of anchors) plans
