-- The cost check over a cache's own plans, and its answer as a choice.
use Rattle.std.specs.Prelude.{ℕ, Bool, false, List, find}
use Rattle.std.specs.Option.{option_map_or}
use Rattle.fraction_math.specs.Fraction.{Fraction}
use Rattle.cache_model.specs.Caches.{Anchor}
use Rattle.cache_model.specs.Choices.{ByCost, ByOptimum, Choice, is_cheap_enough}
use Rattle.anchor_cache.specs.declared.kept_plans.Kept.{Kept}
use Rattle.anchor_cache.specs.Contents.{has_number}
use Rattle.anchor_cache.specs.Instances.{cost_at}
use Rattle.cost_check.specs.declared.check.CostAnswer.{CostAnswer}

-- the anchor's plan is cheap enough at the instance, by its polynomial
abbrev pub passes_by_cost : List Kept → Fraction → List ℕ → Anchor → Bool
passes_by_cost plans lambda instance anchor =
    option_map_or (λ kept. is_cheap_enough lambda instance anchor (cost_at instance kept))
    (find (has_number anchor.plan) plans) false

-- the choice that the answer tells
abbrev pub as_choice : CostAnswer → Choice
as_choice answer = option_map_or (λ position. ByCost position answer.tried) answer.found (ByOptimum answer.tried)
