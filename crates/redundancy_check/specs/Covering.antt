-- A kept plan in place of a new one: where it costs little more than the least at the instance.
use Rattle.std.specs.Prelude.{ℕ, Bool, List, Option, filter}
use Rattle.fraction_math.specs.Fraction.{Fraction}
use Rattle.cache_model.specs.Keeping.{covers, first_least}
use Rattle.anchor_cache.specs.declared.kept_plans.Kept.{Kept}
use Rattle.anchor_cache.specs.Instances.{cost_at}

-- the plan's cost at the instance is within the ratio of the least
abbrev pub serves : Fraction → ℕ → List ℕ → Kept → Bool
serves keep least instance kept = covers keep least (cost_at instance kept)

-- of those that serve the one of least cost there; of two as cheap the first in the list, which has the less number
abbrev pub cheapest_serving : Fraction → ℕ → List ℕ → List Kept → Option Kept
cheapest_serving keep least instance plans = first_least (cost_at instance) (filter (serves keep least instance) plans)
