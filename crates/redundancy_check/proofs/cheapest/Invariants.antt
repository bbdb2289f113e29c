use Rattle.std.proofs.Common.{◌≡◌, take}
use Rattle.std.specs.Option.{option_map}
use Rattle.anchor_cache.specs.Instances.{cost_at}
use Rattle.redundancy_check.specs.Covering.{cheapest_serving}
use Rattle.redundancy_check.proofs.cheapest.Given as goal

-- the cheapest of those so far
abbrev pub invariant-loop-kept : goal.invariant-loop-kept
invariant-loop-kept l =
    l.found ≡ option_map (λ kept. record { number = kept.number; cost = cost_at l.q kept })
    (cheapest_serving l.keep l.least l.q (take l.kept-index l.plans))
