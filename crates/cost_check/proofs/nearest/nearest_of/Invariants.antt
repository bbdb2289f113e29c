use Rattle.std.proofs.Common.{◌≡◌, length, map, take}
use Rattle.anchor_cache.specs.Anchors.{held}
use Rattle.cost_check.proofs.Walking.{nearest_from}
use Rattle.cost_check.proofs.nearest.nearest_of.Given as goal

-- the nearest of those behind
abbrev pub invariant-loop-before : goal.invariant-loop-before
invariant-loop-before l =
    record {
      front : l.before ≡ take (length l.before) l.anchors;
      kept : l.nearest.items ≡ nearest_from l.q l.limit (map held l.anchors) (length l.before);
    }

abbrev pub decreases-loop-before : goal.decreases-loop-before
decreases-loop-before l = length l.before
