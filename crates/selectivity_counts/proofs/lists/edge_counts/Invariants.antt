use Rattle.std.proofs.Common.{◌≡◌, map, take}
use Rattle.std.specs.Rc.{rc_value}
use Rattle.selectivity_counts.specs.Kept.{kept_edge}
use Rattle.selectivity_counts.proofs.lists.edge_counts.Given as goal

-- the counts of the edges so far
abbrev pub invariant-loop-edge : goal.invariant-loop-edge
invariant-loop-edge l =
    l.counts.items ≡ map (kept_edge (map rc_value l.distincts)) (take l.edge-index l.edge-items)
