use Rattle.std.proofs.Common.{◌≡◌, map, drop}
use Rattle.std.specs.Int.{div_ceil}
use Rattle.cost_model.specs.Cardinalities.{is_inside, marked_product}
use Rattle.plan_costs.proofs.cardinalities.by_distinct.Given as goal

-- the edges that are left divide to the same
abbrev pub invariant-loop-i : goal.invariant-loop-i
invariant-loop-i l =
    div_ceil l.left (marked_product (map (is_inside l.set) (drop l.i l.edges)) (drop l.i l.stats.distinct))
    ≡ div_ceil l.number (marked_product (map (is_inside l.set) l.edges) l.stats.distinct)
