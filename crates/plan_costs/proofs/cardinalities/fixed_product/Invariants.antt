use Rattle.std.proofs.Common.{◌≡◌, ◌*◌, drop}
use Rattle.cost_model.specs.Cardinalities.{product_over}
use Rattle.plan_costs.proofs.cardinalities.fixed_product.Given as goal

-- the places that are left multiply to the rest
abbrev pub invariant-loop-place : goal.invariant-loop-place
invariant-loop-place l = l.product * product_over l.set l.place
    (drop l.place l.stats.fixed) ≡ product_over l.set 0 l.stats.fixed
