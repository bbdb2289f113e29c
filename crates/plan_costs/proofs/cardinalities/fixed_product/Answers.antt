use Rattle.std.proofs.Common.{arith}
use Rattle.plan_costs.proofs.Factors.{product_fits}
use Rattle.plan_costs.proofs.cardinalities.fixed_product.Goals as goal

pub overflow_mul-product : goal.overflow_mul-product
overflow_mul-product c =
    let small = c.requires.small in
    let h = product_fits c.args.set c.loop-place.place c.loop-place.product c.fixed_factor-product.result _
    c.args.stats.now.fixed (omega arith) c.requires.some c.fixed_factor-product.ensures c.loop-place.invariant in
    omega arith
