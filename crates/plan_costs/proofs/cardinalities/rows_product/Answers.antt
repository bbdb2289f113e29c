use Rattle.std.proofs.Common.{arith, ◌∙◌, ap, drop, ◌*◌, ◌+◌}
use Rattle.plan_costs.proofs.Factors.{divisor_at, divisor_fits, rows_divisor}
use Rattle.plan_costs.proofs.cardinalities.rows_product.Goals as goal

pub overflow_mul-product : goal.overflow_mul-product
overflow_mul-product c =
    let small = c.requires.small in
    let h = divisor_fits c.args.set c.loop-pred.pred-index c.loop-pred.product c.rows_factor-product.result _
    c.args.stats.now.rows c.pred-item.result c.args.preds.now c.loop-pred-test.true c.pred-item.is c.requires.some
    c.requires.there c.rows_factor-product.ensures c.loop-pred.invariant in
    omega arith

pub loop-pred-preserved : goal.loop-pred-preserved
loop-pred-preserved c =
    ap (λ f. (c.loop-pred.product * f) * rows_divisor c.args.set c.args.stats.now.rows
    (drop (c.loop-pred.pred-index + 1) c.args.preds.now)) c.rows_factor-product.ensures
    ∙ divisor_at c.args.set c.loop-pred.pred-index c.loop-pred.product c.args.stats.now.rows c.pred-item.result
    c.args.preds.now c.loop-pred-test.true c.pred-item.is
    ∙ c.loop-pred.invariant
