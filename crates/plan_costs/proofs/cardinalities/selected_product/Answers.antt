use Rattle.std.proofs.Common.{arith, ◌∙◌, sym}
use Rattle.plan_costs.proofs.Factors.{selected_fits, selected_then, selected_else}
use Rattle.plan_costs.proofs.cardinalities.selected_product.Goals as goal
use Rattle.plan_costs.proofs.cardinalities.selected_product.Goals.{then-is_parameterised, else-is_parameterised}

pub overflow_mul-product : goal.overflow_mul-product
overflow_mul-product c =
    let small = c.requires.small in
    let h = selected_fits c.args.set c.loop-pred.pred-index c.loop-pred.next c.loop-pred.product
    c.selected_factor-product.result _ c.pred-item.result c.args.preds.now c.args.s.now c.loop-pred-test.true
    c.pred-item.is
    (sym c.is_parameterised.ensures ∙ c.if-is_parameterised.true) c.requires.some c.loop-pred.invariant.0
    c.selected_factor-product.ensures c.loop-pred.invariant.1 in
    omega arith

pub loop-pred-preserved : goal.loop-pred-preserved
loop-pred-preserved c = elim c.if-is_parameterised.branch [
  | then-is_parameterised w ↦
      rw (w.product-is, w.next-is)
      (selected_then c.args.set c.loop-pred.pred-index c.loop-pred.next c.loop-pred.product
      w.selected_factor-product.result _ c.pred-item.result c.args.preds.now c.args.s.now c.loop-pred-test.true
      c.pred-item.is
      (sym c.is_parameterised.ensures ∙ w.if-is_parameterised.true) c.loop-pred.invariant.0
      w.selected_factor-product.ensures c.loop-pred.invariant.1)
  | else-is_parameterised w ↦
      rw (w.product-is, w.next-is)
      (selected_else c.args.set c.loop-pred.pred-index c.loop-pred.next c.loop-pred.product _ c.pred-item.result
      c.args.preds.now c.args.s.now c.loop-pred-test.true c.pred-item.is
      (sym c.is_parameterised.ensures ∙ w.if-is_parameterised.false) c.loop-pred.invariant.0 c.loop-pred.invariant.1)
]
