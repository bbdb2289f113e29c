-- Each next factor is moved from what is left to what was multiplied.
use Rattle.std.proofs.Common.{arith, get_or, ◌≡◌, ◌∙◌, ◌*◌}
use Rattle.fraction_math.proofs.ProductSteps.{product_next, too_large, not_below}
use Rattle.fraction_math.proofs.exact_products.product.Goals as goal

pub returns-in-None : goal.returns-in-None
returns-in-None c = record {
  value = too_large c.args.xs.now c.loop-x.x-index c.loop-x.all _ (omega arith) c.requires c.loop-x.invariant
      (not_below _ _ c.in-None.ensures);
}

pub loop-x-preserved : goal.loop-x-preserved
loop-x-preserved c =
    let e : c.in-Some.more ≡ c.loop-x.all * get_or c.args.xs.now c.loop-x.x-index 0 = c.in-Some.ensures.1 in
    rw e (product_next c.args.xs.now c.loop-x.x-index c.loop-x.all (omega arith) ∙ c.loop-x.invariant)
