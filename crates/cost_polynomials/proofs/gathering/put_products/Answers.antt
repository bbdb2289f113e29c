-- A coefficient that is large on the way is large in the end.
use Rattle.std.proofs.Common.{arith, sym, ◌∙◌}
use Rattle.std.proofs.lemmas.Result.{err_from_is_err_and}
use Rattle.cost_polynomials.proofs.Terms.{kept_large_products, products_next}
use Rattle.cost_polynomials.proofs.gathering.put_products.Goals as goal

pub returns-in_err-put_multiples-clause-large : goal.returns-in_err-put_multiples-clause-large
returns-in_err-put_multiples-clause-large c =
    let p = err_from_is_err_and c.from_residual.result c.from_residual.ensures.1 in
    rw (p.1, p.2) (λ e. kept_large_products c.args.left.now c.args.right.now _ _ c.loop-mask.mask-index (0, 0)
    (omega arith) c.loop-mask.invariant.so_far (c.in_err-put_multiples.ensures.large e))

pub loop-mask-preserved : goal.loop-mask-preserved
loop-mask-preserved c = record {
  so_far =
      rw c.in_ok-put_multiples.ensures.ok
      (sym (products_next c.args.left.now c.args.right.now _ c.loop-mask.mask-index (0, 0) (omega arith))
      ∙ c.loop-mask.invariant.so_far);
  fits = c.in_ok-put_multiples.ensures.fits;
}
