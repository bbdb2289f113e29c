-- What is left, multiplied and gathered into what there is, is the result.
use Rattle.std.proofs.Common.{◌≡◌, drop}
use Rattle.cost_polynomials.specs.Polynomial.{AllFit, gathered, pair_products}
use Rattle.cost_polynomials.proofs.gathering.put_products.Given as goal

abbrev pub invariant-loop-mask : goal.invariant-loop-mask
invariant-loop-mask l = record {
  so_far : gathered (pair_products (drop l.mask-index l.left) l.right) l.terms.items
      ≡ gathered (pair_products l.left l.right) l.fn.terms.items;
  fits : AllFit l.terms.items;
}
