-- What is left, gathered into what there is, is the result.
use Rattle.std.proofs.Common.{◌≡◌, drop}
use Rattle.cost_polynomials.specs.Polynomial.{AllFit, gathered}
use Rattle.cost_polynomials.proofs.gathering.put_terms.Given as goal

abbrev pub invariant-loop-mask : goal.invariant-loop-mask
invariant-loop-mask l = record {
  so_far : gathered (drop l.mask-index l.more) l.terms.items ≡ gathered l.more l.fn.terms.items;
  fits : AllFit l.terms.items;
}
