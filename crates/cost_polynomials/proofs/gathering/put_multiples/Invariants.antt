-- What is left, multiplied and gathered into what there is, is the result.
use Rattle.std.proofs.Common.{◌≡◌, drop, map}
use Rattle.cost_polynomials.specs.Polynomial.{AllFit, gathered, times_term}
use Rattle.cost_polynomials.proofs.gathering.put_multiples.Given as goal

abbrev pub invariant-loop-other : goal.invariant-loop-other
invariant-loop-other l = record {
  so_far : gathered (map (times_term (l.mask, l.coefficient)) (drop l.other-index l.factors)) l.terms.items
      ≡ gathered (map (times_term (l.mask, l.coefficient)) l.factors) l.fn.terms.items;
  fits : AllFit l.terms.items;
}
