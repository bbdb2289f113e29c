-- What was multiplied so far, times the product over the rest of the set, is the term's value.
use Rattle.std.proofs.Common.{◌≡◌, ◌*◌, drop}
use Rattle.cost_polynomials.specs.Polynomial.{product_over}
use Rattle.cost_polynomials.proofs.Evaluation.{IsCounted}
use Rattle.cost_polynomials.proofs.polynomial.term_value.Given as goal

abbrev pub invariant-loop-n : goal.invariant-loop-n
invariant-loop-n l = record {
  so_far : l.value * product_over l.rest (drop l.n-index l.s) ≡ l.coefficient * product_over l.mask l.s;
  counted : IsCounted l.rest (drop l.n-index l.s);
}
