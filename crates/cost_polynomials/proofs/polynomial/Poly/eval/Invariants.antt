-- The total so far, and the value of the terms that are left, is the value.
use Rattle.std.proofs.Common.{◌≡◌, ◌+◌, ◌≤◌, drop, All}
use Rattle.cost_polynomials.specs.Polynomial.{IsVectorFor, value_of}
use Rattle.cost_polynomials.proofs.polynomial.Poly.eval.Given as goal

abbrev pub invariant-loop-mask : goal.invariant-loop-mask
invariant-loop-mask l = record {
  so_far : l.total + value_of (drop l.mask-index l.mask-items) l.s ≡ value_of l.mask-items l.s;
  same : l.mask-items ≡ l.self;
  coefficients : All (λ t. 1 ≤ t.1) l.mask-items;
  numbers : IsVectorFor l.mask-items l.s;
}
