use Rattle.std.proofs.Common.{◌≡◌}
use Rattle.cost_polynomials.specs.Polynomial.{poly_sum}
use Rattle.cost_polynomials.proofs.Terms.{sum_is_polynomial}
use Rattle.cost_polynomials.proofs.Values.{value_gathered}
use Rattle.cost_polynomials.proofs.polynomial.Poly.add.Goals as goal

pub invariant_of-result : goal.invariant_of-result
invariant_of-result c =
    let e : c.put_terms.new.terms.items ≡ poly_sum c.self.inside.terms.items c.other.inside.terms.items =
    rw (c.as_slice-2.ensures.value, c.in_ok-terms.ensures.items, c.as_slice.ensures.value) at
    c.in_ok-put_terms.ensures.ok in
    sum_is_polynomial _ _ _ c.self.invariant c.other.invariant e c.in_ok-put_terms.ensures.fits

pub returns-clause-value : goal.returns-clause-value
returns-clause-value c = λ s.
    let e : c.put_terms.new.terms.items ≡ poly_sum c.args.self.now c.args.other.now =
    rw (
      c.as_slice-2.ensures.value,
      c.in_ok-terms.ensures.items,
      c.as_slice.ensures.value,
      c.self.view_is,
      c.other.view_is,
    ) at c.in_ok-put_terms.ensures.ok in
    rw e (value_gathered c.args.self.now c.args.other.now s)
