use Rattle.std.proofs.Common.{◌≡◌}
use Rattle.cost_polynomials.specs.Polynomial.{poly_product}
use Rattle.cost_polynomials.proofs.Terms.{product_is_polynomial}
use Rattle.cost_polynomials.proofs.Values.{value_product}
use Rattle.cost_polynomials.proofs.polynomial.Poly.mul_disjoint.Goals as goal

pub invariant_of-result : goal.invariant_of-result
invariant_of-result c =
    let e : c.put_products.new.terms.items ≡ poly_product c.self.inside.terms.items c.other.inside.terms.items =
    rw (c.as_slice.ensures.value, c.as_slice-2.ensures.value, c.new-terms.ensures.items) at
    c.in_ok-put_products.ensures.ok in
    product_is_polynomial _ _ _ c.self.invariant c.other.invariant e c.in_ok-put_products.ensures.fits

pub returns-clause-value : goal.returns-clause-value
returns-clause-value c = λ s.
    let e : c.put_products.new.terms.items ≡ poly_product c.args.self.now c.args.other.now =
    rw (
      c.as_slice.ensures.value,
      c.as_slice-2.ensures.value,
      c.new-terms.ensures.items,
      c.self.view_is,
      c.other.view_is,
    ) at c.in_ok-put_products.ensures.ok in
    rw e (value_product c.args.self.now c.args.other.now s c.requires)
