use Rattle.std.proofs.Common.{rules, ◌≡◌, ◌^◌, [], ◌∷◌}
use Rattle.cost_polynomials.proofs.Values.{value_sel}
use Rattle.cost_polynomials.proofs.polynomial.Poly.sel.Goals as goal

pub returns-clause-value : goal.returns-clause-value
returns-clause-value c = λ s.
    let e : c.in_ok-terms.terms.items ≡ (2 ^ c.args.i, 1) ∷ [] = search rules in
    rw e (value_sel c.args.i s)
