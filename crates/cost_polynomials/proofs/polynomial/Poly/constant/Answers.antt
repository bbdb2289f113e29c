use Rattle.cost_polynomials.proofs.Values.{value_constant}
use Rattle.cost_polynomials.proofs.polynomial.Poly.constant.Goals as goal

pub returns-clause-value : goal.returns-clause-value
returns-clause-value c = λ s. rw c.in_ok-terms.ensures.items (value_constant c.args.c s)
