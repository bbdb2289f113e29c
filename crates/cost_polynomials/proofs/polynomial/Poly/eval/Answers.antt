use Rattle.std.proofs.Common.{◌<◌, ◌≤◌, List, length, All, arith, sym, subst, ◌∙◌}
use Rattle.cost_polynomials.specs.Polynomial.{Term, IsVectorFor}
use Rattle.cost_polynomials.proofs.Evaluation.{coefficients_positive, value_end, value_positive}
use Rattle.cost_polynomials.proofs.polynomial.Poly.eval.Goals as goal

pub loop-mask-init : goal.loop-mask-init
loop-mask-init c =
    let read = c.as_slice-mask-items.ensures.value in
    let same = read ∙ c.self.view_is in
    record {
      so_far = omega arith;
      same = same;
      coefficients = subst (λ (ts : List Term). All (λ t. 1 ≤ t.1) ts) (sym read)
          (coefficients_positive 0 _ c.self.invariant.rising);
      numbers = subst (λ (ts : List Term). IsVectorFor ts c.args.s.now) (sym same) c.requires;
    }

pub returns-clause-positive : goal.returns-clause-positive
returns-clause-positive c =
    let items = c.as_slice-mask-items.result.now in
    let some : 0 < length items =
    subst (λ (ts : List Term). 0 < length ts) (sym c.as_slice-mask-items.ensures.value) c.self.invariant.some in
    let worth = value_positive items c.args.s.now some c.loop-mask.invariant.coefficients c.loop-mask.invariant.numbers
    in
    let end = value_end items c.args.s.now c.loop-mask.mask-index (omega arith) in
    omega (arith, worth, end, c.loop-mask.invariant.so_far)
