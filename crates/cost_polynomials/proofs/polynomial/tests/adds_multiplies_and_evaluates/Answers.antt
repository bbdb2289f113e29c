use Rattle.std.proofs.Common.{◌≡◌, ◌≤◌, [], ◌∷◌, arith}
use Rattle.std.proofs.lemmas.List.Elements.{All-from_recursion}
use Rattle.cost_polynomials.proofs.Evaluation.{vector_for}
use Rattle.cost_polynomials.proofs.polynomial.tests.adds_multiplies_and_evaluates.Goals as goal

pub eval-requires : goal.eval-requires
eval-requires g c =
    let e : c.in_ok-cost.cost ≡ (0, 10) ∷ (1, 2) ∷ [] =
    rw (
      c.in_ok-ten.ensures.terms,
      c.in_ok-mul_disjoint.ensures.terms,
      c.in_ok-two.ensures.terms,
      c.in_ok-first.ensures.terms,
    ) at c.in_ok-cost.ensures.terms in
    rw e (vector_for 1 ((0, 10) ∷ (1, 2) ∷ []) (100 ∷ []) (omega arith, (omega arith, tt)) (omega arith)
    (All-from_recursion (λ n. 1 ≤ n) (100 ∷ []) (omega arith, tt)))
