use Rattle.std.proofs.Common.{ℕ, ◌≤◌, List, [], ◌∷◌, All, arith}
use Rattle.std.proofs.lemmas.List.Elements.{All-from_recursion}
use Rattle.cost_polynomials.proofs.Evaluation.{vector_of_eight}
use Rattle.cost_polynomials.proofs.polynomial.tests.refuses_what_does_not_fit.Goals as goal

abbrev nines : ℕ → List ℕ
nines last = 9 ∷ 9 ∷ 9 ∷ 9 ∷ 9 ∷ 9 ∷ 9 ∷ last ∷ []

counts : (last : ℕ) → 1 ≤ last → All (λ n. 1 ≤ n) (nines last)
counts last h = All-from_recursion (λ n. 1 ≤ n) (nines last) (
  omega arith,
  (omega arith, (omega arith, (omega arith, (omega arith, (omega arith, (omega arith, (h, tt))))))),
)

pub eval-requires : goal.eval-requires
eval-requires g c = vector_of_eight _ (nines 1) c.terms.ensures.valid (omega arith) (counts 1 (omega arith))

pub eval-requires-2 : goal.eval-requires-2
eval-requires-2 g c = vector_of_eight _ (nines 2) c.terms.ensures.valid (omega arith) (counts 2 (omega arith))
