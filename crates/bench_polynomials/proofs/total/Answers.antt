use Rattle.std.proofs.Common.{ℕ, ◌≤◌, List, [], ◌∷◌, All, arith}
use Rattle.std.proofs.lemmas.List.Elements.{All-from_recursion}
use Rattle.cost_polynomials.proofs.Evaluation.{vector_of_eight}
use Rattle.bench_polynomials.proofs.total.Goals as goal

abbrev numbers : ℕ → List ℕ
numbers n = n ∷ 2 ∷ 3 ∷ 4 ∷ 5 ∷ 6 ∷ 7 ∷ 8 ∷ []

counts : (n : ℕ) → 1 ≤ n → All (λ n. 1 ≤ n) (numbers n)
counts n h = All-from_recursion (λ n. 1 ≤ n) (numbers n)
    (h, (omega arith, (omega arith, (omega arith, (omega arith, (omega arith, (omega arith, (omega arith, tt))))))))

pub eval-requires : goal.eval-requires
eval-requires c = vector_of_eight _ (numbers _) c.requires (omega arith) (counts _ (omega arith))
