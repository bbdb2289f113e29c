use Rattle.std.proofs.Common.{ℕ, ◌≡◌, ◌≤◌, ◌==◌, true, [], ◌∷◌, slice_index, arith}
use Rattle.std.proofs.lemmas.Bool.Decides.{nat_tests}
use Rattle.growth_checker.specs.Expression.{Constant, formula, Plus, Selectivity, Times, HasSelectivities}
use Rattle.growth_checker.proofs.expression_shape.tests.expands_a_cost.Goals as goal

first_alone : (i : ℕ) → i ≡ 0 → 1 ≤ slice_index (100 ∷ []) i
first_alone i h = rw h (omega arith)

tested : (i : ℕ) → (0 == i) ≡ true → i ≡ 0
tested i h = grind (arith, nat_tests)

vector : HasSelectivities (Plus (Constant 10) (Times (Constant 2) (Selectivity 0))) (100 ∷ [])
vector = λ i h. first_alone i (tested i h)

pub eval-requires : goal.eval-requires
eval-requires g c =
    let f : formula c.deref.result.now ≡ Plus (Constant 10) (Times (Constant 2) (Selectivity 0)) =
    rw (
      c.deref.ensures,
      c.in_ok-cost.ensures,
      c.in_ok-num-2.ensures,
      c.in_ok-growing.ensures,
      c.in_ok-num.ensures,
      c.in_ok-sel.ensures,
    ) in
    c.in_ok-p.ensures.vectors (100 ∷ []) (rw f vector)
