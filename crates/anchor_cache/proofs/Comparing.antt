-- Two products compared, as a test that the checks are made of.
use Rattle.std.proofs.Common.{ℕ, ◌≡◌, Bool, true, false, ap, sym, refl, ◌∙◌}
use Rattle.std.specs.Prelude.{IsTrue, ◌↔◌}
use Rattle.fraction_math.specs.Product.{IsAtMost}
use Rattle.cache_model.specs.Choices.{is_at_most}
use Rattle.cache_model.proofs.Tests.{fits}

same_answer : (a b : Bool) → (a ≡ true → b ≡ true) → (b ≡ true → a ≡ true) → a ≡ b
same_answer true b to from = sym (to refl)
same_answer false true to from = from refl
same_answer false false to from = refl

-- what tells that one number is at most the other is the test
pub is_test : (answer : Bool) (left right : ℕ) → IsTrue answer ↔ IsAtMost left right → answer ≡ is_at_most left right
is_test answer left right told =
    same_answer answer (is_at_most left right) (λ e. (fits left right).1 (told.0 e))
    (λ e. told.1 ((fits left right).0 e))

-- the same of two products, however they are made
pub is_scaled : (answer : Bool) (left right l r : ℕ) → IsTrue answer ↔ IsAtMost l r → l ≡ left → r ≡ right
    → answer ≡ is_at_most left right
is_scaled answer left right l r told e f = is_test answer l r told ∙ ap (λ n. is_at_most n r) e
    ∙ ap (is_at_most left) f
