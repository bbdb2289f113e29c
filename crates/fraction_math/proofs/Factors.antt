-- A product of a few factors is their product from left to right.
use Rattle.std.proofs.Common.{ℕ, ◌≡◌, ◌*◌, [], ◌∷◌, arith}
use Rattle.std.proofs.Math.Nat.{mul_assoc, mul-one}
use Rattle.fraction_math.specs.Product.{product_of}

pub product_of_two : (a b : ℕ) → product_of (a ∷ b ∷ []) ≡ a * b
product_of_two a b = grind (arith, mul_assoc, mul-one)

pub product_of_three : (a b c : ℕ) → product_of (a ∷ b ∷ c ∷ []) ≡ a * b * c
product_of_three a b c = grind (arith, mul_assoc, mul-one)

pub product_of_four : (a b c d : ℕ) → product_of (a ∷ b ∷ c ∷ d ∷ []) ≡ a * b * c * d
product_of_four a b c d = grind (arith, mul_assoc, mul-one)
