-- Products of whole numbers, which have no upper bound.
use Rattle.std.specs.Prelude.{ℕ, ◌*◌, ◌<◌, ◌≤◌, ◌^◌, List, [], ◌∷◌}

-- the product of the factors
abbrev pub product_of : List ℕ → ℕ
product_of [] = 1
product_of (x ∷ xs) = x * product_of xs

-- both numbers fit 128 bits, and the left one is at most the right one
pub record IsAtMost (left right : ℕ) : Type 0 where
  pub left_fits : left < 2 ^ 128
  pub right_fits : right < 2 ^ 128
  pub at_most : left ≤ right
