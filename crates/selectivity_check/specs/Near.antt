-- First selectivities that are near enough to each other.
use Rattle.std.specs.Prelude.{ℕ, ◌*◌, ◌&&◌, nat_le, Bool}
use Rattle.fraction_math.specs.Fraction.{Fraction}

-- neither of the two numbers is above the other by more than the ratio
abbrev pub is_near : Fraction → ℕ → ℕ → Bool
is_near ratio x y = nat_le (y * ratio.den) (ratio.num * x) && nat_le (x * ratio.den) (ratio.num * y)
