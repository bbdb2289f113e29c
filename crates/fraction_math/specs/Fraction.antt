-- A fraction of whole numbers, as the settings give it.
use Rattle.std.specs.Prelude.{ℕ, ◌<◌, ◌≤◌, ◌^◌}

-- a fraction, by its two parts
pub record Fraction : Type 0 where
  pub num : ℕ
  pub den : ℕ

-- what a part of a fraction may be
abbrev pub IsPart : ℕ → Type 0
IsPart n = (1 ≤ n) × (n < 2 ^ 63)
