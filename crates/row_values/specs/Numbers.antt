-- Whole numbers as texts spell them.
use Rattle.std.specs.Prelude.{ℕ, ℤ, pos, ◌+◌, ◌-◌, ◌*◌, ◌^◌, neg_ℤ, ◌==◌, ◌&&◌, not, nat_lt, nat_le, List, [], ◌∷◌}
use Rattle.std.specs.Prelude.{length, Bool, Option, Some, None, if◌then◌else◌}
use Rattle.std.specs.Str.{all_ascii_digits}

-- the number that digits spell, after the number n
abbrev pub read_on : ℕ → List ℕ → ℕ
read_on n [] = n
read_on n (digit ∷ digits) = read_on (n * 10 + (digit - 48)) digits

-- decimal digits, and one at least
abbrev pub are_digits : List ℕ → Bool
are_digits text = not (length text == 0) && all_ascii_digits text

-- digits without a sign
abbrev pub plain_number_of : List ℕ → Option ℤ
plain_number_of text = if are_digits text && nat_lt (read_on 0 text) (2 ^ 63) then Some (pos (read_on 0 text)) else None

-- digits behind a minus
abbrev pub minus_number_of : List ℕ → Option ℤ
minus_number_of digits = if are_digits digits && nat_le (read_on 0 digits) (2 ^ 63)
    then Some (neg_ℤ (pos (read_on 0 digits))) else None

-- the whole number of 64 bits that a text spells
abbrev pub whole_number_of : List ℕ → Option ℤ
whole_number_of [] = None
whole_number_of (first ∷ rest) = if first == 45 then minus_number_of rest else plain_number_of (first ∷ rest)
