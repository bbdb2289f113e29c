-- The number that digits spell, digit by digit.
use Rattle.std.proofs.Common.{◌≡◌, ◌<◌, ◌≤◌, ◌+◌, ◌-◌, ◌*◌, ◌&&◌, ℕ, nat_lt, nat_eq, Bool, true, false, List, [], ◌∷◌}
use Rattle.std.proofs.Common.{if◌then◌else◌, Option, None, Some, length, refl, arith}
use Rattle.std.specs.Str.{all_ascii_digits}
use Rattle.std.proofs.lemmas.Bool.Decides.{nat_tests}
use Rattle.row_values.specs.Numbers.{are_digits, read_on}

-- more digits never make a number less
read_above : (n : ℕ) (digits : List ℕ) → n ≤ read_on n digits
read_above n [] = omega arith
read_above n (digit ∷ digits) = let above = read_above (n * 10 + (digit - 48)) digits in omega arith

abbrev bounded : List ℕ → ℕ → Option ℕ
bounded digits limit = if are_digits digits && nat_lt (read_on 0 digits) limit then Some (read_on 0 digits) else None

none_above : (b : Bool) (value limit : ℕ) → limit ≤ value
    → None ≡ (if b && nat_lt value limit then Some value else None)
none_above b value limit h = grind (arith, nat_tests)

some_below : (b : Bool) (value limit : ℕ) → b ≡ true → value < limit → Some value
    ≡ (if b && nat_lt value limit then Some value else None)
some_below b value limit e h = grind (arith, nat_tests)

-- a number that reaches the limit already stays there
pub passes : (value limit digit : ℕ) (digits left : List ℕ) → read_on value (digit ∷ left) ≡ read_on 0 digits
    → limit ≤ value * 10 + (digit - 48) → None ≡ bounded digits limit
passes value limit digit digits left e h =
    let above = read_above (value * 10 + (digit - 48)) left in
    none_above (are_digits digits) (read_on 0 digits) limit (omega arith)

-- all digits are read
pub reads : (value limit : ℕ) (digits : List ℕ) → value ≡ read_on 0 digits → all_ascii_digits digits ≡ true
    → nat_eq (length digits) 0 ≡ false → value < limit → Some value ≡ bounded digits limit
reads value limit digits e d n h =
    let spelled : are_digits digits ≡ true = rw (n, d) refl in
    rw (← e) (some_below (are_digits digits) value limit spelled h)
