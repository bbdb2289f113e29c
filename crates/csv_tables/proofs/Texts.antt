-- Whole numbers are UTF-8.
use Rattle.std.proofs.Common.{◌≡◌, ◌<◌, ◌^◌, ℕ, zero, suc, Bool, true, false, ◌&&◌, List, [], ◌∷◌, get_or, refl, arith}
use Rattle.std.proofs.Common.{lit<, None, Some, if◌then◌else◌, eqb→eq}
use Rattle.std.specs.Prelude.{is_some, nat_eq, nat_lt, nat_le}
use Rattle.std.specs.Char.{is_ascii_digit}
use Rattle.std.proofs.lemmas.Bool.{and_parts, false≢true}
use Rattle.std.proofs.lemmas.Bool.Decides.{nat_tests}
use Rattle.std.proofs.lemmas.Str.{IsUtf8-from_ascii, is_utf8-from_IsUtf8}
use Rattle.std.specs.Str.{all_ascii_digits, is_utf8}
use Rattle.row_values.specs.Numbers.{are_digits, read_on}
use Rattle.csv_tables.specs.Numbers.{is_whole_number}

digit_is_ascii : (byte : ℕ) → is_ascii_digit byte ≡ true → byte < 128
digit_is_ascii byte h = grind (arith, nat_tests)

digits_are_ascii : (digits : List ℕ) → all_ascii_digits digits ≡ true → (i : ℕ) → get_or digits i 0 < 128
digits_are_ascii [] h i = lit< tt
digits_are_ascii (digit ∷ digits) h zero =
    digit_is_ascii digit (and_parts (is_ascii_digit digit) (all_ascii_digits digits) h).0
digits_are_ascii (digit ∷ digits) h (suc i) =
    digits_are_ascii digits (and_parts (is_ascii_digit digit) (all_ascii_digits digits) h).1 i

-- where something is shown, the test passed
shown : {X : Type 0} (b : Bool) (x : X) → is_some (if b then Some x else None) ≡ true → b ≡ true
shown true x h = refl
shown false x h = absurd (false≢true h)

spelled_is_ascii : (first : ℕ) (rest : List ℕ) (b : Bool) → nat_eq first 45 ≡ b → is_whole_number (first ∷ rest) ≡ true
    → (i : ℕ) → get_or (first ∷ rest) i 0 < 128
spelled_is_ascii first rest true e h zero = omega (arith, eqb→eq first 45 (rw e tt))
spelled_is_ascii first rest true e h (suc i) =
    let digits = (and_parts (are_digits rest) _ (shown (are_digits rest && nat_le (read_on 0 rest) (2 ^ 63)) _
    (rw e at h))).0 in
    digits_are_ascii rest (and_parts _ (all_ascii_digits rest) digits).1 i
spelled_is_ascii first rest false e h i =
    let digits = (and_parts (are_digits (first ∷ rest)) _ (shown (are_digits (first ∷ rest)
    && nat_lt (read_on 0 (first ∷ rest)) (2 ^ 63)) _ (rw e at h))).0 in
    digits_are_ascii (first ∷ rest) (and_parts _ (all_ascii_digits (first ∷ rest)) digits).1 i

number_is_ascii : (text : List ℕ) → is_whole_number text ≡ true → (i : ℕ) → get_or text i 0 < 128
number_is_ascii [] h i = lit< tt
number_is_ascii (first ∷ rest) h i = spelled_is_ascii first rest (nat_eq first 45) refl h i

pub number_is_text : (text : List ℕ) → is_whole_number text ≡ true → is_utf8 text ≡ true
number_is_text text h = is_utf8-from_IsUtf8 text (IsUtf8-from_ascii text (number_is_ascii text h))
