-- Numbers and fractions, as the words spell them.
use Rattle.std.specs.Prelude.{ℕ, ◌+◌, ◌-◌, ◌*◌, ◌^◌, ◌==◌, ◌&&◌, not, nat_le, List, [], ◌∷◌, Bool, true, false}
use Rattle.std.specs.Prelude.{Option}
use Rattle.std.specs.Prelude.{Some, None, if◌then◌else◌, option_map, position, take, drop}
use Rattle.fraction_math.specs.Fraction.{Fraction}
use Rattle.row_values.specs.Numbers.{are_digits, read_on}

infixl 10 ◌>>=◌
abbrev pub ◌>>=◌ : {A B : Type 0} → Option A → (A → Option B) → Option B
None >>= next = None
(Some x) >>= next = next x

-- a zero (48) in front of another digit
abbrev pub has_leading_zero : List ℕ → Bool
has_leading_zero [] = false
has_leading_zero (first ∷ []) = false
has_leading_zero (first ∷ second ∷ rest) = first == 48

-- a number is decimal digits, one at least, without a sign and without a leading zero
abbrev pub number_of : List ℕ → Option ℕ
number_of text = if are_digits text && not (has_leading_zero text) then Some (read_on 0 text) else None

-- no minus (45) and no leading zero stands in front
abbrev pub begins_plainly : List ℕ → Bool
begins_plainly [] = true
begins_plainly (first ∷ rest) = not (first == 45) && not (has_leading_zero (first ∷ rest))

abbrev pub between : ℕ → ℕ → ℕ → Option ℕ
between least most n = if nat_le least n && nat_le n most then Some n else None

abbrev pub number_between : ℕ → ℕ → List ℕ → Option ℕ
number_between least most text = number_of text >>= between least most

-- the two parts of a text round the first of these bytes, if it has one
abbrev pub parts_at : ℕ → List ℕ → Option (List ℕ × List ℕ)
parts_at byte text = option_map (λ i. (take i text, drop (i + 1) text)) (position (λ b. b == byte) text)

-- a part of a fraction is from 1 to 2^63 - 1
abbrev pub part_of : List ℕ → Option ℕ
part_of text = number_between 1 (2 ^ 63 - 1) text

abbrev pub fraction_in : List ℕ → Option (List ℕ × List ℕ) → Option Fraction
fraction_in text None = do
  num ← part_of text
  Some (record { num = num; den = 1 })
fraction_in text (Some parts) = do
  num ← part_of parts.0
  den ← part_of parts.1
  Some (record { num = num; den = den })

-- a fraction is `N/D` (47 is the slash), or `N`, which is `N/1`
abbrev pub fraction_of : List ℕ → Option Fraction
fraction_of text = fraction_in text (parts_at 47 text)

abbrev pub is_at_most : Fraction → Fraction → Bool
is_at_most a b = nat_le (a.num * b.den) (b.num * a.den)

abbrev pub lesser : Fraction → Fraction → Fraction
lesser a b = if is_at_most a b then a else b
