-- Numbers as they are written, and what is read of them.
use Rattle.std.proofs.Common.{ℕ, zero, suc, ◌≡◌, ◌≢◌, ◌<◌, ◌≤◌, ◌^◌, ◌∙◌, List, [], ◌∷◌, Some, None, Result, Ok, Err}
use Rattle.std.proofs.Common.{IfNone, IfSome, ap, arith, codes, cond, decimal, drop, get_or, length, slice_get, subst, sym}
use Rattle.std.proofs.lemmas.Bool.{ne_eqb}
use Rattle.std.proofs.lemmas.Fmt.{decimal-digits_value, decimal_digit, decimal_nonempty, first_decimal, parse-decimal}
use Rattle.std.proofs.lemmas.Str.Parse.{numerals_by_value, tells_digits}
use Rattle.std.specs.Result.{result_ok}
use Rattle.std.specs.Str.Parse.{AllDigits, IsNumeral, ParsesUnsigned, digits_value, without_leading_plus}

-- the first byte of a text
first_byte : (text : List ℕ) (first : ℕ) → Some first ≡ slice_get text 0 → get_or text 0 0 ≡ first
first_byte [] first h = absurd (cc)
first_byte (byte ∷ bytes) first h = let same : byte ≡ first = cc in same

-- a number that is written begins with no sign, and with no zero but for nought
begins : (number : ℕ) → number < 2 ^ 64 → 48 ≤ get_or (decimal number) 0 0
begins zero small = omega (arith, ap (λ ds. get_or ds 0 0) (decimal_digit 0 (omega arith)))
begins (suc n) small = omega (arith, first_decimal (suc n) (omega arith) small)

pub not_empty : (text : List ℕ) → slice_get text 0 ≡ None → (number : ℕ) → number < 2 ^ 64 → text ≢ decimal number
not_empty [] h number small e = omega (arith, decimal_nonempty number small, ap length e)
not_empty (byte ∷ bytes) h number small e = absurd (cc)

pub no_sign : (text : List ℕ) (first : ℕ) → Some first ≡ slice_get text 0 → first ≡ 43
    → (number : ℕ) → number < 2 ^ 64 → text ≢ decimal number
no_sign text first h sign number small e =
    omega (arith, begins number small, first_byte text first h, ap (λ ds. get_or ds 0 0) e)

pub nought : (text : List ℕ) → text ≡ codes "0" → text ≡ decimal 0
nought text h = h ∙ sym (decimal_digit 0 (omega arith))

pub no_zero : (text : List ℕ) (first : ℕ) → Some first ≡ slice_get text 0 → first ≡ 48 → text ≢ codes "0"
    → (number : ℕ) → number < 2 ^ 64 → text ≢ decimal number
no_zero text first h z other zero small e = other (e ∙ decimal_digit 0 (omega arith))
no_zero text first h z other (suc n) small e =
    omega (arith, first_decimal (suc n) (omega arith) small, first_byte text first h, ap (λ ds. get_or ds 0 0) e)

unsigned : (text : List ℕ) → get_or text 0 0 ≢ 43 → without_leading_plus text ≡ text
unsigned text h = ap (λ b. drop (cond b 1 0) text) (ne_eqb (get_or text 0 0) 43 h)

-- what is read of a text that begins with neither is written as the text
pub is_written : {E : Type 0} (text : List ℕ) (first : ℕ) → Some first ≡ slice_get text 0 → first ≢ 43 → first ≢ 48
    → (read : Result ℕ E) → ParsesUnsigned 64 10 text read → IfSome (result_ok read) (λ number. text ≡ decimal number)
is_written text first h sign other (Err fault) r = tt
is_written text first h sign other (Ok number) r =
    let same = unsigned text (λ e. sign (sym (first_byte text first h) ∙ e)) in
    let digits : IsNumeral 10 text = subst (IsNumeral 10) same r.0.0 in
    let value : digits_value 10 text ≡ number = ap (digits_value 10) (sym same) ∙ sym r.1 in
    let small : digits_value 10 text < 2 ^ 64 = subst (λ t. digits_value 10 t < 2 ^ 64) same r.0.1 in
    sym (decimal-digits_value (numerals_by_value (AllDigits 10) tells_digits) text digits.1 digits.0
    (λ e. absurd (other (sym (first_byte text first h) ∙ e))) small)
    ∙ ap decimal value

-- and what is written is read
pub is_read : {E : Type 0} (text : List ℕ) (read : Result ℕ E) → ParsesUnsigned 64 10 text read
    → IfNone (result_ok read) ((number : ℕ) → number < 2 ^ 64 → text ≢ decimal number)
is_read {E} text (Ok number) r = tt
is_read {E} text (Err fault) r = λ number small e.
    let read = parse-decimal 64 number text (Err fault) small small e r in absurd (cc)
