-- A plain name is a word that isn't reserved.
use Rattle.std.proofs.Common.{◌≡◌, ℕ, Bool, true, false, not, ◌&&◌, ◌||◌, ◌==◌, List, [], ◌∷◌, refl, sym, ◌∙◌, arith}
use Rattle.std.proofs.lemmas.Bool.Decides.{nat_tests}
use Rattle.std.specs.Char.{is_ascii_alphanumeric, is_ascii_digit}
use Rattle.row_values.specs.Plain.{are_name_bytes, is_plain}
use Rattle.row_values.specs.Plain.{is_reserved as reserved_word}
use Rattle.sql_parser.specs.Statement.{each}
use Rattle.sql_parser.specs.Tokens.{is_letter, is_name_byte, is_spelled}
use Rattle.sql_parser.specs.declared.tokens.TheConstants.{RESERVED}
use Rattle.sql_parser.proofs.Symbols.{any}
use Rattle.std.proofs.lemmas.Bool.{and_from, and_parts, not-true, not_from_false}

-- a letter, then letters and digits
abbrev pub is_word : List ℕ → Bool
is_word [] = false
is_word (byte ∷ bytes) = is_letter byte && each is_name_byte bytes

abbrev pub is_reserved : List ℕ → Bool
is_reserved bytes = any (λ m. is_spelled bytes m) RESERVED

name_byte : (b : ℕ) → (is_ascii_alphanumeric b || (b == 95)) ≡ true → is_name_byte b ≡ true
name_byte b h = grind (arith, nat_tests)

byte_name : (b : ℕ) → is_name_byte b ≡ true → (is_ascii_alphanumeric b || (b == 95)) ≡ true
byte_name b h = grind (arith, nat_tests)

no_digit : (b : ℕ) → is_letter b ≡ true → not (is_ascii_digit b) ≡ true
no_digit b h = grind (arith, nat_tests)

letter_name : (b : ℕ) → is_letter b ≡ true → (is_ascii_alphanumeric b || (b == 95)) ≡ true
letter_name b h = grind (arith, nat_tests)

first_letter : (b : ℕ) → not (is_ascii_digit b) ≡ true → (is_ascii_alphanumeric b || (b == 95)) ≡ true
    → is_letter b ≡ true
first_letter b d h = grind (arith, nat_tests)

name_bytes : (bs : List ℕ) → are_name_bytes bs ≡ true → each is_name_byte bs ≡ true
name_bytes [] h = refl
name_bytes (b ∷ bs) h = let hs = and_parts _ (are_name_bytes bs) h in
    and_from (is_name_byte b) _ (name_byte b hs.0) (name_bytes bs hs.1)

bytes_name : (bs : List ℕ) → each is_name_byte bs ≡ true → are_name_bytes bs ≡ true
bytes_name [] h = refl
bytes_name (b ∷ bs) h = let hs = and_parts (is_name_byte b) (each is_name_byte bs) h in
    and_from _ (are_name_bytes bs) (byte_name b hs.0) (bytes_name bs hs.1)

-- the reserved words here are those of plain names, in the same order
same_reserved : (name : List ℕ) → reserved_word name ≡ is_reserved name
same_reserved name = refl

pub plain_word : (name : List ℕ) → is_plain name ≡ true → (is_word name ≡ true) × (is_reserved name ≡ false)
plain_word [] h = absurd cc
plain_word (b ∷ bs) h =
    let hs = and_parts (not (is_ascii_digit b) && are_name_bytes (b ∷ bs)) (not (reserved_word (b ∷ bs))) h in
    let ps = and_parts (not (is_ascii_digit b)) (are_name_bytes (b ∷ bs)) hs.0 in
    let qs = and_parts (is_ascii_alphanumeric b || (b == 95)) (are_name_bytes bs) ps.1 in
    let r : is_reserved (b ∷ bs) ≡ false = sym (same_reserved (b ∷ bs)) ∙ not-true (reserved_word (b ∷ bs)) hs.1 in
    (and_from (is_letter b) _ (first_letter b ps.0 qs.0) (name_bytes bs qs.1), r)

pub word_plain : (name : List ℕ) → is_word name ≡ true → is_reserved name ≡ false → is_plain name ≡ true
word_plain [] h r = absurd cc
word_plain (b ∷ bs) h r =
    let hs = and_parts (is_letter b) (each is_name_byte bs) h in
    and_from _ _ (and_from (not (is_ascii_digit b)) _ (no_digit b hs.0)
    (and_from _ (are_name_bytes bs) (letter_name b hs.0) (bytes_name bs hs.1)))
    (not_from_false (reserved_word (b ∷ bs)) (same_reserved (b ∷ bs) ∙ r))
