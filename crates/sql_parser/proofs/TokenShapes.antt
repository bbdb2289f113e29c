-- Which bytes spell a token, by the first of them.
use Rattle.std.proofs.Common.{◌≡◌, ℕ, ◌<◌, Bool, true, false, cond, ◌&&◌, ◌||◌, not, nat_lt, ◌==◌, List, [], ◌∷◌, ◌++◌}
use Rattle.std.proofs.Common.{refl, ◌∙◌, arith, ◌⊎◌, inl, inr}
use Rattle.std.proofs.lemmas.Bool.Decides.{nat_tests}
use Rattle.std.proofs.lemmas.Bool.{eqb-true, not-true, or_left, or_right}
use Rattle.std.proofs.lemmas.Str.Parse.{digit_from_value}
use Rattle.std.specs.Char.{is_ascii_digit, to_ascii_lowercase}
use Rattle.std.specs.Int.{IsInRange}
use Rattle.std.specs.Str.{bytes_eq, str_to_ascii_lowercase}
use Rattle.std.specs.Str.Parse.{AllDigits, IsNumeral, signed_digits_value}
use Rattle.row_values.specs.declared.values.Value.TheVariants.{Int, Text}
use Rattle.sql_parser.specs.Statement.{each, is_name, is_i64}
use Rattle.sql_parser.specs.Tokens.{is_white, is_letter, is_name_byte, symbol_text, is_spelled, doubled, without_minus}
use Rattle.sql_parser.specs.Tokens.{Spells, plain_name, quoted_name, whole_number, quoted_text, reserved_or_sign}
use Rattle.sql_parser.specs.Tokens.{begins_with, is_quote, is_digit_or_minus, is_other}
use Rattle.sql_parser.specs.declared.tokens.Symbol.{Symbol}
use Rattle.sql_parser.specs.Reading.{symbol_eq}
use Rattle.sql_parser.specs.declared.tokens.Token.{Token}
use Rattle.sql_parser.specs.declared.tokens.Token.TheVariants as token
use Rattle.sql_parser.specs.declared.tokens.TheConstants.{RESERVED}
use Rattle.sql_parser.proofs.PlainWords.{is_reserved, plain_word}
use Rattle.sql_parser.proofs.Runs.{each_weaker}
use Rattle.sql_parser.proofs.Symbols.{every, is_in, any_in}
use Rattle.std.proofs.lemmas.Bool.{and_from, and_parts}

-- a capital letter, and a byte of a sign
abbrev is_capital : ℕ → Bool
is_capital b = nat_lt 64 b && nat_lt b 91

abbrev is_sign_byte : ℕ → Bool
is_sign_byte b = nat_lt b 65 && not (is_other b)

letter_like_capital : (b w : ℕ) → to_ascii_lowercase b ≡ to_ascii_lowercase w → is_capital w ≡ true → is_letter b ≡ true
letter_like_capital b w e h = grind (arith, nat_tests)

same_sign : (b w : ℕ) → to_ascii_lowercase b ≡ to_ascii_lowercase w → is_sign_byte w ≡ true → b ≡ w
same_sign b w e h = grind (arith, nat_tests)

pub white_ascii : (b : ℕ) → is_white b ≡ true → b < 128
white_ascii b h = grind (arith, nat_tests)

pub name_byte_ascii : (b : ℕ) → is_name_byte b ≡ true → b < 128
name_byte_ascii b h = grind (arith, nat_tests)

pub letter_no_digit : (b : ℕ) → is_letter b ≡ true → is_digit_or_minus b ≡ true → ⊥
letter_no_digit b h k = grind (arith, nat_tests)

pub digit_tested : (b : ℕ) → IsInRange 48 57 b → is_ascii_digit b ≡ true
digit_tested b h = grind (arith, nat_tests)

letters_like_capitals : (bs ws : List ℕ) → bytes_eq (str_to_ascii_lowercase bs) (str_to_ascii_lowercase ws) ≡ true
    → each is_capital ws ≡ true → each is_letter bs ≡ true
letters_like_capitals [] ws e h = refl
letters_like_capitals (b ∷ bs) [] e h = cc
letters_like_capitals (b ∷ bs) (w ∷ ws) e h =
    let es = and_parts _ _ e in
    let hs = and_parts _ _ h in
    and_from (is_letter b) _ (letter_like_capital b w (eqb-true _ _ es.0) hs.0) (letters_like_capitals bs ws es.1 hs.1)

same_signs : (bs ws : List ℕ) → bytes_eq (str_to_ascii_lowercase bs) (str_to_ascii_lowercase ws) ≡ true
    → each is_sign_byte ws ≡ true → bs ≡ ws
same_signs [] [] e h = refl
same_signs [] (w ∷ ws) e h = cc
same_signs (b ∷ bs) [] e h = cc
same_signs (b ∷ bs) (w ∷ ws) e h =
    let es = and_parts _ _ e in
    let hs = and_parts _ _ h in
    let p = same_sign b w (eqb-true _ _ es.0) hs.0 in
    let q = same_signs bs ws es.1 hs.1 in
    cc

-- a symbol is a reserved word in capitals, or a sign
abbrev IsWordSymbol : Symbol → Type 0
IsWordSymbol m = (each is_capital (symbol_text m) ≡ true)
    × ((bytes : List ℕ) → is_spelled bytes m ≡ true → is_reserved bytes ≡ true)

symbol_kind : (m : Symbol) → IsWordSymbol m ⊎ (each is_sign_byte (symbol_text m) ≡ true)
unfolding symbol_eq
symbol_kind m = kind (is_in m RESERVED && each is_capital (symbol_text m)) (each is_sign_byte (symbol_text m)) refl refl
    (every (λ m. (is_in m RESERVED && each is_capital (symbol_text m)) || each is_sign_byte (symbol_text m)) refl m)
  where
    kind : (v w : Bool) → (is_in m RESERVED && each is_capital (symbol_text m)) ≡ v
        → each is_sign_byte (symbol_text m) ≡ w → (v || w) ≡ true
        → IsWordSymbol m ⊎ (each is_sign_byte (symbol_text m) ≡ true)
    kind true w e f h =
        let es = and_parts (is_in m RESERVED) (each is_capital (symbol_text m)) e in
        inl (es.1, λ bytes t. any_in (λ x. is_spelled bytes x) m RESERVED es.0 t)
    kind false w e f h = inr (f ∙ h)

-- no symbol is spelled by nothing
symbol_text_some : (m : Symbol) → is_spelled [] m ≡ true → ⊥
symbol_text_some m h = let e = not-true (is_spelled [] m) (every (λ m. not (is_spelled [] m)) refl m) in cc

-- what spells a symbol is a reserved word, or the sign itself
pub symbol_shape : (m : Symbol) (bytes : List ℕ) → is_spelled bytes m ≡ true
    → ((each is_letter bytes ≡ true) × (is_reserved bytes ≡ true))
    ⊎ ((each is_sign_byte bytes ≡ true) × (bytes ≡ symbol_text m))
symbol_shape m bytes h = elim (symbol_kind m) [
  | inl w ↦ inl (letters_like_capitals bytes (symbol_text m) h w.0, w.1 bytes h)
  | inr k ↦ inr (let e = same_signs bytes (symbol_text m) h k in (rw e k, e))
]

letter_is_other : (b : ℕ) → is_letter b ≡ true → is_sign_byte b ≡ true → ⊥
letter_is_other b h k = grind (arith, nat_tests)

digit_is_other : (b : ℕ) → is_digit_or_minus b ≡ true → is_sign_byte b ≡ true → ⊥
digit_is_other b h k = grind (arith, nat_tests)

pub letter_goes_on : (b : ℕ) → is_letter b ≡ true → is_name_byte b ≡ true
letter_goes_on b h = or_left _ _ h

-- what a word spells: a name, or a reserved word
pub data WordToken : Token → List ℕ → Type 0 where
  named : {bytes : List ℕ} → is_reserved bytes ≡ false → WordToken (token.Name bytes) bytes
  kept : {m : Symbol} {bytes : List ℕ} → is_spelled bytes m ≡ true → is_reserved bytes ≡ true
      → WordToken (token.Symbol m) bytes

pub all_digits : (bs : List ℕ) → AllDigits 10 bs → each is_ascii_digit bs ≡ true
all_digits [] h = refl
all_digits (b ∷ bs) h = and_from (is_ascii_digit b) _ (digit_tested b (digit_from_value b h.0)) (all_digits bs h.1)

-- the digits behind a first byte that may be a minus
number_digits : (b : ℕ) (bs : List ℕ) → IsNumeral 10 (without_minus (b ∷ bs))
    → (is_digit_or_minus b ≡ true) × (each is_ascii_digit bs ≡ true)
number_digits b bs h =
    let step : (v : Bool) → (b == 45) ≡ v → IsNumeral 10 (cond v bs (b ∷ bs))
    → (is_digit_or_minus b ≡ true) × (each is_ascii_digit bs ≡ true) =
    λ v. elim v as (λ v. (b == 45) ≡ v → IsNumeral 10 (cond v bs (b ∷ bs))
    → (is_digit_or_minus b ≡ true) × (each is_ascii_digit bs ≡ true)) [
      | true ↦ λ e n. (or_right _ _ e, all_digits bs n.1)
      | false ↦ λ e n. let ds = and_parts _ _ (all_digits (b ∷ bs) n.1) in (or_left _ _ ds.0, ds.1)
    ]
    in step ((b == 45)) refl h

pub nothing_spells : (t : Token) (rest : List ℕ) → Spells t [] rest → ⊥
nothing_spells t rest (plain_name p) = cc
nothing_spells t rest (whole_number n f s) = absurd (omega (arith, n.0))
nothing_spells t rest (reserved_or_sign {m} h) = symbol_text_some m h

pub word_shape : (t : Token) (b : ℕ) (bs rest : List ℕ) → is_letter b ≡ true → Spells t (b ∷ bs) rest
    → (each is_name_byte (b ∷ bs) ≡ true) × WordToken t (b ∷ bs)
word_shape t b bs rest l (plain_name p) =
    let ws = plain_word (b ∷ bs) p in
    let parts = and_parts (is_letter b) (each is_name_byte bs) ws.0 in
    (and_from (is_name_byte b) _ (letter_goes_on b l) parts.1, named ws.1)
word_shape t b bs rest l (quoted_name n s) = cc
word_shape t b bs rest l (whole_number n f s) = absurd (letter_no_digit b l (number_digits b bs n).0)
word_shape t b bs rest l (quoted_text s) = cc
word_shape t b bs rest l (reserved_or_sign {m} h) = elim (symbol_shape m (b ∷ bs) h) [
  | inl w ↦ (each_weaker is_letter is_name_byte letter_goes_on (b ∷ bs) w.0, kept h w.1)
  | inr s ↦ absurd (letter_is_other b l (and_parts (is_sign_byte b) (each is_sign_byte bs) s.0).0)
]

-- what a number spells
pub record NumberToken (t : Token) (bytes rest : List ℕ) : Type 0 where
  pub stops : begins_with is_ascii_digit rest ≡ false
  pub value : t ≡ token.Literal (Int (signed_digits_value 10 bytes))
  pub numeral : IsNumeral 10 (without_minus bytes)
  pub fits : is_i64 (signed_digits_value 10 bytes) ≡ true

pub number_shape : (t : Token) (b : ℕ) (bs rest : List ℕ) → is_digit_or_minus b ≡ true → Spells t (b ∷ bs) rest
    → (each is_ascii_digit bs ≡ true) × NumberToken t (b ∷ bs) rest
number_shape t b bs rest d (plain_name p) =
    absurd (letter_no_digit b (and_parts (is_letter b) (each is_name_byte bs) (plain_word (b ∷ bs) p).0).0 d)
number_shape t b bs rest d (quoted_name n s) = cc
number_shape t b bs rest d (whole_number n f s) =
    ((number_digits b bs n).1, record { value = refl; numeral = n; fits = f; stops = s })
number_shape t b bs rest d (quoted_text s) = cc
number_shape t b bs rest d (reserved_or_sign {m} h) = elim (symbol_shape m (b ∷ bs) h) [
  | inl w ↦ absurd (letter_no_digit b (and_parts (is_letter b) (each is_letter bs) w.0).0 d)
  | inr s ↦ absurd (digit_is_other b d (and_parts (is_sign_byte b) (each is_sign_byte bs) s.0).0)
]

-- what stands between double quotes, and between single ones
pub record NameToken (t : Token) (bytes rest : List ℕ) : Type 0 where
  pub stops : begins_with (is_quote 34) rest ≡ false
  pub name : List ℕ
  pub token : t ≡ token.Name name
  pub some : is_name name ≡ true
  pub content : bytes ≡ doubled 34 name ++ 34 ∷ []

pub record TextToken (t : Token) (bytes rest : List ℕ) : Type 0 where
  pub stops : begins_with (is_quote 39) rest ≡ false
  pub text : List ℕ
  pub token : t ≡ token.Literal (Text text)
  pub content : bytes ≡ doubled 39 text ++ 39 ∷ []

pub name_shape : (t : Token) (bs rest : List ℕ) → Spells t (34 ∷ bs) rest → NameToken t bs rest
name_shape t bs rest (plain_name p) = cc
name_shape t bs rest (quoted_name {bytes} n s) =
    record { name = bytes; token = refl; some = n; content = refl; stops = s }
name_shape t bs rest (whole_number n f s) = let d = (number_digits 34 bs n).0 in cc
name_shape t bs rest (reserved_or_sign {m} h) = elim (symbol_shape m (34 ∷ bs) h) [
  | inl w ↦ (let e = w.0 in cc)
  | inr s ↦ (let e = s.0 in cc)
]

pub text_shape : (t : Token) (bs rest : List ℕ) → Spells t (39 ∷ bs) rest → TextToken t bs rest
text_shape t bs rest (plain_name p) = cc
text_shape t bs rest (whole_number n f s) = let d = (number_digits 39 bs n).0 in cc
text_shape t bs rest (quoted_text {bytes} s) = record { text = bytes; token = refl; content = refl; stops = s }
text_shape t bs rest (reserved_or_sign {m} h) = elim (symbol_shape m (39 ∷ bs) h) [
  | inl w ↦ (let e = w.0 in cc)
  | inr s ↦ (let e = s.0 in cc)
]

-- what begins otherwise is a sign
pub record SignToken (t : Token) (bytes : List ℕ) : Type 0 where
  pub sign : Symbol
  pub token : t ≡ token.Symbol sign
  pub text : bytes ≡ symbol_text sign

other_letter : (b : ℕ) → is_other b ≡ false → is_letter b ≡ true → ⊥
other_letter b h l = grind (arith, nat_tests)

other_digit : (b : ℕ) → is_other b ≡ false → is_digit_or_minus b ≡ true → ⊥
other_digit b h l = grind (arith, nat_tests)

pub sign_shape : (t : Token) (b : ℕ) (bs rest : List ℕ) → is_other b ≡ false → Spells t (b ∷ bs) rest
    → SignToken t (b ∷ bs)
sign_shape t b bs rest o (plain_name p) =
    absurd (other_letter b o (and_parts (is_letter b) (each is_name_byte bs) (plain_word (b ∷ bs) p).0).0)
sign_shape t b bs rest o (quoted_name n s) = cc
sign_shape t b bs rest o (whole_number n f s) = absurd (other_digit b o (number_digits b bs n).0)
sign_shape t b bs rest o (quoted_text s) = cc
sign_shape t b bs rest o (reserved_or_sign {m} h) = elim (symbol_shape m (b ∷ bs) h) [
  | inl w ↦ absurd (other_letter b o (and_parts (is_letter b) (each is_letter bs) w.0).0)
  | inr s ↦ record { sign = m; token = refl; text = s.1 }
]
