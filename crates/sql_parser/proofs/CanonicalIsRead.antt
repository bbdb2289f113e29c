-- The canonical spelling falls into the tokens that it is made of, and these spell the statement.
use Rattle.std.proofs.Common.{◌≡◌, ℕ, suc, ◌<◌, Bool, true, false, cond, ◌||◌, ◌==◌, not, Option, Some, None, List, []}
use Rattle.std.proofs.Common.{◌∷◌, ◌++◌, length, drop, take, ◌^◌, take, refl, sym, ◌∙◌, ap, subst, arith}
use Rattle.std.proofs.lemmas.List.{append-nil, append_assoc}
use Rattle.sql_parser.specs.Statement.{Parts}
use Rattle.sql_parser.specs.Grammar.{IsRef, plain, dotted, IsItem, column, count, sum, min, max, IsPlace, bare}
use Rattle.sql_parser.specs.Grammar.{called_as, IsOperand, literal, parameter, IsListedOperand, alone, IsTest, less}
use Rattle.sql_parser.specs.Grammar.{at_most, greater, at_least, equal, between, one_of, IsCond, tested, same, IsKey}
use Rattle.sql_parser.specs.Grammar.{rising, falling, AreAll, no_part, part, IsBehind, behind, AreListed, listed}
use Rattle.sql_parser.specs.Grammar.{Joined, IsJoined, comma, joined_places, joined_conds, IsWhere, no_where, filtered}
use Rattle.sql_parser.specs.Grammar.{IsGroup, no_group, grouped, IsOrder, no_order, ordered, bare_end, IsStatement}
use Rattle.sql_parser.specs.Grammar.{statement, IsStatementText}
use Rattle.sql_parser.specs.declared.statement.RawRef.{RawRef}
use Rattle.sql_parser.specs.declared.statement.RawPlace.{RawPlace}
use Rattle.sql_parser.specs.declared.statement.RawItem.{RawItem}
use Rattle.sql_parser.specs.declared.statement.RawItem.TheVariants as item
use Rattle.sql_parser.specs.declared.statement.RawOperand.{RawOperand}
use Rattle.sql_parser.specs.declared.statement.RawOperand.TheVariants as operand
use Rattle.sql_parser.specs.declared.statement.RawTest.{RawTest}
use Rattle.sql_parser.specs.declared.statement.RawTest.TheVariants as test
use Rattle.sql_parser.specs.declared.statement.RawCond.{RawCond}
use Rattle.sql_parser.specs.declared.statement.RawCond.TheVariants as cond_
use Rattle.sql_parser.specs.declared.statement.RawKey.{RawKey}
use Rattle.sql_parser.specs.declared.tokens.Symbol.{Symbol}
use Rattle.sql_parser.specs.declared.tokens.Symbol.TheVariants as symbol
use Rattle.sql_parser.specs.declared.tokens.Token.{Token}
use Rattle.sql_parser.specs.declared.tokens.Token.TheVariants as token
use Rattle.std.proofs.Common.{nat_eq, nat_lt, codes, find, ℤ, pos, negsuc, w64}
use Rattle.std.proofs.lemmas.Bool.Decides.{nat_tests}
use Rattle.std.proofs.lemmas.Slice.Eq.{bytes_eq-Decides}
use Rattle.std.proofs.lemmas.Fmt.{decimal_is_IsNumeral}
use Rattle.std.specs.Char.{is_ascii_digit}
use Rattle.std.specs.Fmt.{decimal, signed_decimal}
use Rattle.std.specs.Str.{bytes_eq}
use lib.IntN.{neg_ℤ}
use Rattle.std.specs.Int.RustNames.{FitsSigned}
use Rattle.std.specs.Str.Parse.{without_leading_sign, IsNumeral, signed_digits_value, digits_value}
use Rattle.std.specs.List.{prefix_len, starts_with}
use Rattle.row_values.specs.declared.values.Value.{Value}
use Rattle.row_values.specs.declared.values.Value.TheVariants.{Int, Text}
use Rattle.sql_parser.specs.Statement.{each, is_some, is_name, is_i64, is_ref_of, is_ref, is_item, is_place, is_operand}
use Rattle.sql_parser.specs.Statement.{is_test, is_cond, is_key, IsSound}
use Rattle.sql_parser.specs.Tokens.{is_letter, is_name_byte, symbol_text, doubled, quoted, without_minus, begins_with}
use Rattle.sql_parser.specs.Tokens.{is_quote, is_digit_or_minus, is_other, Spells, plain_name, reserved_or_sign}
use Rattle.sql_parser.specs.Tokens.{IsFirst, AreTokens, none, next}
use Rattle.row_values.specs.Names.{canonical_name, quoted_name}
use Rattle.row_values.specs.Plain.{is_plain}
use Rattle.sql_parser.specs.Canonical.{ref_text_of, ref_text, item_text, place_text, operand_text, test_text, cond_text}
use Rattle.sql_parser.specs.Canonical.{key_text, behind_text, listed_text, canonical_text}
use Rattle.sql_parser.specs.declared.tokens.TheConstants.{SIGNS}
use Rattle.sql_parser.proofs.Runs.{run_is}
use Rattle.sql_parser.proofs.FirstTokens.{word_first, number_first, name_first, text_first, same_sign_off, tested_fits}
use Rattle.sql_parser.proofs.TokenShapes.{all_digits}
use Rattle.sql_parser.proofs.PlainWords.{is_word, plain_word}
use Rattle.sql_parser.proofs.TokensOnce.{spells_itself, sign_first}
use Rattle.sql_parser.proofs.PrintedQuotes.{quoted_is}
use Rattle.std.proofs.Math.Seq.{take-append_seam, drop-append_seam}
use Rattle.std.proofs.lemmas.Bool.{and_from, and_parts, not-true, or_left, or_parts}

-- ---- one token and the text behind it

-- what follows a token in the canonical spelling goes on none
abbrev pub goes_on : ℕ → Bool
goes_on byte = is_name_byte byte || byte == 34 || byte == 39

abbrev pub stops : List ℕ → Bool
stops rest = not (begins_with goes_on rest)

goes_on_name : (b : ℕ) → goes_on b ≡ false → (is_name_byte b ≡ false) × ((b == 34) ≡ false) × ((b == 39) ≡ false)
goes_on_name b e =
    let es = or_parts (is_name_byte b || b == 34) (b == 39) e in
    let fs = or_parts (is_name_byte b) (b == 34) es.0 in
    (fs.0, fs.1, es.1)

stop_name : (rest : List ℕ) → stops rest ≡ true
    → (begins_with is_name_byte rest ≡ false) × (begins_with (is_quote 34) rest ≡ false)
    × (begins_with (is_quote 39) rest ≡ false)
stop_name [] e = (refl, refl, refl)
stop_name (b ∷ rest) e = goes_on_name b (not-true (goes_on b) e)

digit_name : (b : ℕ) → is_name_byte b ≡ false → is_ascii_digit b ≡ false
digit_name b e = (or_parts (is_letter b) (is_ascii_digit b) e).1

stop_digit : (rest : List ℕ) → stops rest ≡ true → begins_with is_ascii_digit rest ≡ false
stop_digit [] e = refl
stop_digit (b ∷ rest) e = digit_name b (goes_on_name b (not-true (goes_on b) e)).0

one_token : (t : Token) (text rest : List ℕ) (ts : List Token) → IsFirst t text rest → AreTokens rest ts
    → AreTokens text (t ∷ ts)
one_token t text rest ts first are = next [] text rest refl first are

space : (rest : List ℕ) (ts : List Token) → AreTokens rest ts → AreTokens (32 ∷ rest) ts
space rest ts (none {white} k) = none {white = 32 ∷ rest} k
space rest ts (next w text more {first} {tokens} k f are) = next (32 ∷ w) text more k f are

-- words
pub word_bytes : (w : List ℕ) → is_word w ≡ true → each is_name_byte w ≡ true
word_bytes [] h = refl
word_bytes (b ∷ bs) h = let p = and_parts (is_letter b) (each is_name_byte bs) h in
    and_from (is_name_byte b) (each is_name_byte bs) (or_left (is_letter b) (is_ascii_digit b) p.0) p.1

word_prefix : (w rest : List ℕ) → is_word w ≡ true → begins_with is_name_byte rest ≡ false
    → prefix_len is_name_byte (w ++ rest) ≡ length w
word_prefix w rest h e = run_is is_name_byte w rest (word_bytes w h) e

word_at : (t : Token) (w rest : List ℕ) → is_word w ≡ true → begins_with is_name_byte rest ≡ false → Spells t w rest
    → IsFirst t (w ++ rest) rest
word_at t [] rest h e s = absurd cc
word_at t (b ∷ bs) rest h e s =
    let n : prefix_len is_name_byte (b ∷ (bs ++ rest)) ≡ length (b ∷ bs) = word_prefix (b ∷ bs) rest h e in
    let prefix : take (prefix_len is_name_byte (b ∷ (bs ++ rest))) (b ∷ (bs ++ rest)) ≡ b ∷ bs =
    rw n (take-append_seam (b ∷ bs) rest) in
    let off : drop (prefix_len is_name_byte (b ∷ (bs ++ rest))) (b ∷ (bs ++ rest)) ≡ rest =
    rw n (drop-append_seam (b ∷ bs) rest) in
    let P : List ℕ → List ℕ → Type 0 = λ x y. Spells t x y in
    let Q : List ℕ → Type 0 = λ y. IsFirst t (b ∷ (bs ++ rest)) y in
    let s2 = subst (λ x. P x (drop (prefix_len is_name_byte (b ∷ (bs ++ rest))) (b ∷ (bs ++ rest)))) (sym prefix)
    (subst (λ y. P (b ∷ bs) y) (sym off) s) in
    subst Q off (word_first t b (bs ++ rest) (and_parts (is_letter b) (each is_name_byte bs) h).0 s2)

-- names
quoted_name_at : (n rest : List ℕ) → is_name n ≡ true → begins_with (is_quote 34) rest ≡ false
    → IsFirst (token.Name n) (quoted 34 n ++ rest) rest
quoted_name_at n rest h e = name_first (quoted 34 n ++ rest) (doubled 34 n ++ 34 ∷ [] ++ rest) n rest refl
    (append_assoc (doubled 34 n) (34 ∷ []) rest) e h

pub name_at_front : (n rest : List ℕ) → is_name n ≡ true → stops rest ≡ true
    → IsFirst (token.Name n) (canonical_name n ++ rest) rest
name_at_front n rest h e =
    let P : List ℕ → Type 0 = λ z. IsFirst (token.Name n) (z ++ rest) rest in
    let step : (v : Bool) → is_plain n ≡ v → P (cond v n (quoted_name n)) =
    λ v. elim v as (λ v. is_plain n ≡ v → P (cond v n (quoted_name n))) [
      | true ↦ λ p. (let ps = plain_word n p in word_at (token.Name n) n rest ps.0 (stop_name rest e).0 (plain_name p))
      | false ↦ λ p. subst P (sym (quoted_is n)) (quoted_name_at n rest h (stop_name rest e).1)
    ]
    in step (is_plain n) refl

name_token : (n rest : List ℕ) (ts : List Token) → is_name n ≡ true → stops rest ≡ true → AreTokens rest ts
    → AreTokens (canonical_name n ++ rest) (token.Name n ∷ ts)
name_token n rest ts h e are =
    one_token (token.Name n) (canonical_name n ++ rest) rest ts (name_at_front n rest h e) are

text_at_front : (t rest : List ℕ) → stops rest ≡ true → IsFirst (token.Literal (Text t)) (quoted 39 t ++ rest) rest
text_at_front t rest e =
    text_first (quoted 39 t ++ rest) (doubled 39 t ++ 39 ∷ [] ++ rest) t rest refl
    (append_assoc (doubled 39 t) (39 ∷ []) rest)
    (stop_name rest e).2

-- reserved words
word_symbol : (m : Symbol) (rest : List ℕ) (ts : List Token) → is_word (symbol_text m) ≡ true
    → begins_with is_name_byte rest ≡ false → AreTokens rest ts
    → AreTokens (symbol_text m ++ rest) (token.Symbol m ∷ ts)
word_symbol m rest ts h e are =
    one_token (token.Symbol m) (symbol_text m ++ rest) rest ts
    (word_at (token.Symbol m) (symbol_text m) rest h e (reserved_or_sign (spells_itself m))) are

-- signs: each is found where it stands alone
sign_symbol : (m : Symbol) (b : ℕ) (bs rest : List ℕ) (ts : List Token) → symbol_text m ≡ b ∷ bs → is_other b ≡ false
    → find (λ n. starts_with nat_eq (b ∷ (bs ++ rest)) (symbol_text n)) SIGNS ≡ Some m → AreTokens rest ts
    → AreTokens (b ∷ (bs ++ rest)) (token.Symbol m ∷ ts)
sign_symbol m b bs rest ts w o f are =
    let first = sign_first b (bs ++ rest) m o f in
    let off : drop (length (symbol_text m)) (b ∷ (bs ++ rest)) ≡ rest = rw w (drop-append_seam (b ∷ bs) rest) in
    let Q : List ℕ → Type 0 = λ y. IsFirst (token.Symbol m) (b ∷ (bs ++ rest)) y in
    one_token (token.Symbol m) (b ∷ (bs ++ rest)) rest ts (subst Q off first) are

comma_token : (rest : List ℕ) (ts : List Token) → AreTokens rest ts
    → AreTokens (44 ∷ rest) (token.Symbol symbol.Comma ∷ ts)
comma_token rest ts are = sign_symbol symbol.Comma 44 [] rest ts refl refl refl are

dot_token : (rest : List ℕ) (ts : List Token) → AreTokens rest ts → AreTokens (46 ∷ rest) (token.Symbol symbol.Dot ∷ ts)
dot_token rest ts are = sign_symbol symbol.Dot 46 [] rest ts refl refl refl are

open_token : (rest : List ℕ) (ts : List Token) → AreTokens rest ts
    → AreTokens (40 ∷ rest) (token.Symbol symbol.Open ∷ ts)
open_token rest ts are = sign_symbol symbol.Open 40 [] rest ts refl refl refl are

close_token : (rest : List ℕ) (ts : List Token) → AreTokens rest ts
    → AreTokens (41 ∷ rest) (token.Symbol symbol.Close ∷ ts)
close_token rest ts are = sign_symbol symbol.Close 41 [] rest ts refl refl refl are

star_token : (rest : List ℕ) (ts : List Token) → AreTokens rest ts
    → AreTokens (42 ∷ rest) (token.Symbol symbol.Star ∷ ts)
star_token rest ts are = sign_symbol symbol.Star 42 [] rest ts refl refl refl are

question_token : (rest : List ℕ) (ts : List Token) → AreTokens rest ts
    → AreTokens (63 ∷ rest) (token.Symbol symbol.Question ∷ ts)
question_token rest ts are = sign_symbol symbol.Question 63 [] rest ts refl refl refl are

-- a comparison with a space behind it
less_token : (rest : List ℕ) (ts : List Token) → AreTokens rest ts
    → AreTokens (60 ∷ 32 ∷ rest) (token.Symbol symbol.Less ∷ ts)
less_token rest ts are = sign_symbol symbol.Less 60 [] (32 ∷ rest) ts refl refl refl (space rest ts are)

at_most_token : (rest : List ℕ) (ts : List Token) → AreTokens rest ts
    → AreTokens (60 ∷ 61 ∷ 32 ∷ rest) (token.Symbol symbol.AtMost ∷ ts)
at_most_token rest ts are = sign_symbol symbol.AtMost 60 (61 ∷ []) (32 ∷ rest) ts refl refl refl (space rest ts are)

greater_token : (rest : List ℕ) (ts : List Token) → AreTokens rest ts
    → AreTokens (62 ∷ 32 ∷ rest) (token.Symbol symbol.Greater ∷ ts)
greater_token rest ts are = sign_symbol symbol.Greater 62 [] (32 ∷ rest) ts refl refl refl (space rest ts are)

at_least_token : (rest : List ℕ) (ts : List Token) → AreTokens rest ts
    → AreTokens (62 ∷ 61 ∷ 32 ∷ rest) (token.Symbol symbol.AtLeast ∷ ts)
at_least_token rest ts are = sign_symbol symbol.AtLeast 62 (61 ∷ []) (32 ∷ rest) ts refl refl refl (space rest ts are)

equals_token : (rest : List ℕ) (ts : List Token) → AreTokens rest ts
    → AreTokens (61 ∷ 32 ∷ rest) (token.Symbol symbol.Equals ∷ ts)
equals_token rest ts are = sign_symbol symbol.Equals 61 [] (32 ∷ rest) ts refl refl refl (space rest ts are)

-- whole numbers
-- the digits of a number and no others
number_at : (b : ℕ) (bs rest : List ℕ) (z : ℤ) → is_digit_or_minus b ≡ true → each is_ascii_digit bs ≡ true
    → IsNumeral 10 (without_minus (b ∷ bs)) → is_i64 z ≡ true
    → z ≡ signed_digits_value 10 (b ∷ bs) → begins_with is_ascii_digit rest ≡ false
    → IsFirst (token.Literal (Int z)) (b ∷ (bs ++ rest)) rest
number_at b bs rest z d h n i e s =
    let run : prefix_len is_ascii_digit (bs ++ rest) ≡ length bs = run_is is_ascii_digit bs rest h s in
    let prefix : take (prefix_len is_ascii_digit (bs ++ rest)) (bs ++ rest) ≡ bs = rw run (take-append_seam bs rest) in
    let off : drop (prefix_len is_ascii_digit (bs ++ rest)) (bs ++ rest) ≡ rest = rw run (drop-append_seam bs rest) in
    let P : List ℕ → Type 0 = λ w. IsNumeral 10 (without_leading_sign (b ∷ w)) in
    let Q : List ℕ → Type 0 = λ w. FitsSigned w64 (signed_digits_value 10 (b ∷ w)) in
    let R : List ℕ → Type 0 = λ w. z ≡ signed_digits_value 10 (b ∷ w) in
    let S : List ℕ → Type 0 = λ y. IsFirst (token.Literal (Int z)) (b ∷ (bs ++ rest)) y in
    let V : ℤ → Type 0 = λ y. FitsSigned w64 y in
    let numeral : IsNumeral 10 (without_leading_sign (b ∷ bs)) = rw (same_sign_off b bs d) n in
    let fits : FitsSigned w64 (signed_digits_value 10 (b ∷ bs)) = subst V e (tested_fits z i) in
    subst S off (number_first b (bs ++ rest) z d (subst P (sym prefix) numeral) (subst Q (sym prefix) fits)
    (subst R (sym prefix) e))

digit_first : (b : ℕ) → is_ascii_digit b ≡ true → is_digit_or_minus b ≡ true
digit_first b h = or_left (is_ascii_digit b) (b == 45) h

digit_no_minus : (b : ℕ) → is_ascii_digit b ≡ true → ((b == 45) ≡ false) × ((b == 43) ≡ false)
digit_no_minus b h = (grind (arith, nat_tests), grind (arith, nat_tests))

plain_value : (b : ℕ) (bs : List ℕ) → is_ascii_digit b ≡ true
    → (signed_digits_value 10 (b ∷ bs) ≡ pos (digits_value 10 (b ∷ bs))) × (without_minus (b ∷ bs) ≡ b ∷ bs)
plain_value b bs h =
    let m = digit_no_minus b h in
    (rw (m.0, m.1) refl, rw (m.0) refl)

minus_value : (ds : List ℕ) → signed_digits_value 10 (45 ∷ ds) ≡ neg_ℤ (pos (digits_value 10 ds))
minus_value ds = refl

tested_small : (n : ℕ) → nat_lt n (2 ^ 63) ≡ true → n < 2 ^ 63
tested_small n i = grind (arith, nat_tests)

small_tested : (n : ℕ) → n < 2 ^ 63 → nat_lt n (2 ^ 63) ≡ true
small_tested n i = grind (arith, nat_tests)

pos_at_front : (n : ℕ) (w rest : List ℕ) → n < 2 ^ 63 → IsNumeral 10 w → digits_value 10 w ≡ n → stops rest ≡ true
    → IsFirst (token.Literal (Int (pos n))) (w ++ rest) rest
pos_at_front n [] rest l h v s = absurd (omega (arith, h.0))
pos_at_front n (b ∷ bs) rest l h v s =
    let d = and_parts (is_ascii_digit b) (each is_ascii_digit bs) (all_digits (b ∷ bs) h.1) in
    let p = plain_value b bs d.0 in
    let P : List ℕ → Type 0 = λ z. IsNumeral 10 z in
    let i : is_i64 (pos n) ≡ true = small_tested n l in
    let z : pos n ≡ signed_digits_value 10 (b ∷ bs) = ap pos (sym v) ∙ sym p.0 in
    number_at b bs rest (pos n) (digit_first b d.0) d.1 (subst P (sym p.1) h) i z (stop_digit rest s)

neg_at_front : (n : ℕ) (w rest : List ℕ) → n < 2 ^ 63 → IsNumeral 10 w → digits_value 10 w ≡ suc n → stops rest ≡ true
    → IsFirst (token.Literal (Int (negsuc n))) (45 ∷ (w ++ rest)) rest
neg_at_front n w rest l h v s =
    let i : is_i64 (negsuc n) ≡ true = small_tested n l in
    let z : negsuc n ≡ signed_digits_value 10 (45 ∷ w) = rw (minus_value w, v) refl in
    number_at 45 w rest (negsuc n) refl (all_digits w h.1) h i z (stop_digit rest s)

number_at_front : (z : ℤ) (rest : List ℕ) → is_i64 z ≡ true → stops rest ≡ true
    → IsFirst (token.Literal (Int z)) (signed_decimal z ++ rest) rest
number_at_front (pos n) rest i s =
    let l = tested_small n i in
    let d = decimal_is_IsNumeral n (omega arith) in
    pos_at_front n (decimal n) rest l d.0 d.1 s
number_at_front (negsuc n) rest i s =
    let l = tested_small n i in
    let d = decimal_is_IsNumeral (suc n) (omega arith) in
    neg_at_front n (decimal (suc n)) rest l d.0 d.1 s

pub literal_at_front : (v : Value) (rest : List ℕ) → is_operand (operand.Literal v) ≡ true → stops rest ≡ true
    → IsFirst (token.Literal v) (operand_text (operand.Literal v) ++ rest) rest
literal_at_front (Int z) rest h s = number_at_front z rest h s
literal_at_front (Text t) rest h s = text_at_front t rest s

-- ---- the parts

-- what a part spells: its tokens, whose text goes before what follows
pub record Spelled {T : Type 0} (Is : T → List Token → Type 0) (x : T) (text : List ℕ) : Type 0 where
  pub tokens : List Token
  pub is : Is x tokens
  pub read : (rest : List ℕ) (ts : List Token) → stops rest ≡ true → AreTokens rest ts
      → AreTokens (text ++ rest) (tokens ++ ts)

regroup : (a b c d : List ℕ) → ((a ++ b) ++ c) ++ d ≡ a ++ (b ++ (c ++ d))
regroup a b c d = append_assoc (a ++ b) c d ∙ append_assoc a b (c ++ d)

dotted_read : (alias col rest : List ℕ) (ts : List Token) → is_name alias ≡ true → is_name col ≡ true
    → stops rest ≡ true → AreTokens rest ts
    → AreTokens ((canonical_name alias ++ codes "." ++ canonical_name col) ++ rest) (token.Name alias
    ∷ token.Symbol symbol.Dot ∷ token.Name col ∷ ts)
dotted_read alias col rest ts h k s are =
    let P : List ℕ → Type 0 = λ z. AreTokens z (token.Name alias ∷ token.Symbol symbol.Dot ∷ token.Name col ∷ ts) in
    let w : (canonical_name alias ++ codes "." ++ canonical_name col) ++ rest ≡ canonical_name alias
    ++ (46 ∷ (canonical_name col ++ rest)) = regroup (canonical_name alias) (46 ∷ []) (canonical_name col) rest in
    subst P (sym w) (name_token alias (46 ∷ (canonical_name col ++ rest)) (token.Symbol symbol.Dot ∷ token.Name col
    ∷ ts) h refl
    (dot_token (canonical_name col ++ rest) (token.Name col ∷ ts) (name_token col rest ts k s are)))

ref_of_spelled : (alias : Option (List ℕ)) (col : List ℕ) → is_ref_of alias col ≡ true
    → Spelled IsRef (record { alias = alias; column = col }) (ref_text_of alias col)
ref_of_spelled None col h = record {
  tokens = token.Name col ∷ [];
  is = plain;
  read =
      λ rest ts s are. name_token col rest ts h s are;
}
ref_of_spelled (Some alias) col h =
    let hs = and_parts (is_name alias) (is_name col) h in
    record {
      tokens = token.Name alias ∷ token.Symbol symbol.Dot ∷ token.Name col ∷ [];
      is = dotted;
      read = λ rest ts s are. dotted_read alias col rest ts hs.0 hs.1 s are;
    }

pub ref_spelled : (r : RawRef) → is_ref r ≡ true → Spelled IsRef r (ref_text r)
ref_spelled r h = ref_of_spelled r.alias r.column h

-- a text or a token list in another grouping
at_text : (a b : List ℕ) (ts us : List Token) → a ≡ b → ts ≡ us → AreTokens a ts → AreTokens b us
at_text a b ts us e f are =
    let P : List ℕ → List Token → Type 0 = λ x y. AreTokens x y in
    subst (λ y. P b y) f (subst (λ x. P x ts) e are)

enclosed_read : (r : RawRef) (sp : Spelled IsRef r (ref_text r)) (m : Symbol) (rest : List ℕ) (ts : List Token)
    → is_word (symbol_text m) ≡ true → stops rest ≡ true → AreTokens rest ts
    → AreTokens (symbol_text m ++ 40 ∷ (ref_text r ++ 41 ∷ rest)) (token.Symbol m ∷ token.Symbol symbol.Open
    ∷ (sp.tokens ++ token.Symbol symbol.Close ∷ ts))
enclosed_read r sp m rest ts w s are =
    word_symbol m (40 ∷ (ref_text r ++ 41 ∷ rest)) (token.Symbol symbol.Open
    ∷ (sp.tokens ++ token.Symbol symbol.Close ∷ ts)) w refl
    (open_token (ref_text r ++ 41 ∷ rest) (sp.tokens ++ token.Symbol symbol.Close ∷ ts)
    (sp.read (41 ∷ rest) (token.Symbol symbol.Close ∷ ts) refl (close_token rest ts are)))

aggregate_read : (r : RawRef) (sp : Spelled IsRef r (ref_text r)) (m : Symbol) (word : List ℕ) (rest : List ℕ)
    (ts : List Token) → word ≡ symbol_text m ++ 40 ∷ [] → is_word (symbol_text m) ≡ true → stops rest ≡ true
    → AreTokens rest ts
    → AreTokens ((word ++ ref_text r ++ 41 ∷ []) ++ rest)
    ((token.Symbol m ∷ token.Symbol symbol.Open ∷ (sp.tokens ++ token.Symbol symbol.Close ∷ [])) ++ ts)
aggregate_read r sp m word rest ts e w s are =
    let a : symbol_text m ++ 40 ∷ (ref_text r ++ 41 ∷ rest) ≡ (word ++ ref_text r ++ 41 ∷ []) ++ rest =
    sym (regroup word (ref_text r) (41 ∷ []) rest ∙ ap (λ z. z ++ (ref_text r ++ 41 ∷ rest)) e
    ∙ append_assoc (symbol_text m) (40 ∷ []) (ref_text r ++ 41 ∷ rest)) in
    let b : token.Symbol m ∷ token.Symbol symbol.Open ∷ (sp.tokens ++ token.Symbol symbol.Close ∷ ts)
    ≡ (token.Symbol m ∷ token.Symbol symbol.Open ∷ (sp.tokens ++ token.Symbol symbol.Close ∷ [])) ++ ts =
    ap (λ z. token.Symbol m ∷ token.Symbol symbol.Open ∷ z)
    (sym (append_assoc sp.tokens (token.Symbol symbol.Close ∷ []) ts)) in
    at_text _ _ _ _ a b (enclosed_read r sp m rest ts w s are)

count_read : (rest : List ℕ) (ts : List Token) → AreTokens rest ts
    → AreTokens (codes "COUNT(*)" ++ rest) (token.Symbol symbol.Count ∷ token.Symbol symbol.Open
    ∷ token.Symbol symbol.Star ∷ token.Symbol symbol.Close ∷ ts)
count_read rest ts are = word_symbol symbol.Count (40 ∷ 42 ∷ 41 ∷ rest) (token.Symbol symbol.Open
    ∷ token.Symbol symbol.Star ∷ token.Symbol symbol.Close ∷ ts) refl refl
    (open_token (42 ∷ 41 ∷ rest) (token.Symbol symbol.Star ∷ token.Symbol symbol.Close ∷ ts)
    (star_token (41 ∷ rest) (token.Symbol symbol.Close ∷ ts) (close_token rest ts are)))

item_spelled : (x : RawItem) → is_item x ≡ true → Spelled IsItem x (item_text x)
item_spelled (item.Column r) h = let sp = ref_spelled r h in
    record { tokens = sp.tokens; is = column sp.is; read = sp.read }
item_spelled item.CountAll h =
    record {
      tokens = token.Symbol symbol.Count ∷ token.Symbol symbol.Open ∷ token.Symbol symbol.Star
          ∷ token.Symbol symbol.Close ∷ [];
      is = count;
      read = λ rest ts s are. count_read rest ts are;
    }
item_spelled (item.Sum r) h = let sp = ref_spelled r h in record {
  tokens = token.Symbol symbol.Sum ∷ token.Symbol symbol.Open ∷ (sp.tokens ++ token.Symbol symbol.Close ∷ []);
  is = sum sp.is;
  read = λ rest ts s are. aggregate_read r sp symbol.Sum (codes "SUM(") rest ts refl refl s are;
}
item_spelled (item.Min r) h = let sp = ref_spelled r h in record {
  tokens = token.Symbol symbol.Min ∷ token.Symbol symbol.Open ∷ (sp.tokens ++ token.Symbol symbol.Close ∷ []);
  is = min sp.is;
  read = λ rest ts s are. aggregate_read r sp symbol.Min (codes "MIN(") rest ts refl refl s are;
}
item_spelled (item.Max r) h = let sp = ref_spelled r h in record {
  tokens = token.Symbol symbol.Max ∷ token.Symbol symbol.Open ∷ (sp.tokens ++ token.Symbol symbol.Close ∷ []);
  is = max sp.is;
  read = λ rest ts s are. aggregate_read r sp symbol.Max (codes "MAX(") rest ts refl refl s are;
}

-- places
as_read : (table alias rest : List ℕ) (ts : List Token) → is_name table ≡ true → is_name alias ≡ true
    → stops rest ≡ true → AreTokens rest ts
    → AreTokens ((canonical_name table ++ (codes " AS " ++ canonical_name alias)) ++ rest) (token.Name table
    ∷ token.Symbol symbol.As ∷ token.Name alias ∷ ts)
as_read table alias rest ts h k s are =
    let e = append_assoc (canonical_name table) (codes " AS " ++ canonical_name alias) rest in
    at_text _ _ _ _ (sym e) refl (name_token table (32 ∷ 65 ∷ 83 ∷ 32 ∷ (canonical_name alias ++ rest))
    (token.Symbol symbol.As ∷ token.Name alias ∷ ts) h refl
    (space (65 ∷ 83 ∷ 32 ∷ (canonical_name alias ++ rest)) (token.Symbol symbol.As ∷ token.Name alias ∷ ts)
    (word_symbol symbol.As (32 ∷ (canonical_name alias ++ rest)) (token.Name alias ∷ ts) refl refl
    (space (canonical_name alias ++ rest) (token.Name alias ∷ ts) (name_token alias rest ts k s are)))))

bare_read : (table rest : List ℕ) (ts : List Token) → is_name table ≡ true → stops rest ≡ true → AreTokens rest ts
    → AreTokens ((canonical_name table ++ []) ++ rest) (token.Name table ∷ ts)
bare_read table rest ts h s are =
    at_text _ _ _ _ (ap (λ z. z ++ rest) (sym (append-nil (canonical_name table)))) refl
    (name_token table rest ts h s are)

same_alias : (table alias : List ℕ) → is_name table ≡ true → alias ≡ table
    → Spelled IsPlace (record { table = table; alias = alias }) (canonical_name table ++ [])
same_alias table alias h e =
    let P : List ℕ → Type 0 = λ z. Spelled IsPlace (record { table = table; alias = z }) (canonical_name table ++ []) in
    subst P (sym e) (record {
      tokens = token.Name table ∷ [];
      is = bare;
      read =
          λ rest ts s are. bare_read table rest ts h s are;
    })

place_of_spelled : (table alias : List ℕ) → is_name table ≡ true → is_name alias ≡ true
    → Spelled IsPlace (record { table = table; alias = alias }) (canonical_name table
    ++ (cond (bytes_eq alias table) [] (codes " AS " ++ canonical_name alias)))
place_of_spelled table alias h k =
    let step : (v : Bool) → bytes_eq alias table ≡ v
    → Spelled IsPlace (record { table = table; alias = alias }) (canonical_name table
    ++ (cond v [] (codes " AS " ++ canonical_name alias))) =
    λ v. elim v as (λ v. bytes_eq alias table ≡ v
    → Spelled IsPlace (record { table = table; alias = alias }) (canonical_name table
    ++ (cond v [] (codes " AS " ++ canonical_name alias)))) [
      | true ↦ λ e. same_alias table alias h ((bytes_eq-Decides alias table).0 e)
      | false ↦ λ e. record {
        tokens = token.Name table ∷ token.Symbol symbol.As ∷ token.Name alias ∷ [];
        is =
            called_as;
        read = λ rest ts s are. as_read table alias rest ts h k s are;
      }
    ]
    in step (bytes_eq alias table) refl

place_spelled : (x : RawPlace) → is_place x ≡ true → Spelled IsPlace x (place_text x)
place_spelled x h = let hs = and_parts (is_name x.table) (is_name x.alias) h in
    place_of_spelled x.table x.alias hs.0 hs.1

-- ---- lists

-- a separator is its symbol, and ends what goes before it
record Separates (separator : List ℕ) (m : Symbol) : Type 0 where
  read : (rest : List ℕ) (ts : List Token) → AreTokens rest ts → AreTokens (separator ++ rest) (token.Symbol m ∷ ts)
  stop : (rest : List ℕ) → stops (separator ++ rest) ≡ true

comma_separates : Separates (codes ", ") symbol.Comma
comma_separates = record { read = λ rest ts are. comma_token (32 ∷ rest) ts (space rest ts are); stop = λ rest. refl }

and_separates : Separates (codes " AND ") symbol.And
and_separates = record {
  read = λ rest ts are. space (65 ∷ 78 ∷ 68 ∷ 32 ∷ rest) (token.Symbol symbol.And ∷ ts)
      (word_symbol symbol.And (32 ∷ rest) ts refl refl (space rest ts are));
  stop = λ rest. refl;
}

record AllSpelled {T : Type 0} (Is : T → List Token → Type 0) (m : Symbol) (xs : List T) (text : List ℕ) : Type 0 where
  tokens : List Token
  is : AreAll (IsBehind Is (token.Symbol m)) xs tokens
  read : (rest : List ℕ) (ts : List Token) → stops rest ≡ true → AreTokens rest ts
      → AreTokens (text ++ rest) (tokens ++ ts)
  stop : (rest : List ℕ) → stops rest ≡ true → stops (text ++ rest) ≡ true

all_spelled : {T : Type 0} (Is : T → List Token → Type 0) (separator : List ℕ) (m : Symbol) (text : T
    → List ℕ) (test : T → Bool) → Separates separator m
    → ((x : T) → test x ≡ true → Spelled Is x (text x)) → (xs : List T) → each test xs ≡ true
    → AllSpelled Is m xs (behind_text separator text xs)
all_spelled Is separator m text test sep spelled [] h =
    record { tokens = []; is = no_part; read = λ rest ts s are. are; stop = λ rest s. s }
all_spelled {T} Is separator m text test sep spelled (x ∷ xs) h =
    let hs = and_parts (test x) (each test xs) h in
    let p = spelled x hs.0 in
    let q = all_spelled Is separator m text test sep spelled xs hs.1 in
    record {
      tokens = (token.Symbol m ∷ p.tokens) ++ q.tokens;
      is = part (behind p.is) q.is;
      read = λ rest ts s are. at_text _ _ _ _ (sym (regroup separator (text x) (behind_text separator text xs) rest))
          (sym (ap (λ z. token.Symbol m ∷ z) (append_assoc p.tokens q.tokens ts)))
          (sep.read (text x ++ (behind_text separator text xs ++ rest)) (p.tokens ++ (q.tokens ++ ts))
          (p.read (behind_text separator text xs ++ rest) (q.tokens ++ ts) (q.stop rest s) (q.read rest ts s are)));
      stop = λ rest s. (let P : List ℕ → Type 0 = λ z. stops z ≡ true in
          subst P (sym (regroup separator (text x) (behind_text separator text xs) rest))
          (sep.stop (text x ++ (behind_text separator text xs ++ rest))));
    }

-- parts behind a word
record ListSpelled {T : Type 0} (Is : T → List Token → Type 0) (m : Symbol) (xs : List T) (body : List ℕ) : Type 0 where
  tokens : List Token
  is : AreListed Is (token.Symbol m) xs tokens
  read : (rest : List ℕ) (ts : List Token) → stops rest ≡ true → AreTokens rest ts
      → AreTokens (body ++ rest) (tokens ++ ts)

list_spelled : {T : Type 0} (Is : T → List Token → Type 0) (separator : List ℕ) (m : Symbol) (text : T
    → List ℕ) (test : T → Bool) → Separates separator m
    → ((x : T) → test x ≡ true → Spelled Is x (text x)) → (x : T) (xs : List T) → each test (x ∷ xs) ≡ true
    → ListSpelled Is m (x ∷ xs) (text x ++ behind_text separator text xs)
list_spelled Is separator m text test sep spelled x xs h =
    let hs = and_parts (test x) (each test xs) h in
    let p = spelled x hs.0 in
    let q = all_spelled Is separator m text test sep spelled xs hs.1 in
    record {
      tokens = p.tokens ++ q.tokens;
      is = listed p.is q.is;
      read = λ rest ts s are. at_text _ _ _ _ (sym (append_assoc (text x) (behind_text separator text xs) rest))
          (sym (append_assoc p.tokens q.tokens ts))
          (p.read (behind_text separator text xs ++ rest) (q.tokens ++ ts) (q.stop rest s) (q.read rest ts s are));
    }

word_list : (word a b rest : List ℕ) → word ++ ((a ++ b) ++ rest) ≡ (word ++ a ++ b) ++ rest
word_list word a b rest = sym (regroup word a b rest ∙ ap (λ z. word ++ z) (sym (append_assoc a b rest)))

-- operands and tests
record OperandSpelled (x : RawOperand) : Type 0 where
  one : Token
  is : IsOperand x one
  read : (rest : List ℕ) (ts : List Token) → stops rest ≡ true → AreTokens rest ts
      → AreTokens (operand_text x ++ rest) (one ∷ ts)

operand_spelled : (x : RawOperand) → is_operand x ≡ true → OperandSpelled x
operand_spelled (operand.Literal v) h = record {
  one = token.Literal v;
  is = literal;
  read = λ rest ts s are. one_token (token.Literal v) (operand_text (operand.Literal v) ++ rest) rest ts
      (literal_at_front v rest h s) are;
}
operand_spelled operand.Param h =
    record { one = token.Symbol symbol.Question; is = parameter; read = λ rest ts s are. question_token rest ts are }

between_read : (x y : RawOperand) (o : OperandSpelled x) (p : OperandSpelled y) (rest : List ℕ) (ts : List Token)
    → stops rest ≡ true → AreTokens rest ts
    → AreTokens ((codes " BETWEEN " ++ operand_text x ++ codes " AND " ++ operand_text y) ++ rest)
    (token.Symbol symbol.Between ∷ o.one ∷ token.Symbol symbol.And ∷ p.one ∷ ts)
between_read x y o p rest ts s are =
    let e = append_assoc (codes " BETWEEN " ++ operand_text x ++ codes " AND ") (operand_text y) rest
    ∙ append_assoc (codes " BETWEEN " ++ operand_text x) (codes " AND ") (operand_text y ++ rest)
    ∙ append_assoc (codes " BETWEEN ") (operand_text x) (codes " AND " ++ (operand_text y ++ rest)) in
    let tail = space (65 ∷ 78 ∷ 68 ∷ 32 ∷ (operand_text y ++ rest)) (token.Symbol symbol.And ∷ p.one ∷ ts)
    (word_symbol symbol.And (32 ∷ (operand_text y ++ rest)) (p.one ∷ ts) refl refl
    (space (operand_text y ++ rest) (p.one ∷ ts) (p.read rest ts s are))) in
    let low = o.read (32 ∷ 65 ∷ 78 ∷ 68 ∷ 32 ∷ (operand_text y ++ rest)) (token.Symbol symbol.And ∷ p.one ∷ ts) refl
    tail in
    at_text _ _ _ _ (sym e) refl (space _ _
    (word_symbol symbol.Between (32 ∷ (operand_text x ++ 32 ∷ 65 ∷ 78 ∷ 68 ∷ 32 ∷ (operand_text y ++ rest))) (o.one
    ∷ token.Symbol symbol.And ∷ p.one ∷ ts) refl refl
    (space (operand_text x ++ 32 ∷ 65 ∷ 78 ∷ 68 ∷ 32 ∷ (operand_text y ++ rest)) (o.one ∷ token.Symbol symbol.And
    ∷ p.one ∷ ts) low)))

alone_spelled : (x : RawOperand) → is_operand x ≡ true → Spelled IsListedOperand x (operand_text x)
alone_spelled x h = let o = operand_spelled x h in
    record { tokens = o.one ∷ []; is = alone o.is; read = λ rest ts s are. o.read rest ts s are }

in_read : (x : RawOperand) (xs : List RawOperand)
    (p : ListSpelled IsListedOperand symbol.Comma (x ∷ xs) (operand_text x ++ behind_text (codes ", ") operand_text xs))
    (rest : List ℕ) (ts : List Token) → AreTokens rest ts
    → AreTokens ((listed_text (codes " IN (") (codes ", ") operand_text (x ∷ xs) ++ codes ")") ++ rest)
    ((token.Symbol symbol.In ∷ token.Symbol symbol.Open ∷ (p.tokens ++ token.Symbol symbol.Close ∷ [])) ++ ts)
in_read x xs p rest ts are =
    let inside : List ℕ = operand_text x ++ behind_text (codes ", ") operand_text xs in
    let a = word_list (codes " IN (") (operand_text x) (behind_text (codes ", ") operand_text xs) (41 ∷ rest)
    ∙ sym (append_assoc (listed_text (codes " IN (") (codes ", ") operand_text (x ∷ xs)) (codes ")") rest) in
    let b = ap (λ (z : List Token). token.Symbol symbol.In ∷ token.Symbol symbol.Open ∷ z)
    (sym (append_assoc p.tokens (token.Symbol symbol.Close ∷ []) ts)) in
    let tail = p.read (41 ∷ rest) (token.Symbol symbol.Close ∷ ts) refl (close_token rest ts are) in
    at_text _ _ _ _ a b (space _ _
    (word_symbol symbol.In (32 ∷ 40 ∷ (inside ++ 41 ∷ rest)) (token.Symbol symbol.Open
    ∷ (p.tokens ++ token.Symbol symbol.Close ∷ ts)) refl refl
    (space _ _ (open_token (inside ++ 41 ∷ rest) (p.tokens ++ token.Symbol symbol.Close ∷ ts) tail))))

in_spelled : (xs : List RawOperand) → is_some xs ≡ true → each is_operand xs ≡ true
    → Spelled IsTest (test.OneOf xs) (test_text (test.OneOf xs))
in_spelled [] some h = absurd cc
in_spelled (x ∷ xs) some h =
    let p = list_spelled IsListedOperand (codes ", ") symbol.Comma operand_text is_operand comma_separates alone_spelled
    x xs h in
    record {
      tokens = token.Symbol symbol.In ∷ token.Symbol symbol.Open ∷ (p.tokens ++ token.Symbol symbol.Close ∷ []);
      is = one_of p.is;
      read = λ rest ts s are. in_read x xs p rest ts are;
    }

test_spelled : (x : RawTest) → is_test x ≡ true → Spelled IsTest x (test_text x)
test_spelled (test.Lt x) h = let o = operand_spelled x h in record {
  tokens = token.Symbol symbol.Less ∷ o.one ∷ [];
  is = less o.is;
  read = λ rest ts s are. space (60 ∷ 32 ∷ (operand_text x ++ rest)) (token.Symbol symbol.Less ∷ o.one ∷ ts)
      (less_token (operand_text x ++ rest) (o.one ∷ ts) (o.read rest ts s are));
}
test_spelled (test.Le x) h = let o = operand_spelled x h in record {
  tokens = token.Symbol symbol.AtMost ∷ o.one ∷ [];
  is = at_most o.is;
  read = λ rest ts s are. space (60 ∷ 61 ∷ 32 ∷ (operand_text x ++ rest)) (token.Symbol symbol.AtMost ∷ o.one ∷ ts)
      (at_most_token (operand_text x ++ rest) (o.one ∷ ts) (o.read rest ts s are));
}
test_spelled (test.Gt x) h = let o = operand_spelled x h in record {
  tokens = token.Symbol symbol.Greater ∷ o.one ∷ [];
  is = greater o.is;
  read = λ rest ts s are. space (62 ∷ 32 ∷ (operand_text x ++ rest)) (token.Symbol symbol.Greater ∷ o.one ∷ ts)
      (greater_token (operand_text x ++ rest) (o.one ∷ ts) (o.read rest ts s are));
}
test_spelled (test.Ge x) h = let o = operand_spelled x h in record {
  tokens = token.Symbol symbol.AtLeast ∷ o.one ∷ [];
  is = at_least o.is;
  read = λ rest ts s are. space (62 ∷ 61 ∷ 32 ∷ (operand_text x ++ rest)) (token.Symbol symbol.AtLeast ∷ o.one ∷ ts)
      (at_least_token (operand_text x ++ rest) (o.one ∷ ts) (o.read rest ts s are));
}
test_spelled (test.Eq x) h = let o = operand_spelled x h in record {
  tokens = token.Symbol symbol.Equals ∷ o.one ∷ [];
  is = equal o.is;
  read = λ rest ts s are. space (61 ∷ 32 ∷ (operand_text x ++ rest)) (token.Symbol symbol.Equals ∷ o.one ∷ ts)
      (equals_token (operand_text x ++ rest) (o.one ∷ ts) (o.read rest ts s are));
}
test_spelled (test.Between x y) h =
    let hs = and_parts (is_operand x) (is_operand y) h in
    let o = operand_spelled x hs.0 in
    let p = operand_spelled y hs.1 in
    record {
      tokens = token.Symbol symbol.Between ∷ o.one ∷ token.Symbol symbol.And ∷ p.one ∷ [];
      is =
          between o.is p.is;
      read = λ rest ts s are. between_read x y o p rest ts s are;
    }
test_spelled (test.OneOf xs) h = let hs = and_parts (is_some xs) (each is_operand xs) h in in_spelled xs hs.0 hs.1

in_stops : (xs : List RawOperand) (rest : List ℕ) → stops (test_text (test.OneOf xs) ++ rest) ≡ true
in_stops [] rest = refl
in_stops (x ∷ xs) rest = refl

test_stops : (x : RawTest) (rest : List ℕ) → stops (test_text x ++ rest) ≡ true
test_stops (test.Lt x) rest = refl
test_stops (test.Le x) rest = refl
test_stops (test.Gt x) rest = refl
test_stops (test.Ge x) rest = refl
test_stops (test.Eq x) rest = refl
test_stops (test.Between x y) rest = refl
test_stops (test.OneOf xs) rest = in_stops xs rest

-- conditions and keys
cond_spelled : (x : RawCond) → is_cond x ≡ true → Spelled IsCond x (cond_text x)
cond_spelled (cond_.Test r t) h =
    let hs = and_parts (is_ref r) (is_test t) h in
    let p = ref_spelled r hs.0 in
    let q = test_spelled t hs.1 in
    record {
      tokens = p.tokens ++ q.tokens;
      is = tested p.is q.is;
      read = λ rest ts s are. at_text _ _ _ _ (sym (append_assoc (ref_text r) (test_text t) rest))
          (sym (append_assoc p.tokens q.tokens ts))
          (p.read (test_text t ++ rest) (q.tokens ++ ts) (test_stops t rest) (q.read rest ts s are));
    }
cond_spelled (cond_.Same r u) h =
    let hs = and_parts (is_ref r) (is_ref u) h in
    let p = ref_spelled r hs.0 in
    let q = ref_spelled u hs.1 in
    record {
      tokens = p.tokens ++ token.Symbol symbol.Equals ∷ q.tokens;
      is = same p.is q.is;
      read = λ rest ts s are. at_text _ _ _ _ (sym (regroup (ref_text r) (codes " = ") (ref_text u) rest))
          (sym (append_assoc p.tokens (token.Symbol symbol.Equals ∷ q.tokens) ts))
          (p.read (32 ∷ 61 ∷ 32 ∷ (ref_text u ++ rest)) (token.Symbol symbol.Equals ∷ (q.tokens ++ ts)) refl
          (space (61 ∷ 32 ∷ (ref_text u ++ rest)) (token.Symbol symbol.Equals ∷ (q.tokens ++ ts))
          (equals_token (ref_text u ++ rest) (q.tokens ++ ts) (q.read rest ts s are))));
    }

key_of_spelled : (r : RawRef) (down : Bool) → is_ref r ≡ true
    → Spelled IsKey (record { at = r; descending = down }) (ref_text r ++ (cond down (codes " DESC") []))
key_of_spelled r true h =
    let p = ref_spelled r h in
    record {
      tokens = p.tokens ++ token.Symbol symbol.Desc ∷ [];
      is = falling p.is;
      read = λ rest ts s are. at_text _ _ _ _ (sym (append_assoc (ref_text r) (codes " DESC") rest))
          (sym (append_assoc p.tokens (token.Symbol symbol.Desc ∷ []) ts))
          (p.read (32 ∷ 68 ∷ 69 ∷ 83 ∷ 67 ∷ rest) (token.Symbol symbol.Desc ∷ ts) refl
          (space (68 ∷ 69 ∷ 83 ∷ 67 ∷ rest) (token.Symbol symbol.Desc ∷ ts)
          (word_symbol symbol.Desc rest ts refl (stop_name rest s).0 are)));
    }
key_of_spelled r false h =
    let p = ref_spelled r h in
    record {
      tokens = p.tokens;
      is = rising p.is;
      read =
          λ rest ts s are. at_text _ _ _ _ (ap (λ z. z ++ rest) (sym (append-nil (ref_text r)))) refl
          (p.read rest ts s are);
    }

key_spelled : (x : RawKey) → is_key x ≡ true → Spelled IsKey x (key_text x)
key_spelled x h = key_of_spelled x.at x.descending h

-- ---- the parts that may be missing

-- a part of the statement that may be missing
record Optional (Is : List Token → Type 0) (text : List ℕ) : Type 0 where
  tokens : List Token
  is : Is tokens
  read : (rest : List ℕ) (ts : List Token) → stops rest ≡ true → AreTokens rest ts
      → AreTokens (text ++ rest) (tokens ++ ts)
  stop : (rest : List ℕ) → stops rest ≡ true → stops (text ++ rest) ≡ true

where_spelled : (cs : List RawCond) → each is_cond cs ≡ true
    → Optional (IsWhere cs) (listed_text (codes " WHERE ") (codes " AND ") cond_text cs)
where_spelled [] h = record { tokens = []; is = no_where; read = λ rest ts s are. are; stop = λ rest s. s }
where_spelled (c ∷ cs) h =
    let p = list_spelled IsCond (codes " AND ") symbol.And cond_text is_cond and_separates cond_spelled c cs h in
    record {
      tokens = token.Symbol symbol.Where ∷ p.tokens;
      is = filtered p.is;
      read = λ rest ts s are. at_text _ _ _ _
          (word_list (codes " WHERE ") (cond_text c) (behind_text (codes " AND ") cond_text cs) rest) refl
          (space _ _ (word_symbol symbol.Where (32
          ∷ ((cond_text c ++ behind_text (codes " AND ") cond_text cs) ++ rest)) (p.tokens ++ ts) refl refl
          (space _ _ (p.read rest ts s are))));
      stop = λ rest s. refl;
    }

group_spelled : (rs : List RawRef) → each is_ref rs ≡ true
    → Optional (IsGroup rs) (listed_text (codes " GROUP BY ") (codes ", ") ref_text rs)
group_spelled [] h = record { tokens = []; is = no_group; read = λ rest ts s are. are; stop = λ rest s. s }
group_spelled (r ∷ rs) h =
    let p = list_spelled IsRef (codes ", ") symbol.Comma ref_text is_ref comma_separates ref_spelled r rs h in
    record {
      tokens = token.Symbol symbol.Group ∷ token.Symbol symbol.By ∷ p.tokens;
      is = grouped p.is;
      read = λ rest ts s are. at_text _ _ _ _
          (word_list (codes " GROUP BY ") (ref_text r) (behind_text (codes ", ") ref_text rs) rest) refl
          (space _ _ (word_symbol symbol.Group (32 ∷ 66 ∷ 89 ∷ 32
          ∷ ((ref_text r ++ behind_text (codes ", ") ref_text rs) ++ rest)) (token.Symbol symbol.By
          ∷ (p.tokens ++ ts)) refl refl
          (space _ _ (word_symbol symbol.By (32 ∷ ((ref_text r ++ behind_text (codes ", ") ref_text rs) ++ rest))
          (p.tokens ++ ts) refl refl (space _ _ (p.read rest ts s are))))));
      stop = λ rest s. refl;
    }

order_spelled : (ks : List RawKey) → each is_key ks ≡ true
    → Optional (IsOrder ks) (listed_text (codes " ORDER BY ") (codes ", ") key_text ks)
order_spelled [] h = record { tokens = []; is = no_order; read = λ rest ts s are. are; stop = λ rest s. s }
order_spelled (k ∷ ks) h =
    let p = list_spelled IsKey (codes ", ") symbol.Comma key_text is_key comma_separates key_spelled k ks h in
    record {
      tokens = token.Symbol symbol.Order ∷ token.Symbol symbol.By ∷ p.tokens;
      is = ordered p.is;
      read = λ rest ts s are. at_text _ _ _ _
          (word_list (codes " ORDER BY ") (key_text k) (behind_text (codes ", ") key_text ks) rest) refl
          (space _ _ (word_symbol symbol.Order (32 ∷ 66 ∷ 89 ∷ 32
          ∷ ((key_text k ++ behind_text (codes ", ") key_text ks) ++ rest)) (token.Symbol symbol.By
          ∷ (p.tokens ++ ts)) refl refl
          (space _ _ (word_symbol symbol.By (32 ∷ ((key_text k ++ behind_text (codes ", ") key_text ks) ++ rest))
          (p.tokens ++ ts) refl refl (space _ _ (p.read rest ts s are))))));
      stop = λ rest s. refl;
    }

-- ---- the statement

as_joins : List RawPlace → List Joined
as_joins [] = []
as_joins (p ∷ ps) = record { place = p; conds = [] } ∷ as_joins ps

joins_places : (ps : List RawPlace) → joined_places (as_joins ps) ≡ ps
unfolding as_joins
joins_places [] = refl
joins_places (p ∷ ps) = ap (λ z. p ∷ z) (joins_places ps)

joins_conds : (ps : List RawPlace) → joined_conds (as_joins ps) ≡ []
unfolding as_joins
joins_conds [] = refl
joins_conds (p ∷ ps) = joins_conds ps

one_comma : (p : RawPlace) (f : List Token) → IsBehind IsPlace (token.Symbol symbol.Comma) p f
    → IsJoined (record { place = p; conds = [] }) f
one_comma p f (behind is) = comma is

commas : (ps : List RawPlace) (f : List Token) → AreAll (IsBehind IsPlace (token.Symbol symbol.Comma)) ps f
    → AreAll IsJoined (as_joins ps) f
unfolding as_joins
commas ps f no_part = no_part
commas ps f (part {x} {xs} {first} {rest} is are) = part (one_comma x first is) (commas xs rest are)

grammar_of : (items : List RawItem) (place : RawPlace) (places : List RawPlace) (conds : List RawCond)
    (groups : List RawRef) (keys : List RawKey) (select from further where_ group order : List Token)
    → AreListed IsItem (token.Symbol symbol.Comma) items select → IsPlace place from
    → AreAll (IsBehind IsPlace (token.Symbol symbol.Comma)) places further → IsWhere conds where_
    → IsGroup groups group → IsOrder keys order
    → IsStatement (record { items = items; places = place ∷ places; conds = conds; groups = groups; order = keys })
    (token.Symbol symbol.Select ∷ (select ++ token.Symbol symbol.From
    ∷ (from ++ (further ++ (where_ ++ (group ++ (order ++ [])))))))
grammar_of items place places conds groups keys select from further where_ group order are is js ws gs os =
    let P : List RawPlace → List RawCond → Type 0 =
    λ x y. IsStatement (record {
      items = items;
      places = place ∷ x;
      conds = y ++ conds;
      groups = groups;
      order =
          keys;
    })
    (token.Symbol symbol.Select ∷ (select ++ token.Symbol symbol.From
    ∷ (from ++ (further ++ (where_ ++ (group ++ (order ++ []))))))) in
    subst (λ y. P places y) (joins_conds places)
    (subst (λ x. P x (joined_conds (as_joins places))) (joins_places places)
    (statement are is (commas places further js) ws gs os bare_end))

regroup_all : (s a b f c d w g o : List ℕ) → s ++ ((a ++ b) ++ (f ++ (c ++ (d ++ (w ++ (g ++ (o ++ [])))))))
    ≡ (s ++ a ++ b) ++ (f ++ c ++ d) ++ w ++ g ++ o
regroup_all s a b f c d w g o = rw (append-nil o) (simp append_assoc)

whole : (a b c d w g o : List ℕ)
    → codes "SELECT " ++ ((a ++ b) ++ (codes " FROM " ++ (c ++ (d ++ (w ++ (g ++ (o ++ [])))))))
    ≡ (codes "SELECT " ++ a ++ b) ++ (codes " FROM " ++ c ++ d) ++ w ++ g ++ o
whole a b c d w g o = regroup_all (codes "SELECT ") a b (codes " FROM ") c d w g o

canonical_from : (i : RawItem) (items : List RawItem) (p : RawPlace) (places : List RawPlace) (conds : List RawCond)
    (groups : List RawRef) (keys : List RawKey)
    → ListSpelled IsItem symbol.Comma (i ∷ items) (item_text i ++ behind_text (codes ", ") item_text items)
    → Spelled IsPlace p (place_text p)
    → AllSpelled IsPlace symbol.Comma places (behind_text (codes ", ") place_text places)
    → Optional (IsWhere conds) (listed_text (codes " WHERE ") (codes " AND ") cond_text conds)
    → Optional (IsGroup groups) (listed_text (codes " GROUP BY ") (codes ", ") ref_text groups)
    → Optional (IsOrder keys) (listed_text (codes " ORDER BY ") (codes ", ") key_text keys)
    → IsStatementText (canonical_text
    (record { items = i ∷ items; places = p ∷ places; conds = conds; groups = groups; order = keys }))
    (record { items = i ∷ items; places = p ∷ places; conds = conds; groups = groups; order = keys })
canonical_from i items p places conds groups keys si sp sq sw sg so =
    let wt = listed_text (codes " WHERE ") (codes " AND ") cond_text conds in
    let gt = listed_text (codes " GROUP BY ") (codes ", ") ref_text groups in
    let ot = listed_text (codes " ORDER BY ") (codes ", ") key_text keys in
    let bt = behind_text (codes ", ") place_text places in
    let r1 = so.read [] [] refl (none {white = []} refl) in
    let t1 = so.stop [] refl in
    let r2 = sg.read (ot ++ []) (so.tokens ++ []) t1 r1 in
    let t2 = sg.stop (ot ++ []) t1 in
    let r3 = sw.read (gt ++ (ot ++ [])) (sg.tokens ++ (so.tokens ++ [])) t2 r2 in
    let t3 = sw.stop (gt ++ (ot ++ [])) t2 in
    let r4 = sq.read (wt ++ (gt ++ (ot ++ []))) (sw.tokens ++ (sg.tokens ++ (so.tokens ++ []))) t3 r3 in
    let t4 = sq.stop (wt ++ (gt ++ (ot ++ []))) t3 in
    let r5 = sp.read (bt ++ (wt ++ (gt ++ (ot ++ [])))) (sq.tokens ++ (sw.tokens ++ (sg.tokens ++ (so.tokens ++ []))))
    t4 r4 in
    let r6 = space _ _ (word_symbol symbol.From (32 ∷ (place_text p ++ (bt ++ (wt ++ (gt ++ (ot ++ [])))))) (sp.tokens
    ++ (sq.tokens ++ (sw.tokens ++ (sg.tokens ++ (so.tokens ++ []))))) refl refl (space _ _ r5)) in
    let r7 = si.read (32 ∷ 70 ∷ 82 ∷ 79 ∷ 77 ∷ 32 ∷ (place_text p ++ (bt ++ (wt ++ (gt ++ (ot ++ []))))))
    (token.Symbol symbol.From ∷ (sp.tokens ++ (sq.tokens ++ (sw.tokens ++ (sg.tokens ++ (so.tokens ++ [])))))) refl
    r6 in
    let r8 = word_symbol symbol.Select (32
    ∷ ((item_text i ++ behind_text (codes ", ") item_text items) ++ 32 ∷ 70 ∷ 82 ∷ 79 ∷ 77 ∷ 32
    ∷ (place_text p ++ (bt ++ (wt ++ (gt ++ (ot ++ []))))))) _ refl refl (space _ _ r7) in
    record {
      tokens = token.Symbol symbol.Select
          ∷ (si.tokens ++ token.Symbol symbol.From
          ∷ (sp.tokens ++ (sq.tokens ++ (sw.tokens ++ (sg.tokens ++ (so.tokens ++ []))))));
      are = at_text _ _ _ _ (whole (item_text i) (behind_text (codes ", ") item_text items) (place_text p) bt wt gt ot)
          refl r8;
      spelled = grammar_of (i ∷ items) p places conds groups keys si.tokens sp.tokens sq.tokens sw.tokens sg.tokens
          so.tokens si.is sp.is sq.is sw.is sg.is so.is;
    }

canonical_of : (items : List RawItem) (places : List RawPlace) (conds : List RawCond) (groups : List RawRef)
    (keys : List RawKey) → is_some items ≡ true → is_some places ≡ true
    → each is_item items ≡ true → each is_place places ≡ true → each is_cond conds ≡ true → each is_ref groups ≡ true
    → each is_key keys ≡ true
    → IsStatementText (canonical_text
    (record { items = items; places = places; conds = conds; groups = groups; order = keys }))
    (record { items = items; places = places; conds = conds; groups = groups; order = keys })
canonical_of [] places conds groups keys a b hi hp hc hg hk = absurd cc
canonical_of (i ∷ items) [] conds groups keys a b hi hp hc hg hk = absurd cc
canonical_of (i ∷ items) (p ∷ places) conds groups keys a b hi hp hc hg hk =
    let si = list_spelled IsItem (codes ", ") symbol.Comma item_text is_item comma_separates item_spelled i items hi in
    let hps = and_parts (is_place p) (each is_place places) hp in
    let sp = place_spelled p hps.0 in
    let sq = all_spelled IsPlace (codes ", ") symbol.Comma place_text is_place comma_separates place_spelled places
    hps.1 in
    canonical_from i items p places conds groups keys si sp sq (where_spelled conds hc) (group_spelled groups hg)
    (order_spelled keys hk)

pub canonical_read : (s : Parts) → IsSound s → IsStatementText (canonical_text s) s
canonical_read s h = canonical_of s.items s.places s.conds s.groups s.order h.selects h.from h.items h.places h.conds
    h.groups h.order
