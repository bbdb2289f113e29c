-- The token at the front of a text, for each kind of first byte.
use Rattle.std.proofs.Common.{◌≡◌, ℕ, ◌≤◌, ◌≢◌, ℤ, pos, negsuc, Bool, true, false, cond, ◌==◌, List}
use Rattle.std.proofs.Common.{[], ◌∷◌, ◌++◌, length, take, drop, refl, sym, ◌∙◌, ap, subst, arith, one-add, w64}
use Rattle.std.proofs.lemmas.Bool.Decides.{nat_tests}
use Rattle.std.proofs.lemmas.List.{take-append-drop, append_assoc}
use Rattle.std.proofs.lemmas.List.Folds.{length-prefix_len}
use Rattle.std.proofs.lemmas.Str.Parse.{without_leading_plus_none}
use Rattle.std.proofs.Math.Seq.{take-append_seam, drop-append_seam}
use Rattle.std.specs.Char.{is_ascii_digit}
use Rattle.std.specs.Int.RustNames.{FitsSigned}
use Rattle.std.specs.List.{prefix_len}
use Rattle.std.specs.Str.Parse.{IsNumeral, signed_digits_value, without_leading_sign, without_leading_plus}
use Rattle.row_values.specs.declared.values.Value.TheVariants.{Int, Text}
use Rattle.sql_parser.specs.Statement.{is_name, is_i64}
use Rattle.sql_parser.specs.Tokens.{is_letter, is_name_byte, doubled, quoted, without_minus, Spells}
use Rattle.sql_parser.specs.Tokens.{quoted_name, whole_number, quoted_text, begins_with, is_quote, is_digit_or_minus}
use Rattle.sql_parser.specs.Tokens.{IsFirst}
use Rattle.sql_parser.specs.declared.tokens.Token.{Token}
use Rattle.sql_parser.specs.declared.tokens.Token.TheVariants as token
use Rattle.sql_parser.proofs.PlainWords.{is_word}
use Rattle.sql_parser.proofs.QuotesClose.{quoted_once}
use Rattle.sql_parser.proofs.Runs.{run_passes, run_stops, run_longest, run_is}
use Rattle.sql_parser.proofs.TokenShapes.{nothing_spells, word_shape, number_shape, name_shape, text_shape}
use Rattle.sql_parser.proofs.TokenShapes.{letter_goes_on, NumberToken, NameToken, TextToken}
use Rattle.std.proofs.lemmas.Bool.{and_from}

-- words
pub word_front : (b : ℕ) (bs : List ℕ) → is_letter b ≡ true
    → take (prefix_len is_name_byte (b ∷ bs)) (b ∷ bs) ≡ b ∷ take (prefix_len is_name_byte bs) bs
word_front b bs l = rw (letter_goes_on b l, one-add (prefix_len is_name_byte bs)) refl

pub word_is : (b : ℕ) (bs : List ℕ) → is_letter b ≡ true → is_word (take (prefix_len is_name_byte (b ∷ bs)) (b ∷ bs))
    ≡ true
word_is b bs l = rw (word_front b bs l) (and_from (is_letter b) _ l (run_passes is_name_byte bs))

word_longest : (b : ℕ) (bs : List ℕ) → is_letter b ≡ true → (other : Token) (bytes more : List ℕ)
    → b ∷ bs ≡ bytes ++ more → Spells other bytes more
    → length bytes ≤ prefix_len is_name_byte (b ∷ bs)
word_longest b bs l other [] more e s = absurd (nothing_spells other more s)
word_longest b bs l other (x ∷ xs) more e s =
    let same : b ≡ x = cc in
    let lx : is_letter x ≡ true = rw (← same) l in
    let P : List ℕ → Type 0 = λ w. length (x ∷ xs) ≤ prefix_len is_name_byte w in
    subst P (sym e) (run_longest is_name_byte (x ∷ xs) more (word_shape other x xs more lx s).0)

pub word_first : (t : Token) (b : ℕ) (bs : List ℕ) → is_letter b ≡ true
    → Spells t (take (prefix_len is_name_byte (b ∷ bs)) (b ∷ bs)) (drop (prefix_len is_name_byte (b ∷ bs)) (b ∷ bs))
    → IsFirst t (b ∷ bs) (drop (prefix_len is_name_byte (b ∷ bs)) (b ∷ bs))
word_first t b bs l s = record {
  prefix = take (prefix_len is_name_byte (b ∷ bs)) (b ∷ bs);
  whole = sym (take-append-drop (prefix_len is_name_byte (b ∷ bs)) (b ∷ bs));
  spelled = s;
  longest = λ other bytes more e sp. let n = word_longest b bs l other bytes more e sp in
      rw (length-prefix_len is_name_byte (b ∷ bs)) n;
}

-- numbers
pub same_sign_off : (b : ℕ) (bs : List ℕ) → is_digit_or_minus b ≡ true
    → without_leading_sign (b ∷ bs) ≡ without_minus (b ∷ bs)
same_sign_off b bs d =
    let plus : b ≢ 43 = λ e. (let P : ℕ → Type 0 = λ y. is_digit_or_minus y ≡ true in
    let f : is_digit_or_minus 43 ≡ true = subst P e d in cc) in
    let step : (v : Bool) → cond v bs (without_leading_plus (b ∷ bs)) ≡ cond v bs (b ∷ bs) =
    λ v. elim v as (λ v. cond v bs (without_leading_plus (b ∷ bs)) ≡ cond v bs (b ∷ bs)) [
      | true ↦ refl
      | false ↦ without_leading_plus_none (b ∷ bs) plus
    ]
    in step (b == 45)

pub fits_tested : (z : ℤ) → FitsSigned w64 z → is_i64 z ≡ true
fits_tested (pos n) f = grind (arith, nat_tests)
fits_tested (negsuc n) f = grind (arith, nat_tests)

pub tested_fits : (z : ℤ) → is_i64 z ≡ true → FitsSigned w64 z
tested_fits (pos n) f = grind (arith, nat_tests)
tested_fits (negsuc n) f = grind (arith, nat_tests)

-- any number that stands at the front takes the digits that stand there
number_extent : (b : ℕ) (bs : List ℕ) → is_digit_or_minus b ≡ true → (other : Token) (bytes more : List ℕ)
    → b ∷ bs ≡ bytes ++ more → Spells other bytes more
    → (bytes ≡ b ∷ take (prefix_len is_ascii_digit bs) bs) × (more ≡ drop (prefix_len is_ascii_digit bs) bs)
    × NumberToken other (b ∷ take (prefix_len is_ascii_digit bs) bs) more
number_extent b bs d other [] more e s = absurd (nothing_spells other more s)
number_extent b bs d other (x ∷ xs) more e s =
    let same : b ≡ x = cc in
    let tail : bs ≡ xs ++ more = cc in
    let dx : is_digit_or_minus x ≡ true = rw (← same) d in
    let shape = number_shape other x xs more dx s in
    let run : prefix_len is_ascii_digit bs ≡ length xs =
    rw tail (run_is is_ascii_digit xs more shape.0 shape.1.stops) in
    let prefix : take (prefix_len is_ascii_digit bs) bs ≡ xs = rw (run, tail) (take-append_seam xs more) in
    let rest : drop (prefix_len is_ascii_digit bs) bs ≡ more = rw (run, tail) (drop-append_seam xs more) in
    let P : List ℕ → Type 0 = λ w. NumberToken other w more in
    let whole : x ∷ xs ≡ b ∷ take (prefix_len is_ascii_digit bs) bs = cc in
    (whole, sym rest, subst P whole shape.1)

pub number_first : (b : ℕ) (bs : List ℕ) (z : ℤ) → is_digit_or_minus b ≡ true
    → IsNumeral 10 (without_leading_sign (b ∷ take (prefix_len is_ascii_digit bs) bs))
    → FitsSigned w64 (signed_digits_value 10 (b ∷ take (prefix_len is_ascii_digit bs) bs))
    → z ≡ signed_digits_value 10 (b ∷ take (prefix_len is_ascii_digit bs) bs)
    → IsFirst (token.Literal (Int z)) (b ∷ bs) (drop (prefix_len is_ascii_digit bs) bs)
number_first b bs z d n f e =
    let prefix : List ℕ = b ∷ take (prefix_len is_ascii_digit bs) bs in
    let P : ℤ → Type 0 = λ y. Spells (token.Literal (Int y)) (b ∷ take (prefix_len is_ascii_digit bs) bs)
    (drop (prefix_len is_ascii_digit bs) bs) in
    let numeral : IsNumeral 10 (without_minus (b ∷ take (prefix_len is_ascii_digit bs) bs)) =
    rw (same_sign_off b (take (prefix_len is_ascii_digit bs) bs) d) at n in
    record {
      prefix = b ∷ take (prefix_len is_ascii_digit bs) bs;
      whole = ap (λ w. b ∷ w) (sym (take-append-drop (prefix_len is_ascii_digit bs) bs));
      spelled = subst P (sym e) (whole_number numeral (fits_tested _ f) (run_stops is_ascii_digit bs));
      longest = λ other bytes more w sp. let g = (number_extent b bs d other bytes more w sp).0 in
          omega (arith, ap length g);
    }

pub number_none : (b : ℕ) (bs : List ℕ) → is_digit_or_minus b ≡ true
    → (IsNumeral 10 (without_leading_sign (b ∷ take (prefix_len is_ascii_digit bs) bs))
    × FitsSigned w64 (signed_digits_value 10 (b ∷ take (prefix_len is_ascii_digit bs) bs)) → ⊥)
    → (other : Token) (rest : List ℕ) → IsFirst other (b ∷ bs) rest → ⊥
number_none b bs d not_one other rest first =
    let found = (number_extent b bs d other first.prefix rest first.whole first.spelled).2 in
    not_one (rw (same_sign_off b (take (prefix_len is_ascii_digit bs) bs) d) (found.numeral), tested_fits _ found.fits)

-- quotes: what stands between two
closed : (q : ℕ) (inside xs content more : List ℕ) → inside ≡ xs ++ more → xs ≡ doubled q content ++ q ∷ []
    → inside ≡ doubled q content ++ q ∷ more
closed q inside xs content more e f = e ∙ ap (λ w. w ++ more) f ∙ append_assoc (doubled q content) (q ∷ []) more

-- a name at the front of a text that begins with a double quote
record NameAt (inside : List ℕ) (other : Token) (bytes more : List ℕ) : Type 0 where
  name : List ℕ
  token : other ≡ token.Name name
  some : is_name name ≡ true
  content : inside ≡ doubled 34 name ++ 34 ∷ more
  stops : begins_with (is_quote 34) more ≡ false
  spelled : bytes ≡ quoted 34 name

name_at_content : (inside : List ℕ) (other : Token) (x : ℕ) (xs more : List ℕ) → x ≡ 34 → inside ≡ xs ++ more
    → NameToken other xs more → NameAt inside other (x ∷ xs) more
name_at_content inside other x xs more same tail shape = record {
  name = shape.name;
  token = shape.token;
  some = shape.some;
  content = closed 34 inside xs shape.name more tail shape.content;
  stops = shape.stops;
  spelled = (let c = shape.content in cc);
}

name_at : (inside : List ℕ) (other : Token) (bytes more : List ℕ) → 34 ∷ inside ≡ bytes ++ more
    → Spells other bytes more → NameAt inside other bytes more
name_at inside other [] more e s = absurd (nothing_spells other more s)
name_at inside other (x ∷ xs) more e s =
    let same : x ≡ 34 = cc in
    let tail : inside ≡ xs ++ more = cc in
    let P : ℕ → Type 0 = λ y. Spells other (y ∷ xs) more in
    name_at_content inside other x xs more same tail (name_shape other xs more (subst P same s))

record TextAt (inside : List ℕ) (other : Token) (bytes more : List ℕ) : Type 0 where
  text : List ℕ
  token : other ≡ token.Literal (Text text)
  content : inside ≡ doubled 39 text ++ 39 ∷ more
  stops : begins_with (is_quote 39) more ≡ false
  spelled : bytes ≡ quoted 39 text

text_at_content : (inside : List ℕ) (other : Token) (x : ℕ) (xs more : List ℕ) → x ≡ 39 → inside ≡ xs ++ more
    → TextToken other xs more → TextAt inside other (x ∷ xs) more
text_at_content inside other x xs more same tail shape = record {
  text = shape.text;
  token = shape.token;
  content = closed 39 inside xs shape.text more tail shape.content;
  stops = shape.stops;
  spelled = (let c = shape.content in cc);
}

text_at : (inside : List ℕ) (other : Token) (bytes more : List ℕ) → 39 ∷ inside ≡ bytes ++ more
    → Spells other bytes more → TextAt inside other bytes more
text_at inside other [] more e s = absurd (nothing_spells other more s)
text_at inside other (x ∷ xs) more e s =
    let same : x ≡ 39 = cc in
    let tail : inside ≡ xs ++ more = cc in
    let P : ℕ → Type 0 = λ y. Spells other (y ∷ xs) more in
    text_at_content inside other x xs more same tail (text_shape other xs more (subst P same s))

-- what closes at its quote is the longest
quoted_longest : (q : ℕ) (inside content more other_content other_more : List ℕ)
    → inside ≡ doubled q content ++ q ∷ more → begins_with (is_quote q) more ≡ false
    → inside ≡ doubled q other_content ++ q ∷ other_more → begins_with (is_quote q) other_more ≡ false
    → quoted q other_content ≡ quoted q content
quoted_longest q inside content more other_content other_more e s f t =
    ap (λ w. quoted q w) (quoted_once q other_content content other_more more (sym f ∙ e) t s).0

quoted_whole : (q : ℕ) (text inside content more : List ℕ) → text ≡ q ∷ inside → inside ≡ doubled q content ++ q ∷ more
    → text ≡ quoted q content ++ more
quoted_whole q text inside content more t e = t ∙ ap (λ w. q ∷ w) e
    ∙ ap (λ w. q ∷ w) (sym (append_assoc (doubled q content) (q ∷ []) more))

pub name_first : (text inside name more : List ℕ) → text ≡ 34 ∷ inside → inside ≡ doubled 34 name ++ 34 ∷ more
    → begins_with (is_quote 34) more ≡ false → is_name name ≡ true
    → IsFirst (token.Name name) text more
name_first text inside name more t e s n = record {
  prefix = quoted 34 name;
  whole = quoted_whole 34 text inside name more t e;
  spelled = quoted_name n s;
  longest = λ other bytes rest w sp.
      let found = name_at inside other bytes rest (sym t ∙ w) sp in
      let same : bytes ≡ quoted 34 name = found.spelled
      ∙ quoted_longest 34 inside name more found.name rest e s found.content found.stops in
      omega (arith, ap length same);
}

pub text_first : (text inside content more : List ℕ) → text ≡ 39 ∷ inside → inside ≡ doubled 39 content ++ 39 ∷ more
    → begins_with (is_quote 39) more ≡ false
    → IsFirst (token.Literal (Text content)) text more
text_first text inside content more t e s = record {
  prefix = quoted 39 content;
  whole = quoted_whole 39 text inside content more t e;
  spelled = quoted_text s;
  longest = λ other bytes rest w sp.
      let found = text_at inside other bytes rest (sym t ∙ w) sp in
      let same : bytes ≡ quoted 39 content = found.spelled
      ∙ quoted_longest 39 inside content more found.text rest e s found.content found.stops in
      omega (arith, ap length same);
}

-- an open quote, or nothing between two, is no name; an open quote is no text
pub name_open : (text inside : List ℕ) → text ≡ 34 ∷ inside
    → ((bytes rest : List ℕ) → inside ≡ doubled 34 bytes ++ 34 ∷ rest → begins_with (is_quote 34) rest ≡ false → ⊥)
    → (other : Token) (rest : List ℕ) → IsFirst other text rest → ⊥
name_open text inside t open_ other rest first =
    let found = name_at inside other first.prefix rest (sym t ∙ first.whole) first.spelled in
    open_ found.name rest found.content found.stops

pub name_empty : (text inside name more : List ℕ) → text ≡ 34 ∷ inside → inside ≡ doubled 34 name ++ 34 ∷ more
    → begins_with (is_quote 34) more ≡ false → length name ≡ 0
    → (other : Token) (rest : List ℕ) → IsFirst other text rest → ⊥
name_empty text inside [] more t e s z other rest first =
    let found = name_at inside other first.prefix rest (sym t ∙ first.whole) first.spelled in
    let same : found.name ≡ [] = (quoted_once 34 found.name [] rest more (sym found.content ∙ e) found.stops s).0 in
    let P : List ℕ → Type 0 = λ w. is_name w ≡ true in
    let f : is_name [] ≡ true = subst P same found.some in cc
name_empty text inside (x ∷ name) more t e s z other rest first = absurd (omega (arith, z))

pub text_open : (text inside : List ℕ) → text ≡ 39 ∷ inside
    → ((bytes rest : List ℕ) → inside ≡ doubled 39 bytes ++ 39 ∷ rest → begins_with (is_quote 39) rest ≡ false → ⊥)
    → (other : Token) (rest : List ℕ) → IsFirst other text rest → ⊥
text_open text inside t open_ other rest first =
    let found = text_at inside other first.prefix rest (sym t ∙ first.whole) first.spelled in
    open_ found.text rest found.content found.stops
