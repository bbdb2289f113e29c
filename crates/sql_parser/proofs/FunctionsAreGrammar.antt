-- The functions of a text find what the grammar relates to it, and nothing where it relates nothing.
use Rattle.std.proofs.Common.{◌≡◌, ℕ, zero, suc, ◌+◌, ◌<◌, Bool, true, false, cond, ◌&&◌, ◌==◌, nat_eq, Option, Some}
use Rattle.std.proofs.Common.{None, List, [], ◌∷◌, ◌++◌, length, take, drop, find, refl, sym, ◌∙◌, ap, subst, arith}
use Rattle.std.proofs.Common.{eq-eqb, inl, inr}
use Rattle.std.proofs.lemmas.Bool.{eqb-true}
use Rattle.std.proofs.lemmas.List.{length-append}
use Rattle.std.proofs.Math.Seq.{drop-append_seam}
use Rattle.std.proofs.lemmas.Bool.Decides.{nat_tests}
use Rattle.std.specs.Char.{is_ascii_digit, digit_value}
use Rattle.std.specs.List.{prefix_len, starts_with}
use Rattle.std.specs.Str.Parse.{IsNumeral, AllDigits, signed_digits_value}
use Rattle.row_values.specs.declared.values.Value.TheVariants.{Text}
use Rattle.sql_parser.specs.Statement.{Parts, each, is_name, is_i64}
use Rattle.sql_parser.specs.Tokens.{is_white, is_letter, is_name_byte, is_digit_or_minus, is_other, is_spelled}
use Rattle.sql_parser.specs.Tokens.{symbol_text, without_minus, doubled, begins_with, is_quote, IsFirst, AreTokens}
use Rattle.sql_parser.specs.Tokens.{none, next}
use Rattle.sql_parser.specs.Grammar.{IsStatementText}
use Rattle.sql_parser.specs.Reading.{◌>>=◌, statement_at}
use Rattle.sql_parser.specs.Spelled.{after_white, with_byte, unquoted, quoted_name_at, quoted_text_at, number_at}
use Rattle.sql_parser.specs.Spelled.{word_of, word_at, sign_at, first_at, tokens_at, tokens_of, statement_of}
use Rattle.sql_parser.specs.declared.tokens.Symbol.{Symbol}
use Rattle.sql_parser.specs.declared.tokens.Token.{Token}
use Rattle.sql_parser.specs.declared.tokens.Token.TheVariants as token
use Rattle.sql_parser.specs.declared.tokens.TheConstants.{RESERVED, SIGNS}
use Rattle.sql_parser.proofs.FirstTokens.{same_sign_off, fits_tested, tested_fits, number_first, number_none}
use Rattle.sql_parser.proofs.FirstTokens.{name_first, name_open, name_empty, text_first, text_open}
use Rattle.sql_parser.proofs.QuotesClose.{double_at, differ, begins}
use Rattle.sql_parser.proofs.Runs.{run_passes, run_is}
use Rattle.sql_parser.proofs.Scanning.{none_of, name_word, symbol_word}
use Rattle.sql_parser.proofs.TokensOnce.{begins_black, white_back, white_all, first_some, first_once, front_some}
use Rattle.sql_parser.proofs.TokensOnce.{sign_first, sign_none}
use Rattle.sql_parser.proofs.Readers.{bind_some}
use Rattle.sql_parser.proofs.TextsReadOnce.{text_found}
use Rattle.sql_parser.proofs.StatementsAreRead.{statement_again}
use Rattle.std.proofs.lemmas.Bool.{and_from, and_parts, cond_both}

-- ---- between quotes

-- what was found before the closing quote, or that nothing closes
abbrev Closes : ℕ → List ℕ → Option (List ℕ × List ℕ) → Type 0
Closes q text (Some found) = (text ≡ doubled q found.0 ++ q ∷ found.1) × (begins_with (is_quote q) found.1 ≡ false)
Closes q text None = (bytes rest : List ℕ) → text ≡ doubled q bytes ++ q ∷ rest → begins_with (is_quote q) rest ≡ false
    → ⊥

-- no quote stands in nothing
nothing_closes : (q : ℕ) (bytes rest : List ℕ) → [] ≡ doubled q bytes ++ q ∷ rest → ⊥
nothing_closes q bytes rest e =
    let n : 0 ≡ length (doubled q bytes) + suc (length rest) = ap length e
    ∙ length-append (doubled q bytes) (q ∷ rest) in
    omega arith

-- a byte that is no quote
byte_open : (q b : ℕ) (bs : List ℕ) → (b == q) ≡ false → Closes q bs None → (bytes rest : List ℕ)
    → b ∷ bs ≡ doubled q bytes ++ q ∷ rest → begins_with (is_quote q) rest ≡ false → ⊥
byte_open q b bs f h [] rest e s = differ q b f cc
byte_open q b bs f h (d ∷ ds) rest e s = elim (double_at q d ds) [
  | inl k ↦ (let g : b ∷ bs ≡ q ∷ q ∷ doubled q ds ++ q ∷ rest = e ∙ ap (λ z. z ++ q ∷ rest) k.1 in
      let same : b ≡ q = cc in differ q b f same)
  | inr k ↦ (let g : b ∷ bs ≡ d ∷ doubled q ds ++ q ∷ rest = e ∙ ap (λ z. z ++ q ∷ rest) k.1 in
      let t : bs ≡ doubled q ds ++ q ∷ rest = cc in h ds rest t s)
]

byte_closes : (q b : ℕ) (bs : List ℕ) (o : Option (List ℕ × List ℕ)) → (b == q) ≡ false → Closes q bs o
    → Closes q (b ∷ bs) (with_byte b o)
byte_closes q b bs (Some found) f h = (rw f (ap (λ z. b ∷ z) h.0), h.1)
byte_closes q b bs None f h = byte_open q b bs f h

-- a doubled quote
quote_open : (q : ℕ) (bs : List ℕ) → Closes q bs None → (bytes rest : List ℕ) → q ∷ q ∷ bs ≡ doubled q bytes ++ q ∷ rest
    → begins_with (is_quote q) rest ≡ false → ⊥
quote_open q bs h [] rest e s = (let f : rest ≡ q ∷ bs = cc in begins q rest bs f s)
quote_open q bs h (d ∷ ds) rest e s = elim (double_at q d ds) [
  | inl k ↦ (let g : q ∷ q ∷ bs ≡ q ∷ q ∷ doubled q ds ++ q ∷ rest = e ∙ ap (λ z. z ++ q ∷ rest) k.1 in
      let t : bs ≡ doubled q ds ++ q ∷ rest = cc in h ds rest t s)
  | inr k ↦ (let g : q ∷ q ∷ bs ≡ d ∷ doubled q ds ++ q ∷ rest = e ∙ ap (λ z. z ++ q ∷ rest) k.1 in
      let same : d ≡ q = cc in differ q d k.0 same)
]

quote_closes : (q : ℕ) (bs : List ℕ) (o : Option (List ℕ × List ℕ)) → Closes q bs o
    → Closes q (q ∷ q ∷ bs) (with_byte q o)
quote_closes q bs (Some found) h = (rw (eq-eqb q q refl) (ap (λ z. q ∷ q ∷ z) h.0), h.1)
quote_closes q bs None h = quote_open q bs h

-- the bytes with the quote that was read last
abbrev behind : ℕ → Bool → List ℕ → List ℕ
behind q true bs = q ∷ bs
behind q false bs = bs

unquoted_closes : (q : ℕ) (v : Bool) (bs : List ℕ) → Closes q (behind q v bs) (unquoted q v bs)
unquoted_closes q false [] = λ bytes rest e s. nothing_closes q bytes rest e
unquoted_closes q true [] = (refl, refl)
unquoted_closes q false (b ∷ bs) = cond_both (b == q) _ _ (Closes q (b ∷ bs))
    (λ t. let P : ℕ → Type 0 = λ z. Closes q (z ∷ bs) (unquoted q true bs) in
    subst P (sym (eqb-true b q t)) (unquoted_closes q true bs))
    (λ f. byte_closes q b bs (unquoted q false bs) f (unquoted_closes q false bs))
unquoted_closes q true (b ∷ bs) = cond_both (b == q) _ _ (Closes q (q ∷ b ∷ bs))
    (λ t. let P : ℕ → Type 0 = λ z. Closes q (q ∷ z ∷ bs) (with_byte q (unquoted q false bs)) in
    subst P (sym (eqb-true b q t)) (quote_closes q bs (unquoted q false bs) (unquoted_closes q false bs)))
    (λ f. (refl, f))

-- ---- the first token

-- the token that stands there with what follows it, or that none stands there
abbrev Stands : List ℕ → Option (Token × List ℕ) → Type 0
Stands text (Some found) = IsFirst found.0 text found.1
Stands text None = (other : Token) (rest : List ℕ) → IsFirst other text rest → ⊥

some_length : (bytes : List ℕ) → is_name bytes ≡ true → 0 < length bytes
some_length [] e = absurd cc
some_length (b ∷ bs) e = omega arith

some_name : (bytes : List ℕ) → 0 < length bytes → is_name bytes ≡ true
some_name [] l = absurd (omega arith)
some_name (b ∷ bs) l = refl

no_byte : (name : List ℕ) → is_name name ≡ false → length name ≡ 0
no_byte [] e = refl
no_byte (b ∷ bs) e = absurd cc

name_of : (text inside : List ℕ) (o : Option (List ℕ × List ℕ)) → text ≡ 34 ∷ inside → Closes 34 inside o
    → Stands text (o >>= λ found. cond (is_name found.0) (Some (token.Name found.0, found.1)) None)
name_of text inside None t h = name_open text inside t h
name_of text inside (Some found) t h = cond_both (is_name found.0) _ _ (Stands text)
    (λ n. name_first text inside found.0 found.1 t h.0 h.1 n)
    (λ n. name_empty text inside found.0 found.1 t h.0 h.1 (no_byte found.0 n))

text_of : (text inside : List ℕ) (o : Option (List ℕ × List ℕ)) → text ≡ 39 ∷ inside → Closes 39 inside o
    → Stands text (o >>= λ found. Some (token.Literal (Text found.0), found.1))
text_of text inside None t h = text_open text inside t h
text_of text inside (Some found) t h = text_first text inside found.0 found.1 t h.0 h.1

name_stands : (b : ℕ) (bs : List ℕ) → b ≡ 34 → Stands (b ∷ bs) (quoted_name_at bs)
name_stands b bs e = name_of (b ∷ bs) bs (unquoted 34 false bs) (ap (λ z. z ∷ bs) e) (unquoted_closes 34 false bs)

text_stands : (b : ℕ) (bs : List ℕ) → b ≡ 39 → Stands (b ∷ bs) (quoted_text_at bs)
text_stands b bs e = text_of (b ∷ bs) bs (unquoted 39 false bs) (ap (λ z. z ∷ bs) e) (unquoted_closes 39 false bs)

digit_small : (b : ℕ) → is_ascii_digit b ≡ true → digit_value b < 10
digit_small b h = grind (arith, nat_tests)

digits_all : (bs : List ℕ) → each is_ascii_digit bs ≡ true → AllDigits 10 bs
digits_all [] h = tt
digits_all (b ∷ bs) h = let hs = and_parts (is_ascii_digit b) (each is_ascii_digit bs) h in
    (digit_small b hs.0, digits_all bs hs.1)

-- what begins a number and is no minus
plain_digit : (b : ℕ) → is_digit_or_minus b ≡ true → (b == 45) ≡ false → is_ascii_digit b ≡ true
plain_digit b d e = grind (arith, nat_tests)

-- a first byte that may begin a number, and the digits behind it
numeral : (b : ℕ) (bs : List ℕ) → is_digit_or_minus b ≡ true → each is_ascii_digit bs ≡ true
    → is_name (without_minus (b ∷ bs)) ≡ true → IsNumeral 10 (without_minus (b ∷ bs))
numeral b bs d h s =
    let step : (v : Bool) → (b == 45) ≡ v → is_name (cond v bs (b ∷ bs)) ≡ true → IsNumeral 10 (cond v bs (b ∷ bs)) =
    λ v. elim v as (λ v. (b == 45) ≡ v → is_name (cond v bs (b ∷ bs)) ≡ true → IsNumeral 10 (cond v bs (b ∷ bs))) [
      | true ↦ λ e n. (some_length bs n, digits_all bs h)
      | false ↦ λ e n. (omega arith, digits_all (b ∷ bs) (and_from (is_ascii_digit b) _ (plain_digit b d e) h))
    ]
    in step (b == 45) refl s

number_stands : (b : ℕ) (bs : List ℕ) → is_digit_or_minus b ≡ true → Stands (b ∷ bs) (number_at b bs)
number_stands b bs d =
    let ds : List ℕ = take (prefix_len is_ascii_digit bs) bs in
    let P : Option Token → Type 0 =
    λ o. Stands (b ∷ bs) (o >>= λ number. Some (number, drop (prefix_len is_ascii_digit bs) bs)) in
    let same = same_sign_off b ds d in
    cond_both (is_name (without_minus (b ∷ ds)) && is_i64 (signed_digits_value 10 (b ∷ ds))) _ _ P
    (λ t. let ts = and_parts _ _ t in
    number_first b bs (signed_digits_value 10 (b ∷ ds)) d (rw same (numeral b ds d (run_passes is_ascii_digit bs) ts.0))
    (tested_fits _ ts.1) refl)
    (λ f. number_none b bs d (λ h. let n : IsNumeral 10 (without_minus (b ∷ ds)) = rw same at h.0 in
    let t = and_from _ _ (some_name (without_minus (b ∷ ds)) n.0) (fits_tested _ h.1) in cc))

word_by : (text : List ℕ) (o : Option Symbol) → begins_with is_letter text ≡ true
    → find (λ m. is_spelled (take (prefix_len is_name_byte text) text) m) RESERVED ≡ o
    → IsFirst (word_of (take (prefix_len is_name_byte text) text) o) text (drop (prefix_len is_name_byte text) text)
word_by text None l e = name_word text (take (prefix_len is_name_byte text) text) l refl e
word_by text (Some m) l e = symbol_word text (take (prefix_len is_name_byte text) text) m l refl e

word_stands : (b : ℕ) (bs : List ℕ) → is_letter b ≡ true → Stands (b ∷ bs) (Some (word_at (b ∷ bs)))
word_stands b bs l = word_by (b ∷ bs)
    (find (λ m. is_spelled (take (prefix_len is_name_byte (b ∷ bs)) (b ∷ bs)) m) RESERVED) l refl

sign_by : (b : ℕ) (bs : List ℕ) (o : Option Symbol) → is_other b ≡ false
    → find (λ m. starts_with nat_eq (b ∷ bs) (symbol_text m)) SIGNS ≡ o
    → Stands (b ∷ bs) (o >>= λ sign. Some (token.Symbol sign, drop (length (symbol_text sign)) (b ∷ bs)))
sign_by b bs None o e = sign_none b bs o e
sign_by b bs (Some m) o e = sign_first b bs m o e

sign_stands : (b : ℕ) (bs : List ℕ) → is_other b ≡ false → Stands (b ∷ bs) (sign_at (b ∷ bs))
sign_stands b bs o = sign_by b bs (find (λ m. starts_with nat_eq (b ∷ bs) (symbol_text m)) SIGNS) o refl

first_stands : (text : List ℕ) → Stands text (first_at text)
first_stands [] = λ other rest first. first_some other rest first
first_stands (b ∷ bs) =
    let P : Option (Token × List ℕ) → Type 0 = Stands (b ∷ bs) in
    cond_both (b == 34) _ _ P (λ e. name_stands b bs (eqb-true b 34 e)) (λ q.
    cond_both (b == 39) _ _ P (λ e. text_stands b bs (eqb-true b 39 e)) (λ p.
    cond_both (is_digit_or_minus b) _ _ P (λ d. number_stands b bs d) (λ d.
    cond_both (is_letter b) _ _ P (λ l. word_stands b bs l)
    (λ l. sign_stands b bs (none_of (is_letter b) (is_digit_or_minus b) (b == 34) (b == 39) l d q p)))))

-- what is found is a token that stands there, and what stands there is found
pub first_sound : (text : List ℕ) (found : Token × List ℕ) → first_at text ≡ Some found → IsFirst found.0 text found.1
first_sound text found e = let P : Option (Token × List ℕ) → Type 0 = λ o. Stands text o in
    subst P e (first_stands text)

same_first : (text : List ℕ) (o : Option (Token × List ℕ)) (t : Token) (rest : List ℕ) → Stands text o
    → IsFirst t text rest → o ≡ Some (t, rest)
same_first text None t rest h first = absurd (h t rest first)
same_first text (Some found) t rest h first = let e = first_once found.0 t text found.1 rest h first in
    ap (λ z. Some (z, found.1)) e.0 ∙ ap (λ z. Some (t, z)) e.1

pub first_again : (text : List ℕ) (t : Token) (rest : List ℕ) → IsFirst t text rest → first_at text ≡ Some (t, rest)
first_again text t rest first = same_first text (first_at text) t rest (first_stands text) first

-- ---- all tokens

tokens_sound : (n : ℕ) (text : List ℕ) (tokens : List Token) → tokens_at n text ≡ Some tokens → AreTokens text tokens
tokens_sound zero text tokens e = absurd cc
tokens_sound (suc n) [] tokens e =
    (let P : List Token → Type 0 = λ z. AreTokens [] z in let same : [] ≡ tokens = cc in
    subst P same (none {white = []} refl))
tokens_sound (suc n) (b ∷ bs) tokens e =
    let f = bind_some (first_at (b ∷ bs))
    (λ first. (tokens_at n (after_white first.1) >>= λ more. Some (first.0 ∷ more))) tokens e in
    let m = bind_some (tokens_at n (after_white f.0.1)) (λ more. Some (f.0.0 ∷ more)) tokens f.2 in
    let P : List Token → Type 0 = λ z. AreTokens (b ∷ bs) z in
    let same : f.0.0 ∷ m.0 ≡ tokens = (let g = m.2 in cc) in
    subst P same (next [] (b ∷ bs) f.0.1 refl (first_sound (b ∷ bs) f.0 f.1)
    (white_back f.0.1 m.0 (tokens_sound n (after_white f.0.1) m.0 m.1)))

-- one token more
one_more : (n : ℕ) (t : Token) (text rest : List ℕ) (tokens : List Token) → IsFirst t text rest
    → tokens_at n (after_white rest) ≡ Some tokens → tokens_at (suc n) text ≡ Some (t ∷ tokens)
one_more n t [] rest tokens first e = absurd (first_some t rest first)
one_more n t (b ∷ bs) rest tokens first e = rw (first_again (b ∷ bs) t rest first, e) refl

shorter : (w t rest : List ℕ) (first : Token) → IsFirst first t rest → length rest < length (w ++ t)
shorter w t rest first f =
    let n : length (w ++ t) ≡ length w + length t = length-append w t in
    let m : length t ≡ length f.prefix + length rest = ap length f.whole ∙ length-append f.prefix rest in
    let l = front_some first f.prefix rest f.spelled in
    omega arith

tokens_again : (n : ℕ) (text : List ℕ) (tokens : List Token) → AreTokens text tokens → length text < n
    → tokens_at n (after_white text) ≡ Some tokens
tokens_again zero text tokens are l = absurd (omega arith)
tokens_again (suc n) text tokens (none k) l = rw (white_all text k) refl
tokens_again (suc n) text tokens (next w t rest {first} {tokens = more} k f are) l =
    let black : after_white (w ++ t) ≡ t =
    rw (run_is is_white w t k (begins_black first t rest f)) (drop-append_seam w t) in
    let s = shorter w t rest first f in
    ap (tokens_at (suc n)) black ∙ one_more n first t rest more f (tokens_again n rest more are (omega arith))

-- ---- the statement

pub spelled_only : (text : List ℕ) (s : Parts) → statement_of text ≡ Some s → IsStatementText text s
unfolding statement_of tokens_of
spelled_only text s e =
    let t = bind_some (tokens_of text) (λ tokens. (statement_at tokens >>= λ read. Some read.0)) s e in
    let r = bind_some (statement_at t.0) (λ read. Some read.0) s t.2 in
    let same : r.0.0 ≡ s = (let g = r.2 in cc) in
    let P : Parts → Type 0 = λ z. IsStatementText text z in
    subst P same (text_found text t.0 r.0.0 r.0.1
    (white_back text t.0 (tokens_sound (suc (length text)) (after_white text) t.0 t.1)) r.1)

pub spelled_all : (text : List ℕ) (s : Parts) → IsStatementText text s → statement_of text ≡ Some s
unfolding statement_of tokens_of
spelled_all text s is = rw (
  tokens_again (suc (length text)) text is.tokens is.are (omega arith),
  statement_again s is.tokens is.spelled,
) refl

pub spelled_none : (text : List ℕ) → ((s : Parts) → IsStatementText text s → ⊥) → statement_of text ≡ None
spelled_none text h =
    let step : (o : Option Parts) → statement_of text ≡ o → o ≡ None =
    λ o. elim o as (λ o. statement_of text ≡ o → o ≡ None) [
      | None ↦ λ e. refl
      | Some s ↦ λ e. absurd (h s (spelled_only text s e))
    ]
    in step (statement_of text) refl
