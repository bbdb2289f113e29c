-- What each scanning function finds, as its contract says it.
use Rattle.std.proofs.Common.{◌≡◌, ℕ, zero, suc, ◌+◌, ◌<◌, ◌≢◌, ℤ, Bool, true, false, ◌||◌, not, nat_lt, nat_eq, ◌==◌}
use Rattle.std.proofs.Common.{Some, None, List, [], ◌∷◌, ◌++◌, length, get_or, take, drop, find, refl, sym, ◌∙◌, ap}
use Rattle.std.proofs.Common.{subst, arith, add-one, one-add, w64}
use Rattle.std.proofs.lemmas.Bool.Decides.{nat_tests}
use Rattle.std.proofs.lemmas.List.{append_assoc}
use Rattle.std.specs.Char.{is_ascii_digit}
use Rattle.std.specs.Int.RustNames.{FitsSigned}
use Rattle.std.specs.List.{prefix_len, starts_with}
use Rattle.std.specs.Str.Parse.{IsNumeral, signed_digits_value, without_leading_sign}
use Rattle.row_values.specs.declared.values.Value.TheVariants.{Int, Text}
use Rattle.sql_parser.specs.Statement.{each, is_name}
use Rattle.sql_parser.specs.Tokens.{is_letter, is_name_byte, symbol_text, is_spelled, doubled, plain_name}
use Rattle.sql_parser.specs.Tokens.{reserved_or_sign, begins_with, is_quote, is_digit_or_minus, is_other, IsFirst}
use Rattle.sql_parser.specs.declared.tokens.Symbol.{Symbol}
use Rattle.sql_parser.specs.declared.tokens.Token.{Token}
use Rattle.sql_parser.specs.declared.tokens.Token.TheVariants as token
use Rattle.sql_parser.specs.declared.tokens.TheConstants.{RESERVED, SIGNS}
use Rattle.sql_parser.proofs.PlainWords.{is_reserved, word_plain}
use Rattle.sql_parser.proofs.QuotesClose.{unclosed}
use Rattle.std.proofs.Common.{◌-◌}
use Rattle.std.proofs.lemmas.Bool.{eqb-true}
use Rattle.std.proofs.lemmas.List.{length-append}
use Rattle.std.proofs.lemmas.List.Sums.{prefix_len-le-length, prefix_len_passes}
use Rattle.std.proofs.lemmas.Str.{IsCharBoundary-after_ascii, IsCharBoundary-from_rest, IsUtf8-drop}
use Rattle.std.specs.Str.{IsUtf8, IsCharBoundary}
use Rattle.sql_parser.specs.Tokens.{Unquotes}
use Rattle.sql_parser.proofs.QuotesClose.{doubled_plain, doubled_append, doubled_quote}
use Rattle.sql_parser.proofs.Runs.{cut_at, cut_behind}
use Rattle.sql_parser.proofs.TokenShapes.{name_byte_ascii}
use Rattle.sql_parser.proofs.FirstTokens.{word_is, word_first, number_first, number_none, name_first, name_empty}
use Rattle.sql_parser.proofs.FirstTokens.{text_first}
use Rattle.sql_parser.proofs.TokensOnce.{sign_first, sign_none, sign_whole, first_some}
use Rattle.sql_parser.proofs.Symbols.{every, find_passes, none_passes}
use Rattle.std.proofs.lemmas.Bool.{and_from, and_parts}

digit_ascii : (b : ℕ) → is_ascii_digit b ≡ true → b < 128
digit_ascii b h = grind (arith, nat_tests)

first_ascii : (b : ℕ) → is_digit_or_minus b ≡ true → b < 128
first_ascii b h = grind (arith, nat_tests)

number_byte : (b : ℕ) (bs : List ℕ) → is_digit_or_minus b ≡ true → (m : ℕ) → suc m ≡ 1 + prefix_len is_ascii_digit bs
    → get_or (b ∷ bs) m 0 < 128
number_byte b bs d zero e = first_ascii b d
number_byte b bs d (suc m) e = digit_ascii _ (prefix_len_passes is_ascii_digit bs m 0 (omega arith))

-- all that stands behind the first byte
take_all : (xs : List ℕ) → take (length xs) xs ≡ xs
take_all [] = refl
take_all (x ∷ xs) = ap (λ z. x ∷ z) (take_all xs)

pub all_behind : (xs : List ℕ) → take (length xs - 1) (drop 1 xs) ≡ drop 1 xs
all_behind [] = refl
all_behind (x ∷ xs) = let e : length (x ∷ xs) - 1 ≡ length xs = omega arith in rw e (take_all xs)

-- numbers
pub number_cut : (text : List ℕ) → begins_with is_digit_or_minus text ≡ true → IsUtf8 text
    → IsCharBoundary text (1 + prefix_len is_ascii_digit (drop 1 text))
number_cut [] d u = cc
number_cut (b ∷ bs) d u = cut_at (b ∷ bs) (1 + prefix_len is_ascii_digit bs) u (let n =
    prefix_len-le-length is_ascii_digit bs in omega arith) (number_byte b bs d)

pub number_found : (text prefix : List ℕ) (z : ℤ) → begins_with is_digit_or_minus text ≡ true
    → prefix ≡ take (1 + prefix_len is_ascii_digit (drop 1 text)) text
    → (IsNumeral 10 (without_leading_sign prefix) × FitsSigned w64 (signed_digits_value 10 prefix))
    × (z ≡ signed_digits_value 10 prefix)
    → IsFirst (token.Literal (Int z)) text (drop (1 + prefix_len is_ascii_digit (drop 1 text)) text)
number_found [] prefix z d e f = cc
number_found (b ∷ bs) prefix z d e f =
    let g : prefix ≡ b ∷ take (prefix_len is_ascii_digit bs) bs = e
    ∙ rw (one-add (prefix_len is_ascii_digit bs)) refl in
    let P : List ℕ → Type 0 = λ w. IsNumeral 10 (without_leading_sign w) in
    let Q : List ℕ → Type 0 = λ w. FitsSigned w64 (signed_digits_value 10 w) in
    let R : List ℕ → Type 0 = λ w. z ≡ signed_digits_value 10 w in
    let first = number_first b bs z d (subst P g f.0.0) (subst Q g f.0.1) (subst R g f.1) in
    let S : ℕ → Type 0 = λ n. IsFirst (token.Literal (Int z)) (b ∷ bs) (drop n (b ∷ bs)) in
    subst S (sym (one-add (prefix_len is_ascii_digit bs))) first

pub number_lost : (text prefix : List ℕ) → begins_with is_digit_or_minus text ≡ true
    → prefix ≡ take (1 + prefix_len is_ascii_digit (drop 1 text)) text
    → (IsNumeral 10 (without_leading_sign prefix) × FitsSigned w64 (signed_digits_value 10 prefix) → ⊥)
    → (other : Token) (rest : List ℕ) → IsFirst other text rest → ⊥
number_lost [] prefix d e f other rest first = cc
number_lost (b ∷ bs) prefix d e f other rest first =
    let g : prefix ≡ b ∷ take (prefix_len is_ascii_digit bs) bs = e
    ∙ rw (one-add (prefix_len is_ascii_digit bs)) refl in
    let P : List ℕ → Type 0 = λ w. IsNumeral 10 (without_leading_sign w) × FitsSigned w64 (signed_digits_value 10 w)
    → ⊥ in
    number_none b bs d (subst P g f) other rest first

-- words
pub word_cut : (text : List ℕ) → IsUtf8 text → IsCharBoundary text (prefix_len is_name_byte text)
word_cut text u = cut_behind is_name_byte text name_byte_ascii u

pub name_word : (text word : List ℕ) → begins_with is_letter text ≡ true
    → word ≡ take (prefix_len is_name_byte text) text
    → find (λ m. is_spelled word m) RESERVED ≡ None
    → IsFirst (token.Name word) text (drop (prefix_len is_name_byte text) text)
name_word [] word l e f = cc
name_word (b ∷ bs) word l e f =
    let P : List ℕ → Type 0 = λ w. IsFirst (token.Name w) (b ∷ bs) (drop (prefix_len is_name_byte (b ∷ bs)) (b ∷ bs)) in
    let Q : List ℕ → Type 0 = λ w. is_reserved w ≡ false in
    subst P (sym e) (word_first _ b bs l
    (plain_name (word_plain (take (prefix_len is_name_byte (b ∷ bs)) (b ∷ bs)) (word_is b bs l)
    (subst Q e (none_passes (λ m. is_spelled word m) RESERVED f)))))

pub symbol_word : (text word : List ℕ) (m : Symbol) → begins_with is_letter text ≡ true
    → word ≡ take (prefix_len is_name_byte text) text
    → find (λ m. is_spelled word m) RESERVED ≡ Some m
    → IsFirst (token.Symbol m) text (drop (prefix_len is_name_byte text) text)
symbol_word [] word m l e f = cc
symbol_word (b ∷ bs) word m l e f =
    let Q : List ℕ → Type 0 = λ w. is_spelled w m ≡ true in
    word_first _ b bs l (reserved_or_sign (subst Q e (find_passes (λ m. is_spelled word m) RESERVED m f)))

-- signs
ltb_small : (b : ℕ) → nat_lt b 128 ≡ true → b < 128
ltb_small b h = grind (arith, nat_tests)

get_or-append_left : (xs ys : List ℕ) (k : ℕ) → k < length xs → get_or (xs ++ ys) k 0 ≡ get_or xs k 0
get_or-append_left [] ys k l = absurd (omega arith)
get_or-append_left (x ∷ xs) ys zero l = refl
get_or-append_left (x ∷ xs) ys (suc k) l = get_or-append_left xs ys k (omega arith)

byte_ascii : (w : List ℕ) → each (λ b. nat_lt b 128) w ≡ true → (k : ℕ) → k < length w → get_or w k 0 < 128
byte_ascii [] h k l = absurd (omega arith)
byte_ascii (b ∷ w) h zero l = ltb_small b (and_parts (nat_lt b 128) _ h).0
byte_ascii (b ∷ w) h (suc k) l = byte_ascii w (and_parts (nat_lt b 128) _ h).1 k (omega arith)

sign_ascii : (m : Symbol) (k : ℕ) → suc k ≡ length (symbol_text m) → get_or (symbol_text m) k 0 < 128
sign_ascii m k e = byte_ascii (symbol_text m) (every (λ m. each (λ b. nat_lt b 128) (symbol_text m)) refl m) k
    (omega arith)

sign_byte : (text : List ℕ) (m : Symbol) (rest : List ℕ) (k : ℕ) → text ≡ symbol_text m ++ rest
    → suc k ≡ length (symbol_text m) → get_or text k 0 < 128
sign_byte text m rest k w e =
    let same : get_or text k 0 ≡ get_or (symbol_text m) k 0 =
    rw w (get_or-append_left (symbol_text m) rest k (omega arith)) in
    let small = sign_ascii m k e in omega arith

sign_cut : (text spelling : List ℕ) (m : Symbol) (rest : List ℕ) → spelling ≡ symbol_text m
    → text ≡ symbol_text m ++ rest → IsUtf8 text → IsCharBoundary text (length spelling)
sign_cut text spelling m rest f w u =
    let n : length text ≡ length (symbol_text m) + length rest = ap length w ∙ length-append (symbol_text m) rest in
    let P : List ℕ → Type 0 = λ z. IsCharBoundary text (length z) in
    subst P (sym f) (cut_at text (length (symbol_text m)) u (omega arith) (λ k e. sign_byte text m rest k w e))

pub sign_found : (text spelling : List ℕ) (m : Symbol) → begins_with is_other text ≡ false
    → find (λ n. starts_with nat_eq text (symbol_text n)) SIGNS ≡ Some m
    → spelling ≡ symbol_text m → IsUtf8 text
    → IsFirst (token.Symbol m) text (drop (length spelling) text) × IsCharBoundary text (length spelling)
sign_found [] spelling m o e f u = cc
sign_found (b ∷ bs) spelling m o e f u =
    let P : List ℕ → Type 0 = λ w. IsFirst (token.Symbol m) (b ∷ bs) (drop (length w) (b ∷ bs)) in
    let first = sign_first b bs m o e in (
      subst P (sym f) first,
      sign_cut (b ∷ bs) spelling m (drop (length (symbol_text m)) (b ∷ bs)) f
          (sign_whole b bs m e) u,
    )

pub sign_lost : (text : List ℕ) → begins_with is_other text ≡ false
    → find (λ n. starts_with nat_eq text (symbol_text n)) SIGNS ≡ None
    → (other : Token) (rest : List ℕ) → IsFirst other text rest → ⊥
sign_lost [] o e other rest first = first_some other rest first
sign_lost (b ∷ bs) o e other rest first = sign_none b bs o e other rest first

-- quotes
no_quote : (q x : ℕ) → x ≢ q → not (x == q) ≡ true
no_quote q x h = grind (arith, nat_tests)

pub no_quotes : (q : ℕ) (xs : List ℕ) → ((i : ℕ) → i < length xs → get_or xs i 0 ≢ q)
    → each (λ b. not (b == q)) xs ≡ true
no_quotes q [] h = refl
no_quotes q (x ∷ xs) h =
    and_from (not (x == q)) _ (no_quote q x (h 0 (omega arith))) (no_quotes q xs (λ i l. h (suc i) (omega arith)))

get_at_seam : (part behind : List ℕ) (q : ℕ) → get_or (part ++ q ∷ behind) (length part) 0 ≡ q
get_at_seam [] behind q = refl
get_at_seam (x ∷ part) behind q = get_at_seam part behind q

drop_at_seam : (part behind : List ℕ) (q : ℕ) → drop (length part + 1) (part ++ q ∷ behind) ≡ behind
drop_at_seam [] behind q = refl
drop_at_seam (x ∷ part) behind q = let e : length (x ∷ part) + 1 ≡ suc (length part + 1) = omega arith in
    rw e (drop_at_seam part behind q)

no_byte : (q b : ℕ) (bs : List ℕ) → ((more : List ℕ) → b ∷ bs ≢ q ∷ more) → (b == q) ≡ false
no_byte q b bs h =
    let step : (v : Bool) → (b == q) ≡ v → v ≡ false = λ v. elim v as (λ v. (b == q) ≡ v → v ≡ false)
    [ true ↦ λ e. absurd (h bs (ap (λ z. z ∷ bs) (eqb-true b q e))) | false ↦ λ e. refl ]
    in step (b == q) refl

no_more : (q : ℕ) (behind : List ℕ) → ((more : List ℕ) → behind ≢ q ∷ more) → begins_with (is_quote q) behind ≡ false
no_more q [] h = refl
no_more q (b ∷ bs) h = no_byte q b bs h

unquoted_whole : (q : ℕ) (inside content rest part behind whole : List ℕ) → inside ≡ doubled q content ++ rest
    → rest ≡ part ++ q ∷ behind
    → each (λ b. not (b == q)) part ≡ true → whole ≡ content ++ part → inside ≡ doubled q whole ++ q ∷ behind
unquoted_whole q inside content rest part behind whole e f h g =
    let k : doubled q whole ≡ doubled q content ++ part = ap (doubled q) g ∙ doubled_append q content part
    ∙ ap (λ z. doubled q content ++ z) (doubled_plain q part h) in
    e ∙ ap (λ z. doubled q content ++ z) f ∙ sym (append_assoc (doubled q content) part (q ∷ behind))
    ∙ ap (λ z. z ++ q ∷ behind) (sym k)

-- a text behind a byte below 128
pub utf8_behind : (q : ℕ) (part behind rest : List ℕ) → q < 128 → IsUtf8 rest → rest ≡ part ++ q ∷ behind
    → IsUtf8 behind
utf8_behind q part behind rest small u e =
    let n : length rest ≡ length part + suc (length behind) = ap length e ∙ length-append part (q ∷ behind) in
    let at : get_or rest (length part) 0 ≡ q = rw e (get_at_seam part behind q) in
    let off : drop (length part + 1) rest ≡ behind = rw e (drop_at_seam part behind q) in
    let P : List ℕ → Type 0 = λ w. IsUtf8 w in
    subst P off (IsUtf8-drop rest (length part + 1) u
    (IsCharBoundary-after_ascii rest (length part) u (omega arith) (omega arith)))

pub unquoted_found : (q : ℕ) (inside content rest part behind whole : List ℕ) → q < 128 → IsUtf8 inside
    → inside ≡ doubled q content ++ rest
    → (rest ≡ part ++ q ∷ behind) × ((i : ℕ) → i < length part → get_or part i 0 ≢ q) → whole ≡ content ++ part
    → ((more : List ℕ) → behind ≢ q ∷ more) → Unquotes q inside (Some (whole, length inside - length behind))
unquoted_found q inside content rest part behind whole small u e parts f stop =
    let g : inside ≡ doubled q whole ++ q ∷ behind =
    unquoted_whole q inside content rest part behind whole e parts.0 (no_quotes q part parts.1) f in
    let n : length inside ≡ length (doubled q whole) + suc (length behind) = ap length g
    ∙ length-append (doubled q whole) (q ∷ behind) in
    let l : length inside - length behind ≡ length (doubled q whole) + 1 = omega arith in
    let off : drop (length (doubled q whole) + 1) inside ≡ behind = rw g (drop_at_seam (doubled q whole) behind q) in
    let at : get_or inside (length (doubled q whole)) 0 ≡ q = rw g (get_at_seam (doubled q whole) behind q) in
    let P : ℕ → Type 0 = λ k. (inside ≡ doubled q whole ++ q ∷ drop k inside)
    × (begins_with (is_quote q) (drop k inside) ≡ false) × IsCharBoundary inside k in
    let Q : List ℕ → Type 0 = λ w. inside ≡ doubled q whole ++ q ∷ w in
    let R : List ℕ → Type 0 = λ w. begins_with (is_quote q) w ≡ false in
    subst P (sym l) (
      subst Q (sym off) g,
      subst R (sym off) (no_more q behind stop),
      IsCharBoundary-after_ascii inside (length (doubled q whole)) u (omega arith) (omega arith),
    )

pub unquoted_on : (q : ℕ) (inside content rest part behind more whole longer : List ℕ)
    → inside ≡ doubled q content ++ rest
    → (rest ≡ part ++ q ∷ behind) × ((i : ℕ) → i < length part → get_or part i 0 ≢ q) → behind ≡ q ∷ more
    → whole ≡ content ++ part → longer ≡ whole ++ q ∷ []
    → inside ≡ doubled q longer ++ more
unquoted_on q inside content rest part behind more whole longer e parts m f g =
    let h : inside ≡ doubled q whole ++ q ∷ behind =
    unquoted_whole q inside content rest part behind whole e parts.0 (no_quotes q part parts.1) f in
    let k : doubled q longer ≡ doubled q whole ++ q ∷ q ∷ [] = ap (doubled q) g ∙ doubled_append q whole (q ∷ [])
    ∙ ap (λ z. doubled q whole ++ z) (doubled_quote q) in
    h ∙ ap (λ z. doubled q whole ++ q ∷ z) m ∙ sym (append_assoc (doubled q whole) (q ∷ q ∷ []) more)
    ∙ ap (λ z. z ++ more) (sym k)

pub unquoted_none : (q : ℕ) (inside content rest : List ℕ) → inside ≡ doubled q content ++ rest
    → ((i : ℕ) → i < length rest → get_or rest i 0 ≢ q)
    → (bytes more : List ℕ) → inside ≡ doubled q bytes ++ q ∷ more → begins_with (is_quote q) more ≡ false → ⊥
unquoted_none q inside content rest e h bytes more f s =
    unclosed q content rest bytes more (sym e ∙ f) s (no_quotes q rest h)

-- behind the first quote
token_cut : (q : ℕ) (text inside : List ℕ) (len : ℕ) → text ≡ q ∷ inside → IsCharBoundary inside len
    → IsCharBoundary text (len + 1)
token_cut q text inside len t b =
    let P : List ℕ → Type 0 = λ w. IsCharBoundary w (len + 1) in
    let Q : ℕ → Type 0 = λ n. IsCharBoundary (q ∷ inside) n in
    let flip : 1 + len ≡ len + 1 = omega arith in
    subst P (sym t) (subst Q flip (IsCharBoundary-from_rest (q ∷ inside) 1 len (omega arith) b))

token_rest : (q : ℕ) (text inside : List ℕ) (len : ℕ) → text ≡ q ∷ inside → drop (len + 1) text ≡ drop len inside
token_rest q text inside len t = rw (t, add-one len) refl

some_name : (name : List ℕ) → (length name ≡ 0 → ⊥) → is_name name ≡ true
some_name [] n = absurd (n refl)
some_name (b ∷ bs) n = refl

pub name_found : (text inside name : List ℕ) (len : ℕ) → text ≡ 34 ∷ inside → Unquotes 34 inside (Some (name, len))
    → (length name ≡ 0 → ⊥)
    → IsFirst (token.Name name) text (drop (len + 1) text) × IsCharBoundary text (len + 1)
name_found text inside name len t h n =
    let P : List ℕ → Type 0 = λ w. IsFirst (token.Name name) text w in (
      subst P (sym (token_rest 34 text inside len t))
          (name_first text inside name (drop len inside) t h.0 h.1 (some_name name n)),
      token_cut 34 text inside len t h.2,
    )

pub name_lost : (text inside name : List ℕ) (len : ℕ) → text ≡ 34 ∷ inside → Unquotes 34 inside (Some (name, len))
    → length name ≡ 0
    → (other : Token) (rest : List ℕ) → IsFirst other text rest → ⊥
name_lost text inside name len t h n = name_empty text inside name (drop len inside) t h.0 h.1 n

pub text_found : (text inside content : List ℕ) (len : ℕ) → text ≡ 39 ∷ inside
    → Unquotes 39 inside (Some (content, len))
    → IsFirst (token.Literal (Text content)) text (drop (len + 1) text) × IsCharBoundary text (len + 1)
text_found text inside content len t h =
    let P : List ℕ → Type 0 = λ w. IsFirst (token.Literal (Text content)) text w in (
      subst P (sym (token_rest 39 text inside len t)) (text_first text inside content (drop len inside) t h.0 h.1),
      token_cut 39 text inside len t h.2,
    )

pub none_of : (l d p q : Bool) → l ≡ false → d ≡ false → p ≡ false → q ≡ false → (((l || d) || p) || q) ≡ false
none_of l d p q a b c e = rw (a, b, c, e) refl

-- a first byte that begins nothing but a sign
pub other_first : (text : List ℕ) → ((rest : List ℕ) → text ≢ 34 ∷ rest) → ((rest : List ℕ) → text ≢ 39 ∷ rest)
    → begins_with is_digit_or_minus text ≡ false → begins_with is_letter text ≡ false
    → begins_with is_other text ≡ false
other_first [] d s n l = refl
other_first (b ∷ bs) d s n l =
    none_of (is_letter b) (is_digit_or_minus b) (b == 34) (b == 39) l n (no_byte 34 b bs d) (no_byte 39 b bs s)
