-- Signs, and that one text has one first token and one list of tokens.
use Rattle.std.proofs.Common.{◌≡◌, ℕ, ◌+◌, ◌<◌, ◌≤◌, ◌≢◌, Bool, true, false, ◌||◌, nat_lt, nat_le}
use Rattle.std.proofs.Common.{nat_eq, ◌==◌, Option, Some, None, List, [], ◌∷◌, ◌++◌, length, take, drop, find, refl}
use Rattle.std.proofs.Common.{sym, ◌∙◌, ap, subst, arith, ◌⊎◌, inl, inr}
use Rattle.std.proofs.lemmas.Bool.Decides.{nat_tests}
use Rattle.std.proofs.lemmas.List.{take-append-drop, append_assoc}
use Rattle.std.proofs.lemmas.Slice.Eq.{bytes_eq-Decides}
use Rattle.std.specs.Str.{bytes_eq, str_to_ascii_lowercase}
use Rattle.sql_parser.specs.Reading.{symbol_eq}
use Rattle.sql_parser.specs.Tokens.{AreTokens, none, next}
use Rattle.std.proofs.lemmas.List.{append-nil, length-append}
use Rattle.std.proofs.Common.{length-drop, ◌-◌}
use Rattle.sql_parser.proofs.Runs.{each_append}
use Rattle.std.proofs.lemmas.Bool.{eqb-true, leb-true}
use Rattle.std.proofs.Math.Seq.{take-append_seam, drop-append_seam}
use Rattle.std.specs.List.{prefix_len, starts_with}
use Rattle.row_values.specs.declared.values.Value.TheVariants.{Text}
use Rattle.sql_parser.specs.Statement.{each}
use Rattle.sql_parser.specs.Tokens.{is_white, is_letter, symbol_text, is_spelled, doubled, Spells, reserved_or_sign}
use Rattle.sql_parser.specs.Tokens.{begins_with, is_digit_or_minus, is_other, IsFirst}
use Rattle.sql_parser.specs.declared.tokens.Symbol.{Symbol}
use Rattle.sql_parser.specs.declared.tokens.Symbol.TheVariants as symbol
use Rattle.sql_parser.specs.declared.tokens.Token.{Token}
use Rattle.sql_parser.specs.declared.tokens.Token.TheVariants as token
use Rattle.sql_parser.specs.declared.tokens.TheConstants.{RESERVED, SIGNS}
use Rattle.sql_parser.proofs.QuotesClose.{quoted_once}
use Rattle.sql_parser.proofs.Symbols.{every, symbol_same, is_in, any_in, find_passes, none_passes}
use Rattle.sql_parser.proofs.Runs.{run_passes, run_stops, run_is}
use Rattle.sql_parser.proofs.TokenShapes.{nothing_spells, word_shape, number_shape, name_shape, text_shape, sign_shape}
use Rattle.sql_parser.proofs.TokenShapes.{NameToken, TextToken, SignToken, WordToken, named, kept}
use Rattle.std.proofs.lemmas.Bool.{and_parts}

pub spells_itself : (m : Symbol) → is_spelled (symbol_text m) m ≡ true
spells_itself m = (bytes_eq-Decides (str_to_ascii_lowercase (symbol_text m)) (str_to_ascii_lowercase (symbol_text m))).1
    refl

-- a text that begins with a symbol's
starts_whole : (text w : List ℕ) → starts_with nat_eq text w ≡ true → text ≡ w ++ drop (length w) text
starts_whole text w h = sym (ap (λ z. z ++ drop (length w) text) ((bytes_eq-Decides w (take (length w) text)).0 h)
    ∙ take-append-drop (length w) text)

starts_itself : (w rest : List ℕ) → starts_with nat_eq (w ++ rest) w ≡ true
starts_itself w rest = rw (take-append_seam w rest) ((bytes_eq-Decides w w).1 refl)

-- a sign is among the signs
sign_place : (m : Symbol) → begins_with is_other (symbol_text m) ≡ false → is_in m SIGNS ≡ true
unfolding symbol_eq
sign_place m h = rw h at (every (λ m. begins_with is_other (symbol_text m) || is_in m SIGNS) refl m)

some_text : (m : Symbol) → 1 ≤ length (symbol_text m)
some_text m = leb-true 1 (length (symbol_text m)) (every (λ m. nat_le 1 (length (symbol_text m))) refl m)

-- the sign that is found is the longest
abbrev IsGreatest : Symbol → List ℕ → Symbol → Type 0
IsGreatest m rest found =
    find (λ n. starts_with nat_eq (symbol_text m ++ rest) (symbol_text n)) SIGNS ≡ Some found
    → length (symbol_text m) ≤ length (symbol_text found)

at_most_greatest : (rest : List ℕ) (found : Symbol) → IsGreatest symbol.AtMost rest found
at_most_greatest rest found e = let same : symbol.AtMost ≡ found = cc in rw (← same) (omega arith)

at_least_greatest : (rest : List ℕ) (found : Symbol) → IsGreatest symbol.AtLeast rest found
at_least_greatest rest found e = let same : symbol.AtLeast ≡ found = cc in rw (← same) (omega arith)

sign_greatest : (m : Symbol) (rest : List ℕ) (found : Symbol) → begins_with is_other (symbol_text m) ≡ false
    → IsGreatest m rest found
unfolding symbol_eq
sign_greatest m rest found o e =
    kind (nat_le (length (symbol_text m)) 1) (symbol_eq m symbol.AtMost) refl refl
    (rw o at (every (λ m. begins_with is_other (symbol_text m)
    || (nat_le (length (symbol_text m)) 1 || (symbol_eq m symbol.AtMost || symbol_eq m symbol.AtLeast))) refl m))
  where
    kind : (v w : Bool) → nat_le (length (symbol_text m)) 1 ≡ v → symbol_eq m symbol.AtMost ≡ w
        → (v || (w || symbol_eq m symbol.AtLeast)) ≡ true
        → length (symbol_text m) ≤ length (symbol_text found)
    kind true w f g h = (let l = leb-true (length (symbol_text m)) 1 f in let k = some_text found in omega arith)
    kind false true f g h = (let P : Symbol → Type 0 = λ z. IsGreatest z rest found in
        subst P (sym (symbol_same m symbol.AtMost g)) (at_most_greatest rest found) e)
    kind false false f g h = (let P : Symbol → Type 0 = λ z. IsGreatest z rest found in
        subst P (sym (symbol_same m symbol.AtLeast h)) (at_least_greatest rest found) e)

sign_of : (b : ℕ) (bs : List ℕ) → is_other b ≡ false → (other : Token) (bytes more : List ℕ) → b ∷ bs ≡ bytes ++ more
    → Spells other bytes more → SignToken other bytes
sign_of b bs o other [] more e s = absurd (nothing_spells other more s)
sign_of b bs o other (x ∷ xs) more e s =
    let same : b ≡ x = cc in
    let P : ℕ → Type 0 = λ y. is_other y ≡ false in
    sign_shape other x xs more (subst P same o) s

-- the first byte of a sign
first_other : (b : ℕ) (bs w more : List ℕ) → is_other b ≡ false → b ∷ bs ≡ w ++ more → begins_with is_other w ≡ false
first_other b bs [] more o e = refl
first_other b bs (x ∷ w) more o e =
    let same : b ≡ x = cc in
    let P : ℕ → Type 0 = λ y. is_other y ≡ false in
    subst P same o

sign_longest : (b : ℕ) (bs : List ℕ) (m : Symbol) → is_other b ≡ false
    → find (λ n. starts_with nat_eq (b ∷ bs) (symbol_text n)) SIGNS ≡ Some m
    → {other : Token} (bytes more : List ℕ) → b ∷ bs ≡ bytes ++ more → SignToken other bytes
    → length bytes ≤ length (symbol_text m)
sign_longest b bs m o e bytes more w shape =
    let whole : b ∷ bs ≡ symbol_text shape.sign ++ more = w ∙ ap (λ z. z ++ more) shape.text in
    let P : List ℕ → Type 0 = λ z. find (λ n. starts_with nat_eq z (symbol_text n)) SIGNS ≡ Some m in
    let n = sign_greatest shape.sign more m (first_other b bs (symbol_text shape.sign) more o whole)
    (subst P whole e) in
    omega (arith, n, ap length shape.text)

sign_absent : (b : ℕ) (bs : List ℕ) → is_other b ≡ false → find (λ n. starts_with nat_eq (b ∷ bs) (symbol_text n)) SIGNS
    ≡ None
    → {other : Token} (bytes more : List ℕ) → b ∷ bs ≡ bytes ++ more → SignToken other bytes → ⊥
sign_absent b bs o e bytes more w shape =
    let whole : b ∷ bs ≡ symbol_text shape.sign ++ more = w ∙ ap (λ z. z ++ more) shape.text in
    let place = sign_place shape.sign (first_other b bs (symbol_text shape.sign) more o whole) in
    let n = none_passes (λ n. starts_with nat_eq (b ∷ bs) (symbol_text n)) SIGNS e in
    let P : List ℕ → Type 0 = λ z. starts_with nat_eq z (symbol_text shape.sign) ≡ true in
    let k = subst P (sym whole) (starts_itself (symbol_text shape.sign) more) in
    let a = any_in (λ n. starts_with nat_eq (b ∷ bs) (symbol_text n)) shape.sign SIGNS place k in
    cc

pub sign_first : (b : ℕ) (bs : List ℕ) (m : Symbol) → is_other b ≡ false
    → find (λ n. starts_with nat_eq (b ∷ bs) (symbol_text n)) SIGNS ≡ Some m
    → IsFirst (token.Symbol m) (b ∷ bs) (drop (length (symbol_text m)) (b ∷ bs))
sign_first b bs m o e = record {
  prefix = symbol_text m;
  whole = starts_whole (b ∷ bs) (symbol_text m)
      (find_passes (λ n. starts_with nat_eq (b ∷ bs) (symbol_text n)) SIGNS m e);
  spelled = reserved_or_sign (spells_itself m);
  longest = λ other bytes more w sp. sign_longest b bs m o e bytes more w (sign_of b bs o other bytes more w sp);
}

pub sign_whole : (b : ℕ) (bs : List ℕ) (m : Symbol) → find (λ n. starts_with nat_eq (b ∷ bs) (symbol_text n)) SIGNS
    ≡ Some m
    → b ∷ bs ≡ symbol_text m ++ drop (length (symbol_text m)) (b ∷ bs)
sign_whole b bs m e = starts_whole (b ∷ bs) (symbol_text m)
    (find_passes (λ n. starts_with nat_eq (b ∷ bs) (symbol_text n)) SIGNS m e)

pub sign_none : (b : ℕ) (bs : List ℕ) → is_other b ≡ false
    → find (λ n. starts_with nat_eq (b ∷ bs) (symbol_text n)) SIGNS ≡ None
    → (other : Token) (rest : List ℕ) → IsFirst other (b ∷ bs) rest → ⊥
sign_none b bs o e other rest first =
    sign_absent b bs o e first.prefix rest first.whole
    (sign_of b bs o other first.prefix rest first.whole first.spelled)

-- symbols differ in their letters
lower_symbol : List ℕ → Option Symbol
lower_symbol v = find (λ m. bytes_eq (str_to_ascii_lowercase (symbol_text m)) v) (RESERVED ++ SIGNS)

is_found : Symbol → Option Symbol → Bool
is_found m None = false
is_found m (Some x) = symbol_eq x m

found_is : (m : Symbol) (o : Option Symbol) → is_found m o ≡ true → o ≡ Some m
unfolding is_found
found_is m None h = cc
found_is m (Some x) h = ap (λ z. Some z) (symbol_same x m h)

lower_symbol_of : (m : Symbol) → lower_symbol (str_to_ascii_lowercase (symbol_text m)) ≡ Some m
unfolding lower_symbol is_found symbol_eq
lower_symbol_of m = found_is m _
    (every (λ m. is_found m (lower_symbol (str_to_ascii_lowercase (symbol_text m)))) refl m)

pub symbols_same : (w : List ℕ) (m n : Symbol) → is_spelled w m ≡ true → is_spelled w n ≡ true → m ≡ n
symbols_same w m n h k =
    let a = (bytes_eq-Decides _ _).0 h in
    let b = (bytes_eq-Decides _ _).0 k in
    let c = lower_symbol_of m in
    let d = lower_symbol_of n in
    let e : str_to_ascii_lowercase (symbol_text m) ≡ str_to_ascii_lowercase (symbol_text n) = sym a ∙ b in
    let f : Some m ≡ Some n = sym c ∙ ap lower_symbol e ∙ d in
    cc

word_same : (t u : Token) (w : List ℕ) → WordToken t w → WordToken u w → t ≡ u
word_same t u w (named r) (named s) = refl
word_same t u w (named r) (kept {m} k s) = cc
word_same t u w (kept {m} k s) (named r) = cc
word_same t u w (kept {m} h r) (kept {m = n} k s) = ap token.Symbol (symbols_same w m n h k)

kinds : {A B : Type 0} (l d p q : Bool) → (p ≡ true → A) → (q ≡ true → B)
    → (l ≡ true) ⊎ ((d ≡ true) ⊎ (A ⊎ (B ⊎ ((((l || d) || p) || q) ≡ false))))
kinds true d p q f g = inl refl
kinds false true p q f g = inr (inl refl)
kinds false false true q f g = inr (inr (inl (f refl)))
kinds false false false true f g = inr (inr (inr (inl (g refl))))
kinds false false false false f g = inr (inr (inr (inr refl)))

kind_of : (b : ℕ) → (is_letter b ≡ true)
    ⊎ ((is_digit_or_minus b ≡ true) ⊎ ((b ≡ 34) ⊎ ((b ≡ 39) ⊎ (is_other b ≡ false))))
kind_of b = kinds (is_letter b) (is_digit_or_minus b) (b == 34) (b == 39) (eqb-true b 34) (eqb-true b 39)

same_names : (t u : Token) (bs rest : List ℕ) → NameToken t bs rest → NameToken u bs rest → t ≡ u
same_names t u bs rest a b =
    let e : doubled 34 a.name ++ 34 ∷ [] ≡ doubled 34 b.name ++ 34 ∷ [] = sym a.content ∙ b.content in
    a.token ∙ ap token.Name (quoted_once 34 a.name b.name [] [] e refl refl).0 ∙ sym b.token

same_texts : (t u : Token) (bs rest : List ℕ) → TextToken t bs rest → TextToken u bs rest → t ≡ u
same_texts t u bs rest a b =
    let e : doubled 39 a.text ++ 39 ∷ [] ≡ doubled 39 b.text ++ 39 ∷ [] = sym a.content ∙ b.content in
    a.token ∙ ap (λ w. token.Literal (Text w)) (quoted_once 39 a.text b.text [] [] e refl refl).0 ∙ sym b.token

same_name : (t u : Token) (b : ℕ) (bs rest : List ℕ) → b ≡ 34 → Spells t (b ∷ bs) rest → Spells u (b ∷ bs) rest → t ≡ u
same_name t u b bs rest e s v =
    let P : Token → ℕ → Type 0 = λ t y. Spells t (y ∷ bs) rest in
    same_names t u bs rest (name_shape t bs rest (subst (P t) e s)) (name_shape u bs rest (subst (P u) e v))

same_text : (t u : Token) (b : ℕ) (bs rest : List ℕ) → b ≡ 39 → Spells t (b ∷ bs) rest → Spells u (b ∷ bs) rest → t ≡ u
same_text t u b bs rest e s v =
    let P : Token → ℕ → Type 0 = λ t y. Spells t (y ∷ bs) rest in
    same_texts t u bs rest (text_shape t bs rest (subst (P t) e s)) (text_shape u bs rest (subst (P u) e v))

same_sign_token : (t u : Token) (w : List ℕ) → SignToken t w → SignToken u w → t ≡ u
same_sign_token t u w a b =
    let P : List ℕ → Symbol → Type 0 = λ z m. is_spelled z m ≡ true in
    let h = subst (λ z. P z a.sign) (sym a.text) (spells_itself a.sign) in
    let k = subst (λ z. P z b.sign) (sym b.text) (spells_itself b.sign) in
    a.token ∙ ap token.Symbol (symbols_same w a.sign b.sign h k) ∙ sym b.token

-- one spelling, one token
pub same_token : (t u : Token) (w rest : List ℕ) → Spells t w rest → Spells u w rest → t ≡ u
same_token t u [] rest s v = absurd (nothing_spells t rest s)
same_token t u (b ∷ bs) rest s v = elim (kind_of b) [
  | inl l ↦ word_same t u (b ∷ bs) (word_shape t b bs rest l s).1 (word_shape u b bs rest l v).1
  | inr k ↦ elim k [
    | inl d ↦ (number_shape t b bs rest d s).1.value ∙ sym (number_shape u b bs rest d v).1.value
    | inr k ↦ elim k [
      | inl e ↦ same_name t u b bs rest e s v
      | inr k ↦ elim k [
        | inl e ↦ same_text t u b bs rest e s v
        | inr o ↦ same_sign_token t u (b ∷ bs) (sign_shape t b bs rest o s) (sign_shape u b bs rest o v)
      ]
    ]
  ]
]

split_same : (f g r s : List ℕ) → f ++ r ≡ g ++ s → length f ≡ length g → (f ≡ g) × (r ≡ s)
split_same [] [] r s e l = (refl, e)
split_same [] (y ∷ g) r s e l = absurd (omega arith)
split_same (x ∷ f) [] r s e l = absurd (omega arith)
split_same (x ∷ f) (y ∷ g) r s e l =
    let t : f ++ r ≡ g ++ s = cc in
    let ih = split_same f g r s t (omega arith) in
    let h : x ≡ y = cc in
    let k = ih.0 in (cc, ih.1)

first_same : (t u : Token) (f g r s : List ℕ) → f ≡ g → r ≡ s → Spells t f r → Spells u g s → t ≡ u
first_same t u f g r s e k a b =
    let P : List ℕ → List ℕ → Type 0 = λ w x. Spells u w x in
    same_token t u f r a (subst (λ w. P w r) (sym e) (subst (λ x. P g x) (sym k) b))

pub first_once : (t u : Token) (text r s : List ℕ) → IsFirst t text r → IsFirst u text s → (t ≡ u) × (r ≡ s)
first_once t u text r s a b =
    let n = a.longest u b.prefix s b.whole b.spelled in
    let m = b.longest t a.prefix r a.whole a.spelled in
    let parts = split_same a.prefix b.prefix r s (sym a.whole ∙ b.whole) (omega arith) in
    (first_same t u a.prefix b.prefix r s parts.0 parts.1 a.spelled b.spelled, parts.1)

-- no token begins with white space
not_white : (b : ℕ) → is_white b ≡ true → (is_letter b ≡ false) × (is_digit_or_minus b ≡ false) × (b ≢ 34) × (b ≢ 39)
    × ((is_other b ≡ false) × (nat_lt b 33 ≡ true))
not_white b h = (
  grind (arith, nat_tests),
  grind (arith, nat_tests),
  (λ e. grind (arith, nat_tests)),
  (λ e. grind (arith, nat_tests)),
  (grind (arith, nat_tests), grind (arith, nat_tests)),
)

white_head : (b c : ℕ) (bs cs : List ℕ) → b ∷ bs ≡ c ∷ cs → nat_lt c 33 ≡ false → nat_lt b 33 ≡ true → ⊥
white_head b c bs cs e f h = let same : b ≡ c = cc in let g : nat_lt c 33 ≡ true = rw (← same) h in cc

sign_not_white : (m : Symbol) (b : ℕ) (bs : List ℕ) → b ∷ bs ≡ symbol_text m → nat_lt b 33 ≡ true → ⊥
sign_not_white symbol.Select b bs e h = white_head b _ bs _ e refl h
sign_not_white symbol.From b bs e h = white_head b _ bs _ e refl h
sign_not_white symbol.Where b bs e h = white_head b _ bs _ e refl h
sign_not_white symbol.And b bs e h = white_head b _ bs _ e refl h
sign_not_white symbol.Group b bs e h = white_head b _ bs _ e refl h
sign_not_white symbol.By b bs e h = white_head b _ bs _ e refl h
sign_not_white symbol.Order b bs e h = white_head b _ bs _ e refl h
sign_not_white symbol.Asc b bs e h = white_head b _ bs _ e refl h
sign_not_white symbol.Desc b bs e h = white_head b _ bs _ e refl h
sign_not_white symbol.Between b bs e h = white_head b _ bs _ e refl h
sign_not_white symbol.Count b bs e h = white_head b _ bs _ e refl h
sign_not_white symbol.Sum b bs e h = white_head b _ bs _ e refl h
sign_not_white symbol.Min b bs e h = white_head b _ bs _ e refl h
sign_not_white symbol.Max b bs e h = white_head b _ bs _ e refl h
sign_not_white symbol.As b bs e h = white_head b _ bs _ e refl h
sign_not_white symbol.Join b bs e h = white_head b _ bs _ e refl h
sign_not_white symbol.Inner b bs e h = white_head b _ bs _ e refl h
sign_not_white symbol.On b bs e h = white_head b _ bs _ e refl h
sign_not_white symbol.In b bs e h = white_head b _ bs _ e refl h
sign_not_white symbol.Comma b bs e h = white_head b _ bs _ e refl h
sign_not_white symbol.Dot b bs e h = white_head b _ bs _ e refl h
sign_not_white symbol.Open b bs e h = white_head b _ bs _ e refl h
sign_not_white symbol.Close b bs e h = white_head b _ bs _ e refl h
sign_not_white symbol.Star b bs e h = white_head b _ bs _ e refl h
sign_not_white symbol.Question b bs e h = white_head b _ bs _ e refl h
sign_not_white symbol.Semicolon b bs e h = white_head b _ bs _ e refl h
sign_not_white symbol.Less b bs e h = white_head b _ bs _ e refl h
sign_not_white symbol.AtMost b bs e h = white_head b _ bs _ e refl h
sign_not_white symbol.Greater b bs e h = white_head b _ bs _ e refl h
sign_not_white symbol.AtLeast b bs e h = white_head b _ bs _ e refl h
sign_not_white symbol.Equals b bs e h = white_head b _ bs _ e refl h

first_not_white : (t : Token) (b : ℕ) (bs rest : List ℕ) → is_white b ≡ true → Spells t (b ∷ bs) rest → ⊥
first_not_white t b bs rest h s =
    let w = not_white b h in
    let shape = sign_shape t b bs rest w.4.0 s in
    sign_not_white shape.sign b bs shape.text w.4.1

black : (t : Token) (text prefix rest : List ℕ) → text ≡ prefix ++ rest → Spells t prefix rest
    → begins_with is_white text ≡ false
black t text [] rest e s = absurd (nothing_spells t rest s)
black t text (b ∷ bs) rest e s =
    let P : List ℕ → Type 0 = λ z. begins_with is_white z ≡ false in
    let f : is_white b ≡ false = (let step : (v : Bool) → is_white b ≡ v → v ≡ false =
    λ v. elim v as (λ v. is_white b ≡ v → v ≡ false) [
      | true ↦ λ h. absurd (first_not_white t b bs rest h s)
      | false ↦ λ h. refl
    ] in step (is_white b) refl) in
    subst P (sym e) f

empty_front : (t : Token) (prefix rest : List ℕ) → [] ≡ prefix ++ rest → Spells t prefix rest → ⊥
empty_front t [] rest e s = nothing_spells t rest s
empty_front t (b ∷ bs) rest e s = cc

pub begins_black : (t : Token) (text rest : List ℕ) → IsFirst t text rest → begins_with is_white text ≡ false
begins_black t text rest first = black t text first.prefix rest first.whole first.spelled

pub first_some : (t : Token) (rest : List ℕ) → IsFirst t [] rest → ⊥
first_some t rest first = empty_front t first.prefix rest first.whole first.spelled

-- white space in front of tokens
pub white_on : (white text : List ℕ) (tokens : List Token) → each is_white white ≡ true → AreTokens text tokens
    → AreTokens (white ++ text) tokens
white_on white text tokens h (none {white = w} k) = none (each_append is_white white text h k)
white_on white text tokens h (next w t rest k first more) =
    let P : List ℕ → Type 0 = λ z. AreTokens z tokens in
    subst P (append_assoc white w t) (next (white ++ w) t rest (each_append is_white white w h k) first more)

pub white_all : (text : List ℕ) → each is_white text ≡ true → drop (prefix_len is_white text) text ≡ []
white_all text k =
    let run : prefix_len is_white (text ++ []) ≡ length text = run_is is_white text [] k refl in
    let P : List ℕ → Type 0 = λ z. drop (prefix_len is_white z) z ≡ [] in
    subst P (append-nil text) (rw run (drop-append_seam text []))

pub white_off : (text : List ℕ) (tokens : List Token) → AreTokens text tokens
    → AreTokens (drop (prefix_len is_white text) text) tokens
white_off text tokens (none k) =
    let P : List ℕ → Type 0 = λ z. AreTokens z [] in
    let rest : drop (prefix_len is_white text) text ≡ [] = white_all text k in
    subst P (sym rest) (none {white = []} refl)
white_off text tokens (next w t rest {first} k f more) =
    let P : List ℕ → Type 0 = λ z. AreTokens z tokens in
    let run = run_is is_white w t k (begins_black first t rest f) in
    let off : drop (prefix_len is_white (w ++ t)) (w ++ t) ≡ t = rw run (drop-append_seam w t) in
    subst P (sym off) (next [] t rest refl f more)

pub no_tokens : (text : List ℕ) (tokens : List Token) → AreTokens text tokens → text ≡ [] → tokens ≡ []
no_tokens text tokens (none k) e = refl
no_tokens text tokens (next [] t rest {first} k f more) e =
    let P : List ℕ → Type 0 = λ z. IsFirst first z rest in absurd (first_some first rest (subst P e f))
no_tokens text tokens (next (b ∷ w) t rest k f more) e = cc

-- the tokens of a text that begins with this one
pub record GoesOn (tokens : List Token) (first : Token) (rest : List ℕ) : Type 0 where
  pub others : List Token
  pub are : AreTokens rest others
  pub whole : tokens ≡ first ∷ others

head_white : (t : Token) (b : ℕ) (bs rest : List ℕ) → IsFirst t (b ∷ bs) rest → is_white b ≡ true → ⊥
head_white t b bs rest first h = let k = begins_black t (b ∷ bs) rest first in cc

pub all_white : (t : Token) (text rest : List ℕ) → IsFirst t text rest → each is_white text ≡ true → ⊥
all_white t [] rest first k = first_some t rest first
all_white t (b ∷ bs) rest first k = head_white t b bs rest first (and_parts (is_white b) (each is_white bs) k).0

pub goes_on : (text : List ℕ) (tokens : List Token) (t : Token) (rest : List ℕ) → AreTokens text tokens
    → IsFirst t text rest → GoesOn tokens t rest
goes_on text tokens t rest (none k) first = absurd (all_white t text rest first k)
goes_on text tokens t rest (next [] x r {first} {tokens = others} k f more) this =
    let same = first_once first t x r rest f this in
    let P : List ℕ → Type 0 = λ z. AreTokens z others in
    record { others = others; are = subst P same.1 more; whole = ap (λ z. z ∷ others) same.0 }
goes_on text tokens t rest (next (b ∷ w) x r k f more) this =
    absurd (head_white t b (w ++ x) rest this (and_parts (is_white b) (each is_white w) k).0)

-- a text with no first token has no tokens
some_white : (text : List ℕ) → each is_white text ≡ true → begins_with is_white text ≡ false → 0 < length text → ⊥
some_white [] k s l = absurd (omega arith)
some_white (b ∷ bs) k s l = let h = (and_parts (is_white b) (each is_white bs) k).0 in cc

pub nothing_first : (text : List ℕ) (tokens : List Token)
    → ((other : Token) (rest : List ℕ) → IsFirst other text rest → ⊥) → begins_with is_white text ≡ false
    → 0 < length text → AreTokens text tokens → ⊥
nothing_first text tokens no_first s l (none k) = some_white text k s l
nothing_first text tokens no_first s l (next [] x r {first} k f more) = no_first first r f
nothing_first text tokens no_first s l (next (c ∷ w) x r k f more) = let h =
    (and_parts (is_white c) (each is_white w) k).0 in cc

-- the tokens of the rest are the further tokens of the text, and there are no others
pub record Follows (text : List ℕ) (read : List Token) (rest : List ℕ) (tokens : List Token) : Type 0 where
  pub others : List Token
  pub are : AreTokens rest others
  pub whole : tokens ≡ read ++ others

pub record ReadSoFar (text : List ℕ) (read : List Token) (rest : List ℕ) : Type 0 where
  pub black : begins_with is_white rest ≡ false
  pub sound : (others : List Token) → AreTokens rest others → AreTokens text (read ++ others)
  pub complete : (tokens : List Token) → AreTokens text tokens → Follows text read rest tokens

-- where the white space ends
after : List ℕ → List ℕ
after text = drop (prefix_len is_white text) text

pub white_back : (text : List ℕ) (tokens : List Token) → AreTokens (drop (prefix_len is_white text) text) tokens
    → AreTokens text tokens
white_back text tokens are =
    let P : List ℕ → Type 0 = λ z. AreTokens z tokens in
    subst P (take-append-drop (prefix_len is_white text) text)
    (white_on (take (prefix_len is_white text) text) (drop (prefix_len is_white text) text) tokens
    (run_passes is_white text) are)

pub read_none : (text rest : List ℕ) → rest ≡ drop (prefix_len is_white text) text → ReadSoFar text [] rest
read_none text rest e =
    let P : List ℕ → Type 0 = λ z. ReadSoFar text [] z in
    subst P (sym e) (record {
      black = run_stops is_white text;
      sound = λ others are. white_back text others are;
      complete = λ tokens are. record { others = tokens; are = white_off text tokens are; whole = refl };
    })

pub read_one : (text : List ℕ) (read : List Token) (rest : List ℕ) (t : Token) (more next_rest : List ℕ)
    → ReadSoFar text read rest → IsFirst t rest more
    → next_rest ≡ drop (prefix_len is_white more) more → ReadSoFar text (read ++ t ∷ []) next_rest
read_one text read rest t more next_rest so_far first e =
    let P : List ℕ → Type 0 = λ z. ReadSoFar text (read ++ t ∷ []) z in
    subst P (sym e) (record {
      black = run_stops is_white more;
      sound = λ others are.
          let Q : List Token → Type 0 = λ z. AreTokens text z in
          subst Q (sym (append_assoc read (t ∷ []) others))
          (so_far.sound (t ∷ others) (next [] rest more refl first (white_back more others are)));
      complete = λ tokens are.
          let f = so_far.complete tokens are in
          let g = goes_on rest f.others t more f.are first in
          record {
            others = g.others;
            are = white_off more g.others g.are;
            whole = f.whole ∙ ap (λ z. read ++ z) g.whole ∙ sym (append_assoc read (t ∷ []) g.others);
          };
    })

pub read_all : (text : List ℕ) (read : List Token) (rest : List ℕ) → ReadSoFar text read rest → length rest ≡ 0
    → AreTokens text read
read_all text read [] so_far l =
    let P : List Token → Type 0 = λ z. AreTokens text z in
    subst P (append-nil read) (so_far.sound [] (none {white = []} refl))
read_all text read (b ∷ rest) so_far l = absurd (omega arith)

pub read_only : (text : List ℕ) (read : List Token) (rest : List ℕ) → ReadSoFar text read rest → length rest ≡ 0
    → (others : List Token) → AreTokens text others → others ≡ read
read_only text read [] so_far l others are =
    let f = so_far.complete others are in
    f.whole ∙ ap (λ z. read ++ z) (no_tokens [] f.others f.are refl) ∙ append-nil read
read_only text read (b ∷ rest) so_far l others are = absurd (omega arith)

pub read_stuck : (text : List ℕ) (read : List Token) (rest : List ℕ) → ReadSoFar text read rest → 0 < length rest
    → ((other : Token) (more : List ℕ) → IsFirst other rest more → ⊥) → (others : List Token) → AreTokens text others
    → ⊥
read_stuck text read rest so_far l no_first others are =
    let f = so_far.complete others are in nothing_first rest f.others no_first so_far.black l f.are

-- each token makes the rest shorter
pub front_some : (t : Token) (prefix rest : List ℕ) → Spells t prefix rest → 0 < length prefix
front_some t [] rest s = absurd (nothing_spells t rest s)
front_some t (b ∷ bs) rest s = omega arith

pub step_shorter : (t : Token) (rest more next_rest : List ℕ) → IsFirst t rest more
    → next_rest ≡ drop (prefix_len is_white more) more → length next_rest < length rest
step_shorter t rest more next_rest first e =
    let n : length rest ≡ length first.prefix + length more = ap length first.whole ∙ length-append first.prefix more in
    let m : length next_rest ≡ length more - prefix_len is_white more = ap length e
    ∙ length-drop (prefix_len is_white more) more in
    let f = front_some t first.prefix more first.spelled in
    omega arith
