-- Escapes piece by piece.
use Rattle.std.proofs.Common.{ℕ, ◌≡◌, ◌<◌, ◌≤◌, ◌+◌, ◌-◌, ◌++◌, ◌==◌, ◌||◌, Bool, true, false, List, [], ◌∷◌, length}
use Rattle.std.proofs.Common.{take, drop, get_or, cond, ap, sym, ◌∙◌, refl, arith, add-one, append_assoc, append-nil}
use Rattle.std.specs.Prelude.{flat_map, nat_lt, ◌/◌, ◌%◌}
use Rattle.std.specs.Fmt.{digit_glyph}
use Rattle.std.specs.Str.{IsUtf8, IsCharBoundary}
use borrow.Author.Tests.{ltb-true}
use Rattle.std.proofs.lemmas.Bool.{eqb-true}
use Rattle.std.proofs.lemmas.Str.{IsCharBoundary-start, IsCharBoundary-after_ascii}
use Rattle.std.proofs.Math.Seq.{take-suc}
use Rattle.std.proofs.lemmas.List.{drop-take, drop-append-le, take_all, drop_all, length-take}
use Rattle.std.proofs.lemmas.List.Concat.{flat_map-append}
use Rattle.statement_meaning.specs.Spelling.{escaped}
use Rattle.value_spelling.specs.Escapes.{needs_escape}

-- a byte that needs no escape stands for itself
pub as_it_is : (byte : ℕ) → needs_escape byte ≡ false → escaped byte ≡ byte ∷ []
as_it_is byte h = by_tests (byte == 34) (byte == 92) (nat_lt byte 32) (byte == 127) h
  where
    by_tests : (a b c d : Bool) → (((a || b) || c) || d) ≡ false
        → cond (a || b) (92 ∷ byte ∷ []) (cond (c || d) (92 ∷ 120 ∷ digit_glyph false (byte / 16)
        ∷ digit_glyph false (byte % 16) ∷ []) (byte ∷ [])) ≡ byte ∷ []
    by_tests false false false false h = refl
    by_tests true b c d h = cc
    by_tests false true c d h = cc
    by_tests false false true d h = cc
    by_tests false false false true h = cc

one_more : (words : List ℕ) (i : ℕ) → i < length words → take (i + 1) words ≡ take i words ++ get_or words i 0 ∷ []
one_more words i h = rw add-one (take-suc words i 0 h)

further : (words : List ℕ) (i start : ℕ) → start ≤ i → i < length words
    → drop start (take (i + 1) words) ≡ drop start (take i words) ++ get_or words i 0 ∷ []
further words i start b h =
    ap (drop start) (one_more words i h)
    ∙ drop-append-le start (take i words) (get_or words i 0 ∷ []) (omega (arith, b, h, length-take i words))

all_escaped : (words : List ℕ) (i : ℕ) → i < length words
    → flat_map escaped (take (i + 1) words) ≡ flat_map escaped (take i words) ++ escaped (get_or words i 0)
all_escaped words i h =
    ap (flat_map escaped) (one_more words i h)
    ∙ (flat_map-append escaped (take i words) (get_or words i 0 ∷ [])
    ∙ ap (λ (bs : List ℕ). flat_map escaped (take i words) ++ bs) (append-nil (escaped (get_or words i 0))))

-- a byte that needs no escape waits with the others
pub waits : (words : List ℕ) (i start : ℕ) (text old : List ℕ) → start ≤ i → i < length words
    → needs_escape (get_or words i 0) ≡ false
    → text ++ drop start (take i words) ≡ old ++ flat_map escaped (take i words)
    → text ++ drop start (take (i + 1) words) ≡ old ++ flat_map escaped (take (i + 1) words)
waits words i start text old b h n e =
    ap (λ (bs : List ℕ). text ++ bs) (further words i start b h)
    ∙ (sym (append_assoc text (drop start (take i words)) (get_or words i 0 ∷ []))
    ∙ (ap (λ (bs : List ℕ). bs ++ get_or words i 0 ∷ []) e
    ∙ (append_assoc old (flat_map escaped (take i words)) (get_or words i 0 ∷ [])
    ∙ ap (λ (bs : List ℕ). old ++ bs) (ap (λ (bs : List ℕ). flat_map escaped (take i words)
    ++ bs) (sym (as_it_is (get_or words i 0) n)) ∙ sym (all_escaped words i h)))))

piece : (words : List ℕ) (i start : ℕ) → start ≤ i → take (i - start) (drop start words) ≡ drop start (take i words)
piece words i start b =
    let e : start + (i - start) ≡ i = omega (arith, b) in sym (drop-take start (i - start) words)
    ∙ ap (λ (n : ℕ). drop start (take n words)) e

-- the piece is copied, and the byte escaped behind it
pub copied : (words : List ℕ) (i start : ℕ) (text old : List ℕ) → start ≤ i → i < length words
    → text ++ drop start (take i words) ≡ old ++ flat_map escaped (take i words)
    → ((text ++ take (i - start) (drop start words)) ++ escaped (get_or words i 0)) ++ drop (i + 1) (take (i + 1) words)
    ≡ old ++ flat_map escaped (take (i + 1) words)
copied words i start text old b h e =
    ap (λ (bs : List ℕ). ((text ++ take (i - start) (drop start words)) ++ escaped (get_or words i 0)) ++ bs)
    (drop_all (i + 1) (take (i + 1) words) (omega (arith, length-take (i + 1) words)))
    ∙ (append-nil _
    ∙ (ap (λ (bs : List ℕ). (text ++ bs) ++ escaped (get_or words i 0)) (piece words i start b)
    ∙ (ap (λ (bs : List ℕ). bs ++ escaped (get_or words i 0)) e
    ∙ (append_assoc old (flat_map escaped (take i words)) (escaped (get_or words i 0))
    ∙ ap (λ (bs : List ℕ). old ++ bs) (sym (all_escaped words i h))))))

-- and what is left at the end
pub at_end : (words : List ℕ) (i start : ℕ) (text old : List ℕ) → i ≡ length words
    → text ++ drop start (take i words) ≡ old ++ flat_map escaped (take i words)
    → text ++ drop start words ≡ old ++ flat_map escaped words
at_end words i start text old h e =
    let all : take i words ≡ words = take_all i words (omega (arith, h)) in
    rw all at e

-- what is escaped is ASCII
pub is_ascii : (byte : ℕ) → needs_escape byte ≡ true → byte < 128
is_ascii byte h = by_tests (byte == 34) refl (byte == 92) refl (nat_lt byte 32) refl (byte == 127) refl (h)
  where
    by_tests : (a : Bool) → (byte == 34) ≡ a → (b : Bool) → (byte == 92) ≡ b → (c : Bool) → nat_lt byte 32 ≡ c
        → (d : Bool) → (byte == 127) ≡ d → (((a || b) || c) || d) ≡ true → byte < 128
    by_tests true p b q c r d s h = let e : byte ≡ 34 = eqb-true byte 34 p in omega arith
    by_tests false p true q c r d s h = let e : byte ≡ 92 = eqb-true byte 92 q in omega arith
    by_tests false p false q true r d s h = let e : byte < 32 = ltb-true byte 32 r in omega arith
    by_tests false p false q false r true s h = let e : byte ≡ 127 = eqb-true byte 127 s in omega arith
    by_tests false p false q false r false s h = cc

pub first_cut : (words : List ℕ) → IsUtf8 words → IsCharBoundary words 0
first_cut words u = IsCharBoundary-start words u

pub next_cut : (words : List ℕ) (i : ℕ) → IsUtf8 words → i < length words → needs_escape (get_or words i 0) ≡ true
    → IsCharBoundary words (i + 1)
next_cut words i u h n = IsCharBoundary-after_ascii words i u h (is_ascii (get_or words i 0) n)
