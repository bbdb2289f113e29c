-- A list that is cut where a test turns: what passes stands on the one side.
use Rattle.std.proofs.Common.{ℕ, zero, suc, ◌≡◌, ◌≤◌, ◌<◌, ◌*◌, ◌&&◌, Bool, true, false, cond, not, nat_le, List, []}
use Rattle.std.proofs.Common.{◌∷◌}
use Rattle.std.proofs.Common.{length, take, drop, slice_index_or, ap, sym, ◌∙◌, refl, arith, mul-le-mul_left}
use Rattle.std.proofs.Common.{mul-le-mul_right}
use Rattle.std.specs.List.{AllWithin, filter}
use Rattle.std.specs.List.Sorted.{IsNonDecreasingBy, IsPartitionPoint, IsPartitionedBy}
use Rattle.std.proofs.lemmas.Bool.{le-leb, leb-true, leb-false, lt-leb, not-true}
use Rattle.anchor_cache.specs.declared.window.WindowEntry.{WindowEntry}

-- Cutting.

kept_by : {X : Type 0} (b : Bool) (x : X) (rest : List X) → b ≡ true → cond b (x ∷ rest) rest ≡ x ∷ rest
kept_by b x rest e = ap (λ t. cond t (x ∷ rest) rest) e

left_by : {X : Type 0} (b : Bool) (x : X) (rest : List X) → b ≡ false → cond b (x ∷ rest) rest ≡ rest
left_by b x rest e = ap (λ t. cond t (x ∷ rest) rest) e

none_kept : {X : Type 0} (p : X → Bool) (xs : List X) → AllWithin (λ x. p x ≡ false) xs 0 (length xs)
    → filter p xs ≡ []
none_kept p [] h = refl
none_kept p (x ∷ xs) h = left_by (p x) x (filter p xs) (h 0 x (omega arith) (omega arith))
    ∙ none_kept p xs (λ k d low high. h (suc k) d (omega arith) (omega arith))

all_kept : {X : Type 0} (p : X → Bool) (xs : List X) → AllWithin (λ x. p x ≡ true) xs 0 (length xs)
    → filter p xs ≡ xs
all_kept p [] h = refl
all_kept p (x ∷ xs) h = kept_by (p x) x (filter p xs) (h 0 x (omega arith) (omega arith))
    ∙ ap (λ rest. x ∷ rest) (all_kept p xs (λ k d low high. h (suc k) d (omega arith) (omega arith)))

pub kept_below : {X : Type 0} (p : X → Bool) (xs : List X) (i : ℕ)
    → IsPartitionPoint (λ x. p x ≡ true) (λ x. p x ≡ false) xs i → filter p xs ≡ take i xs
kept_below p [] zero h = refl
kept_below p [] (suc i) h = refl
kept_below p (x ∷ xs) zero h = none_kept p (x ∷ xs) h.1
kept_below p (x ∷ xs) (suc i) h = kept_by (p x) x (filter p xs) (h.0 0 x (omega arith) (omega arith))
    ∙ ap (λ rest. x ∷ rest)
    (kept_below p xs i (
      λ k d low high. h.0 (suc k) d (omega arith) (omega arith),
      λ k d low high. h.1 (suc k) d (omega arith) (omega
          arith),
    ))

pub kept_from : {X : Type 0} (p : X → Bool) (xs : List X) (i : ℕ)
    → IsPartitionPoint (λ x. not (p x) ≡ true) (λ x. not (p x) ≡ false) xs i → filter p xs ≡ drop i xs
kept_from p [] zero h = refl
kept_from p [] (suc i) h = refl
kept_from p (x ∷ xs) zero h = all_kept p (x ∷ xs) (λ k d low high. passes (p (slice_index_or (x ∷ xs) k d))
    (h.1 k d low high))
  where
    passes : (b : Bool) → not b ≡ false → b ≡ true
    passes true e = refl
    passes false e = sym e
kept_from p (x ∷ xs) (suc i) h =
    left_by (p x) x (filter p xs) (not-true (p x) (h.0 0 x (omega arith) (omega arith)))
    ∙ kept_from p xs i (
      λ k d low high. h.0 (suc k) d (omega arith) (omega arith),
      λ k d low high. h.1 (suc k) d (omega arith) (omega
          arith),
    )

both_by : {X : Type 0} (a : Bool) (p : X → Bool) (x : X) (xs ys : List X) → filter p xs ≡ ys
    → filter p (cond a (x ∷ xs) xs) ≡ cond (a && p x) (x ∷ ys) ys
both_by true p x xs ys e = ap (λ rest. cond (p x) (x ∷ rest) rest) e
both_by false p x xs ys e = e

pub filter_both : {X : Type 0} (p r : X → Bool) (xs : List X) → filter r (filter p xs) ≡ filter (λ x. p x && r x) xs
filter_both p r [] = refl
filter_both p r (x ∷ xs) = both_by (p x) r x (filter p xs) (filter (λ y. p y && r y) xs) (filter_both p r xs)

-- The two ends of the window.

abbrev pub is_low_enough : ℕ → ℕ → ℕ → WindowEntry → Bool
is_low_enough num den first entry = nat_le (entry.first * den) (num * first)

abbrev pub is_high_enough : ℕ → ℕ → ℕ → WindowEntry → Bool
is_high_enough num den first entry = nat_le (first * den) (num * entry.first)

pub low_first : (num den first : ℕ) (entries : List WindowEntry) → IsNonDecreasingBy (λ entry. entry.first) entries
    → IsPartitionedBy (is_low_enough num den first) entries
low_first num den first entries rising i j d before inside e =
    let a : (slice_index_or entries i d).first ≤ (slice_index_or entries j d).first = rising i j d before inside in
    let b = mul-le-mul_right den a in
    let c = leb-true ((slice_index_or entries j d).first * den) (num * first) e in
    le-leb ((slice_index_or entries i d).first * den) (num * first) (omega arith)

pub high_last : (num den first : ℕ) (entries : List WindowEntry) → IsNonDecreasingBy (λ entry. entry.first) entries
    → IsPartitionedBy (λ entry. not (is_high_enough num den first entry)) entries
high_last num den first entries rising i j d before inside e =
    let a : (slice_index_or entries i d).first ≤ (slice_index_or entries j d).first = rising i j d before inside in
    let b = mul-le-mul_left num a in
    let c = leb-false (first * den) (num * (slice_index_or entries j d).first)
    (not-true (is_high_enough num den first (slice_index_or entries j d)) e) in
    ap not (lt-leb (first * den) (num * (slice_index_or entries i d).first) (omega arith))
