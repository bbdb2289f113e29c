-- Lists that two tests cut: the first of them fails the front, and the second fails the rest.
use Rattle.std.proofs.Common.{ℕ, zero, suc, ◌≡◌, ◌≤◌, ◌-◌, Bool, true, false, not, ◌&&◌, List, [], ◌∷◌, ap, sym, ◌∙◌}
use Rattle.std.proofs.Common.{refl, length, take, drop, arith, max}
use Rattle.std.specs.List.{count_by, filter, slice_range}
use Rattle.std.specs.List.Sorted.{IsPartitionPoint}
use Rattle.std.proofs.lemmas.Bool.{false≢true}
use Rattle.std.proofs.lemmas.List.Sums.{length-filter}
use Rattle.table_index.specs.Cuts.{Cut}

and_no : (a : Bool) → (a && false) ≡ false
and_no true = refl
and_no false = refl

passes : (a : Bool) → not a ≡ false → a ≡ true
passes true h = refl
passes false h = absurd (false≢true (sym h))

fails : (a : Bool) → not a ≡ true → a ≡ false
fails true h = absurd (false≢true h)
fails false h = refl

-- where all elements fail a test, it cuts before the first, and where all pass, behind the last
pub cut_none : {X : Type 0} (p : X → Bool) (xs : List X) → ((x : X) → p x ≡ false) → Cut p xs 0
cut_none p [] h = tt
cut_none p (x ∷ xs) h = (h x, cut_none p xs h)

pub cut_all : {X : Type 0} (p : X → Bool) (xs : List X) → ((x : X) → p x ≡ true) → Cut p xs (length xs)
cut_all p [] h = tt
cut_all p (x ∷ xs) h = (h x, cut_all p xs h)

-- what `partition_point` finds is a cut
pub cut_from_point : {X : Type 0} (p : X → Bool) (xs : List X) (k : ℕ) → k ≤ length xs
    → IsPartitionPoint (λ y. p y ≡ true) (λ y. p y ≡ false) xs k → Cut p xs k
cut_from_point p [] zero l h = tt
cut_from_point p [] (suc k) l h = absurd (omega (arith, l))
cut_from_point p (x ∷ xs) zero l h = (
  h.1 zero x (omega arith) (omega arith),
  cut_from_point p xs zero (omega arith)
      ((λ k d a b. absurd (omega (arith, b))), (λ k d a b. h.1 (suc k) d (omega arith) (omega (arith, b)))),
)
cut_from_point p (x ∷ xs) (suc k) l h = (
  h.0 zero x (omega arith) (omega arith),
  cut_from_point p xs k (omega (arith, l)) (
    (λ i d a b. h.0 (suc i) d (omega arith) (omega (arith, b))),
    (λ i d a b. h.1 (suc i) d (omega (arith, a)) (omega (arith, b))),
  ),
)

-- the cut is how many pass
pub cut_counts : {X : Type 0} (p : X → Bool) (xs : List X) (k : ℕ) → Cut p xs k → k ≡ count_by p xs
cut_counts p xs k c = kept p xs k c ∙ length-filter p xs
  where
    kept : {X : Type 0} (p : X → Bool) (xs : List X) (k : ℕ) → Cut p xs k → k ≡ length (filter p xs)
    kept p [] zero c = refl
    kept p [] (suc k) c = absurd c
    kept p (x ∷ xs) zero c = rw c.0 (kept p xs zero c.1)
    kept p (x ∷ xs) (suc k) c = rw c.0 (ap suc (kept p xs k c.1))

-- What lies between: neither the front that fails the first test nor the rest that fails the second.
between : {X : Type 0} (low high : X → Bool) (xs : List X) (first end n : ℕ) → Cut (λ x. not (low x)) xs first
    → Cut high xs end → n ≡ end - first
    → take n (drop first xs) ≡ filter (λ x. low x && high x) xs
between low high [] zero zero n a b e = let none : n ≡ 0 = omega (arith, e) in rw none refl
between low high [] (suc first) end n a b e = absurd a
between low high [] zero (suc end) n a b e = absurd b
between low high (x ∷ xs) zero zero n a b e =
    let none : n ≡ 0 = omega (arith, e) in
    let more = between low high xs zero zero 0 a.1 b.1 refl in
    rw (none, b.0, and_no (low x)) more
between low high (x ∷ xs) zero (suc end) n a b e =
    let all : n ≡ suc end = omega (arith, e) in
    let more = between low high xs zero end end a.1 b.1 (omega arith) in
    rw (all, b.0, passes (low x) a.0) (ap (λ (zs : List _). x ∷ zs) more)
between low high (x ∷ xs) (suc first) zero n a b e =
    let none : n ≡ 0 = omega (arith, e) in
    let more = between low high xs first zero 0 a.1 b.1 (omega arith) in
    rw (none, fails (low x) a.0) more
between low high (x ∷ xs) (suc first) (suc end) n a b e =
    let more = between low high xs first end n a.1 b.1 (omega (arith, e)) in
    rw (fails (low x) a.0) more

pub between_cuts : {X : Type 0} (low high : X → Bool) (xs : List X) (first end : ℕ) → Cut (λ x. not (low x)) xs first
    → Cut high xs end
    → slice_range xs first (max end first) ≡ filter (λ x. low x && high x) xs
between_cuts low high xs first end a b = between low high xs first end (max end first - first) a b (omega arith)
