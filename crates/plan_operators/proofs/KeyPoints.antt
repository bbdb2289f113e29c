-- Where the elements end of which something holds, in a list that has these first.
use Rattle.std.proofs.Common.{ℕ, zero, suc, ◌≡◌, ◌<◌, ◌≤◌, ◌-◌, ◌⊎◌, inl, inr, Bool, true, false, not, List, length, get_or}
use Rattle.std.proofs.Common.{sym, ◌∙◌, refl, arith}
use Rattle.std.specs.List.Sorted.{IsPartitionedBy}
use Rattle.std.specs.Ordering.{is_ge, is_le}
use Rattle.std.specs.declared.cmp.Ordering.{Ordering}
use Rattle.std.specs.declared.cmp.Ordering.TheVariants.{Less, Equal, Greater}
use Rattle.std.proofs.lemmas.Bool.{false≢true}
use Rattle.plan_operators.specs.BuildSides.{IsPointOf}

-- it is the position of an element that fails behind one that holds
pub point_from_guess : {X : Type 0} (p : X → Bool) (xs : List X) (i : ℕ) → i < length xs
    → ((d : X) → p (get_or xs i d) ≡ false)
    → (i ≡ 0) ⊎ ((d : X) → p (get_or xs (i - 1) d) ≡ true)
    → IsPartitionedBy p xs → IsPointOf p xs i
point_from_guess {X = X} p xs i l fails before b = (
  λ k d low high. held before k d high,
  λ k d low high. by_test k d low high (p (get_or xs k d)) refl,
)
  where
    held : (i ≡ 0) ⊎ ((d : X) → p (get_or xs (i - 1) d) ≡ true) → (k : ℕ) (d : X) → k < i → p (get_or xs k d) ≡ true
    held (inl none) k d high = absurd (omega (arith, none, high))
    held (inr holds) k d high = b k (i - 1) d (omega (arith, high)) (omega (arith, l, high)) (holds d)

    by_test : (k : ℕ) (d : X) → i ≤ k → k < length xs → (t : Bool) → p (get_or xs k d) ≡ t → p (get_or xs k d) ≡ false
    by_test k d low high false e = e
    by_test k d low high true e = absurd (false≢true (sym (fails d) ∙ b i k d low high e))

-- it is where the first one stands that fails, from a position on before which all hold
pub point_from_run : {X : Type 0} (p q : X → Bool) → ((x : X) → p x ≡ true → q x ≡ true) → (xs : List X) (first end : ℕ)
    → IsPointOf p xs first
    → ((k : ℕ) (d : X) → first ≤ k → k < end → q (get_or xs k d) ≡ true)
    → ((d : X) → end < length xs → q (get_or xs end d) ≡ false)
    → IsPartitionedBy q xs → IsPointOf q xs end
point_from_run {X = X} p q follows xs first end start run stop b = (
  λ k d low high. held k d high (side k first),
  λ k d low high. by_test k d low high (q (get_or xs k d)) refl,
)
  where
    side : (k n : ℕ) → (k < n) ⊎ (n ≤ k)
    side k zero = inr (omega arith)
    side zero (suc n) = inl (omega arith)
    side (suc k) (suc n) = up (side k n)
      where
        up : (k < n) ⊎ (n ≤ k) → (suc k < suc n) ⊎ (suc n ≤ suc k)
        up (inl l) = inl (omega (arith, l))
        up (inr l) = inr (omega (arith, l))

    held : (k : ℕ) (d : X) → k < end → (k < first) ⊎ (first ≤ k) → q (get_or xs k d) ≡ true
    held k d high (inl l) = follows (get_or xs k d) (start.0 k d (omega arith) l)
    held k d high (inr l) = run k d l high

    by_test : (k : ℕ) (d : X) → end ≤ k → k < length xs → (t : Bool) → q (get_or xs k d) ≡ t → q (get_or xs k d) ≡ false
    by_test k d low high false e = e
    by_test k d low high true e =
        absurd (false≢true (sym (stop d (omega (arith, low, high))) ∙ b end k d low high e))

-- what is below isn't above
pub below_up_to : (o : Ordering) → not (is_ge o) ≡ true → is_le o ≡ true
below_up_to Less h = refl
below_up_to Equal h = absurd (false≢true h)
below_up_to Greater h = absurd (false≢true h)
