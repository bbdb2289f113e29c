-- Lists that rise: a sort leaves them as they are.
use Rattle.std.proofs.Common.{ℕ, ◌≡◌, ◌<◌, ◌++◌, suc, zero, Bool, true, false, List, [], ◌∷◌, cond, ap, ◌∙◌, refl}
use Rattle.std.proofs.Common.{arith}
use Rattle.std.specs.Prelude.{All, filter}
use Rattle.std.proofs.lemmas.List.Elements.{All-nil, All-head, All-tail, All-append, All-filter, All-push, All-weaker}
use Rattle.row_values.specs.RowNumbers.{row_numbers}
use Rattle.row_values.specs.Sorting.{put_in, in_order, Rises}

put_first : {X : Type 0} (lt : X → X → Bool) (x : X) (xs : List X) → All (λ y. lt y x ≡ false) xs → put_in lt x xs
    ≡ x ∷ xs
put_first lt x [] a = refl
put_first {X = X} lt x (y ∷ ys) a =
    ap (λ (b : Bool). cond b (y ∷ put_in lt x ys) (x ∷ (y ∷ ys))) (All-head (λ y. lt y x ≡ false) y ys a)

-- a sort leaves a list that rises as it is
pub in_order-rises : {X : Type 0} (lt : X → X → Bool) (xs : List X) → Rises lt xs → in_order lt xs ≡ xs
in_order-rises lt [] r = refl
in_order-rises {X = X} lt (x ∷ xs) r = ap (put_in lt x) (in_order-rises lt xs r.1) ∙ put_first lt x xs r.0

-- and where nothing is less than anything, each list
pub in_order-ties : {X : Type 0} (lt : X → X → Bool) → ((a b : X) → lt a b ≡ false) → (xs : List X) → in_order lt xs
    ≡ xs
in_order-ties {X = X} lt t xs = in_order-rises lt xs (all_rise xs)
  where
    all_rise : (ys : List X) → Rises lt ys
    all_rise [] = tt
    all_rise (y ∷ ys) = (λ k d l. t _ y, all_rise ys)

pub filter_rises : {X : Type 0} (lt : X → X → Bool) (p : X → Bool) (xs : List X) → Rises lt xs → Rises lt (filter p xs)
filter_rises lt p [] r = tt
filter_rises lt p (x ∷ xs) r = by_test (p x) (filter_rises lt p xs r.1)
  where
    by_test : (b : Bool) → Rises lt (filter p xs) → Rises lt (cond b (x ∷ filter p xs) (filter p xs))
    by_test true m = (All-filter p (λ y. lt y x ≡ false) xs r.0, m)
    by_test false m = m

pub append_rises : {X : Type 0} (lt : X → X → Bool) (xs ys : List X) → Rises lt xs → Rises lt ys
    → All (λ x. All (λ y. lt y x ≡ false) ys) xs → Rises lt (xs ++ ys)
append_rises lt [] ys r s h = s
append_rises lt (x ∷ xs) ys r s h = (
  All-append (λ y. lt y x ≡ false) xs ys r.0 (All-head (λ x. All (λ y. lt y x ≡ false) ys) x xs h),
  append_rises lt xs ys r.1 s (All-tail (λ x. All (λ y. lt y x ≡ false) ys) x xs h),
)

pub below : (n : ℕ) → All (λ r. r < n) (row_numbers n)
below zero = All-nil (λ r. r < zero)
below (suc n) = All-push (λ r. r < suc n) (row_numbers n) n
    (All-weaker (λ r. r < n) (λ r. r < suc n) (λ r h. omega (arith, h)) (row_numbers n) (below n)) (omega arith)
