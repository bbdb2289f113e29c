-- Row numbers that are counted: the first of those that are left, and the others.
use Rattle.std.proofs.Common.{ℕ, zero, suc, ◌≡◌, ◌<◌, ◌≤◌, ◌+◌, ◌++◌, List, [], ◌∷◌, length, drop, ap, sym, ◌∙◌, refl, subst}
use Rattle.std.proofs.Common.{◌⊎◌, inl, inr, arith, length-append}
use Rattle.std.proofs.lemmas.Bool.{cases_lt}
use Rattle.std.proofs.lemmas.List.{drop-append-le, drop_all, drop_at}
use Rattle.row_values.specs.RowNumbers.{row_numbers}

pub length_numbers : (n : ℕ) → length (row_numbers n) ≡ n
length_numbers zero = refl
length_numbers (suc n) = let e = length_numbers n in length-append (row_numbers n) (n ∷ []) ∙ omega (arith, e)

pub none_left : (n i : ℕ) → n ≤ i → drop i (row_numbers n) ≡ []
none_left n i high = drop_all i (row_numbers n) (let e = length_numbers n in omega (arith, e, high))

pub first_left : (n i : ℕ) → i < n → drop i (row_numbers n) ≡ i ∷ drop (i + 1) (row_numbers n)
first_left zero i low = absurd (omega (arith, low))
first_left (suc n) i low = by_order (first_left n i) (cases_lt i n)
  where
    by_order : (i < n → drop i (row_numbers n) ≡ i ∷ drop (i + 1) (row_numbers n)) → (i < n) ⊎ (n ≤ i)
        → drop i (row_numbers n ++ n ∷ []) ≡ i ∷ drop (i + 1) (row_numbers n ++ n ∷ [])
    by_order before (inl h) =
        let e = length_numbers n in
        drop-append-le i (row_numbers n) (n ∷ []) (omega (arith, e, h))
        ∙ (ap (λ (xs : List ℕ). xs ++ n ∷ []) (before h)
        ∙ ap (λ (xs : List ℕ). i ∷ xs) (sym (drop-append-le (i + 1) (row_numbers n) (n ∷ []) (omega (arith, e, h)))))
    by_order before (inr h) =
        let e : n ≡ i = omega (arith, h, low) in
        let l = length-append (row_numbers n) (n ∷ []) in
        let m = length_numbers n in
        subst (λ (k : ℕ). drop k (row_numbers n ++ n ∷ []) ≡ k ∷ drop (k + 1) (row_numbers n ++ n ∷ [])) e
        (drop_at (row_numbers n) (n ∷ []) n m
        ∙ ap (λ (xs : List ℕ). n ∷ xs) (sym (drop_all (n + 1) (row_numbers n ++ n ∷ []) (omega (arith, l, m)))))
