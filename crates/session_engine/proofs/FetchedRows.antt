-- Lines of rows from one position on.
use Rattle.std.proofs.Common.{ℕ, zero, suc, ◌≡◌, ◌<◌, ◌≤◌, ◌+◌, ◌-◌, ◌∙◌, List, [], ◌∷◌, ◌++◌, ap, arith, drop, length}
use Rattle.std.proofs.Common.{map, nat_le, refl, slice_index_or, subst, sym, take, Bool, true, false}
use Rattle.std.proofs.lemmas.Bool.Decides.{nat_tests}

-- one more from the front
front_next : {X : Type 0} (f : List X → List ℕ) (xs : List (List X)) (i : ℕ) → i < length xs
    → take (i + 1) (map f xs) ≡ take i (map f xs) ++ f (slice_index_or xs i []) ∷ []
front_next f [] i less = absurd (omega (arith, less))
front_next f (x ∷ xs) zero less = refl
front_next f (x ∷ xs) (suc i) less =
    let n : suc i + 1 ≡ suc (i + 1) = omega arith in
    ap (λ (m : ℕ). take m (f x ∷ map f xs)) n
    ∙ ap (λ (rest : List (List ℕ)). f x ∷ rest) (front_next f xs i (omega (arith, less)))

-- one more from a position on
pub rows_next : {X : Type 0} (f : List X → List ℕ) (xs : List (List X)) (first i : ℕ) → first ≤ i → i < length xs
    → take (i + 1 - first) (drop first (map f xs))
    ≡ take (i - first) (drop first (map f xs)) ++ f (slice_index_or xs i []) ∷ []
rows_next f [] first i before less = absurd (omega (arith, less))
rows_next f (x ∷ xs) zero i before less =
    let whole : i + 1 - 0 ≡ i + 1 = omega arith in
    let now : i - 0 ≡ i = omega arith in
    ap (λ (m : ℕ). take m (map f (x ∷ xs))) whole
    ∙ (front_next f (x ∷ xs) i less
    ∙ ap (λ (m : ℕ). take m (map f (x ∷ xs)) ++ f (slice_index_or (x ∷ xs) i []) ∷ []) (sym now))
rows_next f (x ∷ xs) (suc first) zero before less = absurd (omega (arith, before))
rows_next f (x ∷ xs) (suc first) (suc i) before less =
    let whole : suc i + 1 - suc first ≡ i + 1 - first = omega arith in
    let now : suc i - suc first ≡ i - first = omega arith in
    ap (λ (m : ℕ). take m (drop first (map f xs))) whole
    ∙ (rows_next f xs first i (omega (arith, before)) (omega (arith, less))
    ∙ ap (λ (m : ℕ). take m (drop first (map f xs)) ++ f (slice_index_or xs i []) ∷ []) (sym now))

-- where the walk ends, it is as far from the first as the end is
pub ends : (first end i : ℕ) → end ≤ i → (first ≤ end → i ≤ end) → (end < first → i ≡ first) → (P : ℕ → Type 0)
    → P (i - first) → P (end - first)
ends first end i past inside none P p = by_test (nat_le first end) refl
  where
    by_test : (test : Bool) → nat_le first end ≡ test → P (end - first)
    by_test true is =
        let some : first ≤ end = grind (arith, nat_tests) in
        let most = inside some in
        subst P (omega (arith, past, most)) p
    by_test false is =
        let before : end < first = grind (arith, nat_tests) in
        let at = none before in
        subst P (omega (arith, before, at)) p
