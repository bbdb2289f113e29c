-- How often an element stands in a list, and lists that have each element equally often.
use Rattle.std.proofs.Common.{ℕ, ◌≡◌, ◌<◌, ◌≤◌, ◌+◌, ◌++◌, suc, zero, Bool, true, false, List, [], ◌∷◌, cond, ap, sym}
use Rattle.std.proofs.Common.{◌∙◌, refl, subst, arith, ◌⊎◌, inl, inr}
use Rattle.std.specs.Prelude.{All, filter, nat_eq, IsPermutation, sum_by}
use Rattle.std.proofs.lemmas.Bool.{false≢true, eqb-true, eq-eqb, ne_eqb, cases_eq}
use Rattle.std.proofs.lemmas.List.Elements.{All-head, All-tail, All-cons, All-nil}
use Rattle.std.proofs.lemmas.List.Recursion.{is_sum_by}
use Rattle.std.proofs.lemmas.List.Sorted.{sum_by-IsPermutation}
use Rattle.std.proofs.lemmas.Slice.Eq.{bytes_eq-Decides}
use Rattle.row_values.specs.RowNumbers.{row_numbers}
use Rattle.std.specs.Str.{bytes_eq}
use Rattle.row_values.specs.Sorting.{times}

-- a test that is equality
pub record IsExact {X : Type 0} (same : X → X → Bool) : Type 0 where
  pub one : (a b : X) → same a b ≡ true → a ≡ b
  pub itself : (a : X) → same a a ≡ true

pub exact_lists : IsExact bytes_eq
exact_lists = record {
  one = λ a b e. grind (arith, bytes_eq-Decides a b);
  itself =
      λ a. grind (arith, bytes_eq-Decides a a);
}

pub exact_numbers : IsExact nat_eq
exact_numbers = record { one = λ a b e. eqb-true a b e; itself = λ a. eq-eqb a a refl }

pub times-append : {X : Type 0} (same : X → X → Bool) (c : X) (xs ys : List X) → times same c (xs ++ ys)
    ≡ times same c xs + times same c ys
times-append same c [] ys = grind arith
times-append same c (x ∷ xs) ys =
    let more = times-append same c xs ys in
    elim (same c x) as (λ b. cond b (suc (times same c (xs ++ ys))) (times same c (xs ++ ys))
    ≡ cond b (suc (times same c xs)) (times same c xs) + times same c ys)
    [ true ↦ omega (arith, more) | false ↦ more ]

-- a filter keeps what passes as often as it stands
pub times-filter : {X : Type 0} (same : X → X → Bool) → IsExact same → (p : X → Bool) (c : X) → p c ≡ true
    → (xs : List X) → times same c (filter p xs) ≡ times same c xs
times-filter same e p c h [] = refl
times-filter same e p c h (x ∷ xs) = by_test (times-filter same e p c h xs) (same c x) refl (p x) refl
  where
    by_test : times same c (filter p xs) ≡ times same c xs → (b : Bool) → same c x ≡ b → (k : Bool) → p x ≡ k
        → times same c (cond k (x ∷ filter p xs) (filter p xs)) ≡ cond b (suc (times same c xs)) (times same c xs)
    by_test more true a true f = rw a (ap suc more)
    by_test more true a false f = absurd (false≢true (sym f ∙ ap p (sym (e.one c x a)) ∙ h))
    by_test more false a true f = rw a more
    by_test more false a false f = more

-- and nothing else
pub times-filter_out : {X : Type 0} (same : X → X → Bool) → IsExact same → (p : X → Bool) (c : X) → p c ≡ false
    → (xs : List X) → ◌≡◌ {A = ℕ} (times same c (filter p xs)) 0
times-filter_out same e p c h [] = refl
times-filter_out same e p c h (x ∷ xs) = by_test (times-filter_out same e p c h xs) (p x) refl (same c x) refl
  where
    by_test : ◌≡◌ {A = ℕ} (times same c (filter p xs)) 0 → (k : Bool) → p x ≡ k → (b : Bool) → same c x ≡ b
        → ◌≡◌ {A = ℕ} (times same c (cond k (x ∷ filter p xs) (filter p xs))) 0
    by_test more true f true a = absurd (false≢true (sym h ∙ (ap p (e.one c x a) ∙ f)))
    by_test more true f false a = rw a more
    by_test more false f b a = more

-- what stands in a list has what all of it have
pub times_all : {X : Type 0} (same : X → X → Bool) → IsExact same → (P : X → Type 0) (c : X) (n : ℕ) (xs : List X)
    → All P xs → times same c xs ≡ suc n → P c
times_all same e P c n [] a h = absurd (omega (arith, h))
times_all same e P c n (x ∷ xs) a h = by_test (same c x) refl h (λ k. times_all same e P c n xs (All-tail P x xs a) k)
  where
    by_test : (b : Bool) → same c x ≡ b → cond b (suc (times same c xs)) (times same c xs) ≡ suc n
        → (times same c xs ≡ suc n → P c) → P c
    by_test true t k more = subst P (sym (e.one c x t)) (All-head P x xs a)
    by_test false t k more = more k

pub times_head : {X : Type 0} (same : X → X → Bool) → IsExact same → (x : X) (xs : List X) → times same x (x ∷ xs)
    ≡ suc (times same x xs)
times_head same e x xs = ap (λ (b : Bool). cond b (suc (times same x xs)) (times same x xs)) (e.itself x)

pub times_rest : {X : Type 0} (same : X → X → Bool) (c x : X) (xs ys : List X) → times same c (x ∷ xs)
    ≡ times same c (x ∷ ys) → times same c xs ≡ times same c ys
times_rest same c x xs ys h = by_test (same c x) h
  where
    by_test : (b : Bool)
        → ◌≡◌ {A = ℕ} (cond b (suc (times same c xs)) (times same c xs))
        (cond b (suc (times same c ys)) (times same c ys)) → times same c xs ≡ times same c ys
    by_test true k = omega (arith, k)
    by_test false k = k

-- what holds of all that stands in a list, by counting
pub all_by_times : {X : Type 0} (same : X → X → Bool) → IsExact same → (P : X → Type 0) (xs : List X)
    → ((c : X) (n : ℕ) → times same c xs ≡ suc n → P c) → All P xs
all_by_times same e P [] h = All-nil P
all_by_times same e P (x ∷ xs) h =
    All-cons P x xs (h x (times same x xs) (times_head same e x xs)) (all_by_times same e P xs more)
  where
    more : (c : _) (n : ℕ) → times same c xs ≡ suc n → P c
    more c n k = by_test (same c x) refl
      where
        by_test : (b : Bool) → same c x ≡ b → P c
        by_test true a = h c (suc n) (ap (λ (b : Bool). cond b (suc (times same c xs)) (times same c xs)) a ∙ ap suc k)
        by_test false a = h c n (ap (λ (b : Bool). cond b (suc (times same c xs)) (times same c xs)) a ∙ k)

-- Lists that have each element equally often.
abbrev pub HaveSame : {X : Type 0} → (X → X → Bool) → List X → List X → Type 0
HaveSame {X} same xs ys = (c : X) → times same c xs ≡ times same c ys

pub all_of_same : {X : Type 0} (same : X → X → Bool) → IsExact same → (P : X → Type 0) (xs ys : List X)
    → HaveSame same xs ys → All P xs → All P ys
all_of_same same e P xs ys h a = all_by_times same e P ys (λ c n k. times_all same e P c n xs a (h c ∙ k))

pub filter_of_same : {X : Type 0} (same : X → X → Bool) → IsExact same → (p : X → Bool) (xs ys : List X)
    → HaveSame same xs ys → HaveSame same (filter p xs) (filter p ys)
filter_of_same same e p xs ys h c = by_test (p c) refl
  where
    by_test : (b : Bool) → p c ≡ b → times same c (filter p xs) ≡ times same c (filter p ys)
    by_test true k = times-filter same e p c k xs ∙ (h c ∙ sym (times-filter same e p c k ys))
    by_test false k = times-filter_out same e p c k xs ∙ sym (times-filter_out same e p c k ys)

-- a list in another order has the same elements
pub same_from_permutation : {X : Type 0} (same : X → X → Bool) (xs ys : List X) → IsPermutation xs ys
    → HaveSame same xs ys
same_from_permutation {X = X} same xs ys p c =
    let is : (zs : List X) → times same c zs ≡ sum_by (λ z. cond (same c z) 1 0) zs =
    is_sum_by (times same c) (λ z. cond (same c z) 1 0) refl one_more in
    is xs ∙ (sym (sum_by-IsPermutation (λ z. cond (same c z) 1 0) xs ys p) ∙ sym (is ys))
  where
    one_more : (z : X) (zs : List X) → times same c (z ∷ zs) ≡ cond (same c z) 1 0 + times same c zs
    one_more z zs = elim (same c z) as (λ b. ◌≡◌ {A = ℕ} (cond b (suc (times same c zs)) (times same c zs))
        (cond b 1 0 + times same c zs)) [ true ↦ omega arith | false ↦ omega arith ]

-- each row number below a count stands once among the row numbers
pub times_row_numbers : (n row : ℕ) → row < n → times nat_eq row (row_numbers n) ≡ 1
times_row_numbers zero row h = absurd (omega (arith, h))
times_row_numbers (suc n) row h = times-append nat_eq row (row_numbers n) (n ∷ [])
    ∙ by_place (times_row_numbers n row) (cases_eq row n)
  where
    past : (m : ℕ) → m ≤ row → times nat_eq row (row_numbers m) ≡ 0
    past zero k = refl
    past (suc m) k = times-append nat_eq row (row_numbers m) (m ∷ [])
        ∙ rw (past m (omega (arith, k)), ne_eqb row m (λ e. omega (arith, k, e))) (omega arith)

    by_place : (row < n → times nat_eq row (row_numbers n) ≡ 1) → (row ≡ n) ⊎ (row ≡ n → ⊥)
        → times nat_eq row (row_numbers n) + times nat_eq row (n ∷ []) ≡ 1
    by_place less (inl e) = rw (past n (omega (arith, e)), eq-eqb row n e) (omega arith)
    by_place less (inr k) = rw (less (omega (arith, h, k)), ne_eqb row n k) (omega arith)
