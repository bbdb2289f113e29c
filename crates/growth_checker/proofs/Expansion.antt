-- The expanded form: what its terms are, what it is worth, and that nothing in it comes down again.
use Rattle.std.proofs.Common.{ℕ, ◌≡◌, ◌^◌, ◌<◌, ◌≤◌, inl, inr, Bool, true, false, ◌||◌, ◌&&◌, List, [], ◌∷◌, ◌++◌}
use Rattle.std.proofs.Common.{length, map, All, arith, refl, sym, ◌∙◌, bit_and, bit_or, slice_index, mul-le-mul}
use Rattle.std.specs.List.{AllByRecursion}
use Rattle.std.proofs.Math.Pow.{pow-lt}
use Rattle.std.proofs.lemmas.Bool.{and_from, or_cases, or_parts, or_left, or_right}
use Rattle.std.proofs.lemmas.List.Elements.{All-from_recursion}
use Rattle.cost_polynomials.specs.Polynomial.{Term, value_of, add_term, gathered, times_term, pair_products, AreApart}
use Rattle.cost_polynomials.specs.Polynomial.{HasLarge, HasNumbers, IsRisingFrom, IsVectorFor}
use Rattle.cost_polynomials.proofs.Terms.{AreTerms, add_cases, terms_rising, terms_products, rising_gathered}
use Rattle.cost_polynomials.proofs.Terms.{some_gathered_new, some_products, large_gathered_new, large_gathered_old}
use Rattle.cost_polynomials.proofs.Evaluation.{large_value}
use Rattle.cost_polynomials.proofs.Values.{value_constant, value_sel, value_gathered, value_product}
use Rattle.growth_checker.specs.Expression.{Formula, Constant, Selectivity, Plus, Times, expanded, mentions, shares}
use Rattle.growth_checker.specs.Expression.{value_at, IsSound, IsUnshared, HasSelectivities}
use Rattle.growth_checker.specs.Sharing.{has, AreProductsApart}
use Rattle.growth_checker.proofs.Sets.{has-or, has-one, has-zero, has_from_bit, sets_apart}

-- each selectivity of the terms is one of these
abbrev pub AreWithin : (ℕ → Bool) → List Term → Type 0
AreWithin these [] = Unit {0}
AreWithin these (t ∷ ts) = ((i : ℕ) → has t.0 i ≡ true → these i ≡ true) × AreWithin these ts

within_more : (few many : ℕ → Bool) (ts : List Term) → ((i : ℕ) → few i ≡ true → many i ≡ true) → AreWithin few ts
    → AreWithin many ts
within_more few many [] h w = tt
within_more few many (t ∷ ts) h w = ((λ i e. h i (w.0 i e)), within_more few many ts h w.1)

within_add : (these : ℕ → Bool) (t : Term) (us : List Term) → ((i : ℕ) → has t.0 i ≡ true → these i ≡ true)
    → AreWithin these us → AreWithin these (add_term t us)
within_add these t [] h w = (h, tt)
within_add these t (u ∷ us) h w =
    add_cases (AreWithin these) t u us
    (λ _. (h, (w.0, w.1)))
    (λ _. (h, w.1))
    (λ _. (w.0, within_add these t us h w.1))

within_gathered : (these : ℕ → Bool) (ts us : List Term) → AreWithin these ts → AreWithin these us
    → AreWithin these (gathered ts us)
within_gathered these [] us h w = w
within_gathered these (t ∷ ts) us h w = within_gathered these ts (add_term t us) h.1 (within_add these t us h.0 w)

within_append : (these : ℕ → Bool) (xs ys : List Term) → AreWithin these xs → AreWithin these ys
    → AreWithin these (xs ++ ys)
within_append these [] ys h k = k
within_append these (x ∷ xs) ys h k = (h.0, within_append these xs ys h.1 k)

within_or : (these : ℕ → Bool) (a b i : ℕ) → (has a i ≡ true → these i ≡ true) → (has b i ≡ true → these i ≡ true)
    → has (bit_or a b) i ≡ true → these i ≡ true
within_or these a b i h k e = elim (or_cases (has a i) (has b i) (sym (has-or a b i) ∙ e)) [ inl x ↦ h x | inr x ↦ k x ]

within_times : (these : ℕ → Bool) (t : Term) (q : List Term) → ((i : ℕ) → has t.0 i ≡ true → these i ≡ true)
    → AreWithin these q → AreWithin these (map (times_term t) q)
within_times these t [] h w = tt
within_times these t (u ∷ us) h w = ((λ i e. within_or these t.0 u.0 i (h i) (w.0 i) e), within_times these t us h w.1)

within_products : (these : ℕ → Bool) (p q : List Term) → AreWithin these p → AreWithin these q
    → AreWithin these (pair_products p q)
within_products these [] q h w = tt
within_products these (t ∷ ts) q h w =
    within_append these (map (times_term t) q) (pair_products ts q) (within_times these t q h.0 w)
    (within_products these ts q h.1 w)

-- the expanded form has no other selectivities than the expression
pub within_expanded : (f : Formula) → AreWithin (mentions f) (expanded f)
within_expanded (Constant n) = ((λ i e. sym (has-zero i) ∙ e), tt)
within_expanded (Selectivity j) = ((λ i e. sym (has-one j i) ∙ e), tt)
within_expanded (Plus left right) =
    within_gathered (mentions (Plus left right)) (expanded left) (expanded right)
    (within_more (mentions left) _ (expanded left) (λ i e. or_left (mentions left i) (mentions right i) e)
    (within_expanded left))
    (within_more (mentions right) _ (expanded right) (λ i e. or_right (mentions left i) (mentions right i) e)
    (within_expanded right))
within_expanded (Times left right) =
    within_gathered (mentions (Times left right)) (pair_products (expanded left) (expanded right)) []
    (within_products (mentions (Times left right)) (expanded left) (expanded right)
    (within_more (mentions left) _ (expanded left) (λ i e. or_left (mentions left i) (mentions right i) e)
    (within_expanded left))
    (within_more (mentions right) _ (expanded right) (λ i e. or_right (mentions left i) (mentions right i) e)
    (within_expanded right)))
    tt

numbers_within : (these : ℕ → Bool) (ts : List Term) (s : List ℕ) → ((i : ℕ) → these i ≡ true → 1 ≤ slice_index s i)
    → AreWithin these ts → AllByRecursion (λ t. HasNumbers t.0 s) ts
numbers_within these [] s h w = tt
numbers_within these (t ∷ ts) s h w = ((λ i e. h i (w.0 i (has_from_bit t.0 i e))), numbers_within these ts s h w.1)

-- a vector of the expression serves the expanded form
pub vector_of_expanded : (f : Formula) (s : List ℕ) → HasSelectivities f s → IsVectorFor (expanded f) s
vector_of_expanded f s h =
    All-from_recursion (λ t. HasNumbers t.0 s) (expanded f) (numbers_within (mentions f) (expanded f) s h
    (within_expanded f))

-- tests that are never true together
never_both : (x y a b : Bool) → (a && b) ≡ false → (x ≡ true → a ≡ true) → (y ≡ true → b ≡ true) → (x && y) ≡ false
never_both true true a b h j k = sym (and_from a b (j refl) (k refl)) ∙ h
never_both true false a b h j k = refl
never_both false true a b h j k = refl
never_both false false a b h j k = refl

term_apart : (these those : ℕ → Bool) (t : Term) (q : List Term) → ((i : ℕ) → (these i && those i) ≡ false)
    → ((i : ℕ) → has t.0 i ≡ true → these i ≡ true) → AreWithin those q → AllByRecursion (λ u. bit_and t.0 u.0 ≡ 0) q
term_apart these those t [] h k w = tt
term_apart these those t (u ∷ us) h k w = (
  sets_apart t.0 u.0 (λ i. never_both (has t.0 i) (has u.0 i) (these i) (those i) (h i) (k i) (w.0 i)),
  term_apart these those t us h k w.1,
)

within_apart : (these those : ℕ → Bool) (p q : List Term) → ((i : ℕ) → (these i && those i) ≡ false) → AreWithin these p
    → AreWithin those q → AllByRecursion (λ t. All (λ u. bit_and t.0 u.0 ≡ 0) q) p
within_apart these those [] q h k w = tt
within_apart these those (t ∷ ts) q h k w = (
  All-from_recursion (λ u. bit_and t.0 u.0 ≡ 0) q (term_apart these those t q h k.0 w),
  within_apart these those ts q h k.1 w,
)

-- the sides of a product that share no selectivity have no variable in common
pub sides_apart : (left right : Formula) → ((i : ℕ) → (mentions left i && mentions right i) ≡ false)
    → AreApart (expanded left) (expanded right)
sides_apart left right h =
    All-from_recursion (λ t. All (λ u. bit_and t.0 u.0 ≡ 0) (expanded right)) (expanded left)
    (within_apart (mentions left) (mentions right) (expanded left) (expanded right) h (within_expanded left)
    (within_expanded right))

-- the two ways to say that no product shares a selectivity
pub apart_from_unshared : (f : Formula) → IsUnshared f → AreProductsApart f
apart_from_unshared (Constant n) h = tt
apart_from_unshared (Selectivity i) h = tt
apart_from_unshared (Plus left right) h = (
  apart_from_unshared left (λ i. (or_parts (shares left i) (shares right i) (h i)).0),
  apart_from_unshared right
      (λ i. (or_parts (shares left i) (shares right i) (h i)).1),
)
apart_from_unshared (Times left right) h =
    let parts : (i : ℕ) → ((shares left i || shares right i) ≡ false)
    × ((mentions left i && mentions right i) ≡ false) =
    λ i. or_parts (shares left i || shares right i) (mentions left i && mentions right i) (h i) in (
      apart_from_unshared left (λ i. (or_parts (shares left i) (shares right i) (parts i).0).0),
      apart_from_unshared right (λ i. (or_parts (shares left i) (shares right i) (parts i).0).1),
      (λ i. (parts i).1),
    )

-- the expanded form is worth what the expression is
pub value_expanded : (f : Formula) (s : List ℕ) → AreProductsApart f → value_of (expanded f) s ≡ value_at f s
value_expanded (Constant n) s h = value_constant n s
value_expanded (Selectivity i) s h = value_sel i s
value_expanded (Plus left right) s h =
    let l = value_expanded left s h.0 in
    let r = value_expanded right s h.1 in
    value_gathered (expanded left) (expanded right) s ∙ rw (l, r) refl
value_expanded (Times left right) s h =
    let l = value_expanded left s h.0 in
    let r = value_expanded right s h.1 in
    value_product (expanded left) (expanded right) s (sides_apart left right h.2) ∙ rw (l, r) refl

-- the expanded form has some terms, in order, each with a coefficient of at least 1
rising_expanded : (f : Formula) → IsSound f → IsRisingFrom 0 (expanded f)
rising_expanded (Constant n) h = (omega arith, omega arith, h, tt)
rising_expanded (Selectivity i) h = (omega arith, pow-lt h, omega arith, tt)
rising_expanded (Plus left right) h =
    rising_gathered (expanded left) (expanded right) (terms_rising 0 (expanded left) (rising_expanded left h.0))
    (rising_expanded right h.1)
rising_expanded (Times left right) h =
    rising_gathered (pair_products (expanded left) (expanded right)) []
    (terms_products (expanded left) (expanded right) (terms_rising 0 (expanded left) (rising_expanded left h.0))
    (terms_rising 0 (expanded right) (rising_expanded right h.1)))
    tt

terms_expanded : (f : Formula) → IsSound f → AreTerms (expanded f)
terms_expanded f h = terms_rising 0 (expanded f) (rising_expanded f h)

some_expanded : (f : Formula) → 0 < length (expanded f)
some_expanded (Constant n) = omega arith
some_expanded (Selectivity i) = omega arith
some_expanded (Plus left right) = some_gathered_new (expanded left) (expanded right) (some_expanded left)
some_expanded (Times left right) =
    some_gathered_new (pair_products (expanded left) (expanded right)) []
    (some_products (expanded left) (expanded right) (some_expanded left) (some_expanded right))

-- a large coefficient of a factor is one of the product

large_append_left : (xs ys : List Term) → HasLarge xs → HasLarge (xs ++ ys)
large_append_left [] ys h = absurd h
large_append_left (x ∷ xs) ys h = elim h [ inl e ↦ inl e | inr e ↦ inr (large_append_left xs ys e) ]

large_append_right : (xs ys : List Term) → HasLarge ys → HasLarge (xs ++ ys)
large_append_right [] ys h = h
large_append_right (x ∷ xs) ys h = inr (large_append_right xs ys h)

large_times_new : (t : Term) (q : List Term) → 2 ^ 128 ≤ t.1 → AreTerms q → 0 < length q
    → HasLarge (map (times_term t) q)
large_times_new t [] h k l = absurd (omega arith)
large_times_new t (u ∷ us) h k l = inl (mul-le-mul {n₁ = 2 ^ 128} {m₁ = 1} {n₂ = t.1} {m₂ = u.1} h k.1)

large_times_old : (t : Term) (q : List Term) → 1 ≤ t.1 → HasLarge q → HasLarge (map (times_term t) q)
large_times_old t [] h k = absurd k
large_times_old t (u ∷ us) h k = elim k [
  | inl e ↦ inl (mul-le-mul {n₁ = 1} {m₁ = 2 ^ 128} {n₂ = t.1} {m₂ = u.1} h e)
  | inr e ↦ inr (large_times_old t us h e)
]

large_products_left : (p q : List Term) → HasLarge p → AreTerms q → 0 < length q → HasLarge (pair_products p q)
large_products_left [] q h k l = absurd h
large_products_left (t ∷ ts) q h k l = elim h [
  | inl e ↦ large_append_left (map (times_term t) q) (pair_products ts q) (large_times_new t q e k l)
  | inr e ↦ large_append_right (map (times_term t) q) (pair_products ts q) (large_products_left ts q e k l)
]

large_products_right : (p q : List Term) → AreTerms p → 0 < length p → HasLarge q → HasLarge (pair_products p q)
large_products_right [] q h l k = absurd (omega arith)
large_products_right (t ∷ ts) q h l k =
    large_append_left (map (times_term t) q) (pair_products ts q) (large_times_old t q h.1 k)

pub large_sum_left : (left right : Formula) → HasLarge (expanded left) → HasLarge (expanded (Plus left right))
large_sum_left left right h = large_gathered_new (expanded left) (expanded right) h

pub large_sum_right : (left right : Formula) → HasLarge (expanded right) → HasLarge (expanded (Plus left right))
large_sum_right left right h = large_gathered_old (expanded left) (expanded right) h

pub large_product_left : (left right : Formula) → IsSound right → HasLarge (expanded left)
    → HasLarge (expanded (Times left right))
large_product_left left right s h =
    large_gathered_new (pair_products (expanded left) (expanded right)) []
    (large_products_left (expanded left) (expanded right) h (terms_expanded right s) (some_expanded right))

pub large_product_right : (left right : Formula) → IsSound left → HasLarge (expanded right)
    → HasLarge (expanded (Times left right))
large_product_right left right s h =
    large_gathered_new (pair_products (expanded left) (expanded right)) []
    (large_products_right (expanded left) (expanded right) (terms_expanded left s) (some_expanded left) h)

-- an expression whose expanded form has a large coefficient is large at every vector
pub large_value_at : (f : Formula) (s : List ℕ) → IsUnshared f → HasSelectivities f s → HasLarge (expanded f)
    → 2 ^ 128 ≤ value_at f s
large_value_at f s u v h =
    let e = value_expanded f s (apart_from_unshared f u) in
    let big = large_value (expanded f) s (vector_of_expanded f s v) h in
    omega (arith, e, big)
