-- How terms are added to terms, one by one.
use Rattle.std.proofs.Common.{ℕ, zero, suc, ◌≡◌, ◌+◌, ◌<◌, ◌≤◌, ◌^◌, ◌⊎◌, inl, inr, List, [], ◌∷◌, ◌++◌, length, get_or}
use Rattle.std.proofs.Common.{take, drop, set, insert, map, arith, refl, ap, subst, sym, ◌∙◌, add-one}
use Rattle.std.proofs.Math.Nat.{mul-le-mul}
use Rattle.std.proofs.lemmas.Nat.{or_of_8}
use Rattle.std.proofs.lemmas.List.{drop_more, take_more, append_assoc, set_split}
use Rattle.std.proofs.lemmas.Bool.Decides.{nat_tests}
use Rattle.cost_polynomials.specs.Polynomial.{Term, add_term, gathered, times_term, pair_products, poly_sum}
use Rattle.cost_polynomials.specs.Polynomial.{poly_product, AllFit, HasLarge, IsPolynomial, IsRisingFrom}

-- where a term goes

pub add_term-above : (t u : Term) (us : List Term) → u.0 < t.0 → add_term t (u ∷ us) ≡ u ∷ add_term t us
add_term-above t u us h = grind (arith, nat_tests)

pub add_term-same : (t u : Term) (us : List Term) → t.0 ≡ u.0 → add_term t (u ∷ us) ≡ (t.0, t.1 + u.1) ∷ us
add_term-same t u us h = grind (arith, nat_tests)

pub add_term-below : (t u : Term) (us : List Term) → t.0 < u.0 → add_term t (u ∷ us) ≡ t ∷ u ∷ us
add_term-below t u us h = grind (arith, nat_tests)

compared : (m n : ℕ) → (m < n) ⊎ ((m ≡ n) ⊎ (n < m))
compared m n = grind arith

-- a fact about terms with one more, by the mask of the first of them
pub add_cases : (P : List Term → Type 0) (t u : Term) (us : List Term) → (t.0 < u.0 → P (t ∷ u ∷ us))
    → (t.0 ≡ u.0 → P ((t.0, t.1 + u.1) ∷ us)) → (u.0 < t.0 → P (u ∷ add_term t us)) → P (add_term t (u ∷ us))
add_cases P t u us below same above =
    elim (compared t.0 u.0) [
      | inl k ↦ subst P (sym (add_term-below t u us k)) (below k)
      | inr w ↦ elim w [
        | inl k ↦ subst P (sym (add_term-same t u us k)) (same k)
        | inr k ↦ subst P (sym (add_term-above t u us k)) (above k)
      ]
    ]

pub place_more : (ts : List Term) (t d : Term) (i : ℕ) → i < length ts → (get_or ts i d).0 < t.0 → add_term t ts
    ≡ take i ts ++ add_term t (drop i ts) → add_term t ts ≡ take (i + 1) ts ++ add_term t (drop (i + 1) ts)
place_more ts t d i h k e =
    let u = get_or ts i d in
    let rest = drop (i + 1) ts in
    let split : drop i ts ≡ u ∷ rest = drop_more ts i d h in
    e ∙ ap (λ xs. take i ts ++ xs) (ap (add_term t) split ∙ add_term-above t u rest k)
    ∙ sym (append_assoc (take i ts) (u ∷ []) (add_term t rest))
    ∙ sym (ap (λ xs. xs ++ add_term t rest) (take_more ts i d h))

pub place_same : (ts : List Term) (t d : Term) (i : ℕ) → i < length ts → t.0 ≡ (get_or ts i d).0 → add_term t ts
    ≡ take i ts ++ add_term t (drop i ts) → add_term t ts ≡ set ts i (t.0, t.1 + (get_or ts i d).1)
place_same ts t d i h k e =
    let u = get_or ts i d in
    let rest = drop (i + 1) ts in
    let split : drop i ts ≡ u ∷ rest = drop_more ts i d h in
    e ∙ ap (λ xs. take i ts ++ xs) (ap (add_term t) split ∙ add_term-same t u rest k)
    ∙ sym (rw (← add-one) at (set_split ts i (t.0, t.1 + u.1) h))

pub place_below : (ts : List Term) (t d : Term) (i : ℕ) → i < length ts → t.0 < (get_or ts i d).0 → add_term t ts
    ≡ take i ts ++ add_term t (drop i ts) → add_term t ts ≡ insert ts i t
place_below ts t d i h k e =
    let u = get_or ts i d in
    let rest = drop (i + 1) ts in
    let split : drop i ts ≡ u ∷ rest = drop_more ts i d h in
    e ∙ ap (λ xs. take i ts ++ xs) (ap (add_term t) split ∙ add_term-below t u rest k ∙ ap (λ xs. t ∷ xs) (sym split))

-- terms gathered one after another

pub gathered-append : (xs ys us : List Term) → gathered (xs ++ ys) us ≡ gathered ys (gathered xs us)
gathered-append [] ys us = refl
gathered-append (x ∷ xs) ys us = gathered-append xs ys (add_term x us)

pub gathered_next : (ts us : List Term) (i : ℕ) (d : Term) → i < length ts → gathered (drop i ts) us
    ≡ gathered (drop (i + 1) ts) (add_term (get_or ts i d) us)
gathered_next ts us i d h = ap (λ xs. gathered xs us) (drop_more ts i d h)

pub products_next : (ts q us : List Term) (i : ℕ) (d : Term) → i < length ts → gathered (pair_products (drop i ts) q) us
    ≡ gathered (pair_products (drop (i + 1) ts) q) (gathered (map (times_term (get_or ts i d)) q) us)
products_next ts q us i d h =
    let t = get_or ts i d in
    ap (λ xs. gathered (pair_products xs q) us) (drop_more ts i d h)
    ∙ gathered-append (map (times_term t) q) (pair_products (drop (i + 1) ts) q) us

-- a large coefficient is never lost

pub large_at : (ts : List Term) (i : ℕ) (t : Term) → i < length ts → 2 ^ 128 ≤ t.1 → HasLarge (set ts i t)
large_at [] i t h k = absurd (omega arith)
large_at (u ∷ us) zero t h k = inl k
large_at (u ∷ us) (suc i) t h k = inr (large_at us i t (omega arith) k)

large_add_old : (t : Term) (us : List Term) → HasLarge us → HasLarge (add_term t us)
large_add_old t [] h = absurd h
large_add_old t (u ∷ us) h =
    add_cases HasLarge t u us
    (λ _. inr h)
    (λ _. elim h [ inl x ↦ inl (omega arith) | inr x ↦ inr x ])
    (λ _. elim h [ inl x ↦ inl x | inr x ↦ inr (large_add_old t us x) ])

pub large_add_new : (t : Term) (us : List Term) → 2 ^ 128 ≤ t.1 → HasLarge (add_term t us)
large_add_new t [] h = inl h
large_add_new t (u ∷ us) h =
    add_cases HasLarge t u us (λ _. inl h) (λ _. inl (omega arith)) (λ _. inr (large_add_new t us h))

pub large_gathered_old : (ts us : List Term) → HasLarge us → HasLarge (gathered ts us)
large_gathered_old [] us h = h
large_gathered_old (t ∷ ts) us h = large_gathered_old ts (add_term t us) (large_add_old t us h)

pub large_gathered_new : (ts us : List Term) → HasLarge ts → HasLarge (gathered ts us)
large_gathered_new [] us h = absurd h
large_gathered_new (t ∷ ts) us h = elim h [
  | inl x ↦ large_gathered_old ts (add_term t us) (large_add_new t us x)
  | inr x ↦ large_gathered_new ts (add_term t us) x
]

-- terms of sets of eight selectivities, with coefficients of at least 1
abbrev pub AreTerms : List Term → Type 0
AreTerms [] = Unit {0}
AreTerms (t ∷ ts) = (t.0 < 2 ^ 8) × (1 ≤ t.1) × AreTerms ts

pub terms_rising : (low : ℕ) (ts : List Term) → IsRisingFrom low ts → AreTerms ts
terms_rising low [] h = tt
terms_rising low (t ∷ ts) h = (h.1, h.2, terms_rising (t.0 + 1) ts h.3)

terms_append : (xs ys : List Term) → AreTerms xs → AreTerms ys → AreTerms (xs ++ ys)
terms_append [] ys h k = k
terms_append (x ∷ xs) ys h k = (h.0, h.1, terms_append xs ys h.2 k)

terms_times : (t : Term) (q : List Term) → t.0 < 2 ^ 8 → 1 ≤ t.1 → AreTerms q → AreTerms (map (times_term t) q)
terms_times t [] h k l = tt
terms_times t (u ∷ us) h k l =
    (or_of_8 t.0 u.0 h l.0, mul-le-mul {n₁ = 1} {m₁ = 1} {n₂ = t.1} {m₂ = u.1} k l.1, terms_times t us h k l.2)

pub terms_products : (p q : List Term) → AreTerms p → AreTerms q → AreTerms (pair_products p q)
terms_products [] q h k = tt
terms_products (t ∷ ts) q h k = terms_append (map (times_term t) q) (pair_products ts q) (terms_times t q h.0 h.1 k)
    (terms_products ts q h.2 k)

-- terms stay in the order of their masks

rising_add : (low : ℕ) (t : Term) (us : List Term) → low ≤ t.0 → t.0 < 2 ^ 8 → 1 ≤ t.1 → IsRisingFrom low us
    → IsRisingFrom low (add_term t us)
rising_add low t [] h k l r = (h, k, l, tt)
rising_add low t (u ∷ us) h k l r =
    add_cases (IsRisingFrom low) t u us
    (λ b. (h, k, l, (omega arith, r.1, r.2, r.3)))
    (λ b. (h, k, omega arith, subst (λ n. IsRisingFrom (n + 1) us) (sym b) r.3))
    (λ b. (r.0, r.1, r.2, rising_add (u.0 + 1) t us (omega arith) k l r.3))

pub rising_gathered : (ts us : List Term) → AreTerms ts → IsRisingFrom 0 us → IsRisingFrom 0 (gathered ts us)
rising_gathered [] us h r = r
rising_gathered (t ∷ ts) us h r = rising_gathered ts (add_term t us) h.2 (rising_add 0 t us (omega arith) h.0 h.1 r)

-- there are some terms

some_add : (t : Term) (us : List Term) → 0 < length (add_term t us)
some_add t [] = omega arith
some_add t (u ∷ us) = add_cases (λ ts. 0 < length ts) t u us (λ _. omega arith) (λ _. omega arith) (λ _. omega arith)

pub some_gathered_old : (ts us : List Term) → 0 < length us → 0 < length (gathered ts us)
some_gathered_old [] us h = h
some_gathered_old (t ∷ ts) us h = some_gathered_old ts (add_term t us) (some_add t us)

pub some_gathered_new : (ts us : List Term) → 0 < length ts → 0 < length (gathered ts us)
some_gathered_new [] us h = absurd (omega arith)
some_gathered_new (t ∷ ts) us h = some_gathered_old ts (add_term t us) (some_add t us)

pub some_products : (p q : List Term) → 0 < length p → 0 < length q → 0 < length (pair_products p q)
some_products [] q h k = absurd (omega arith)
some_products (t ∷ ts) [] h k = absurd (omega arith)
some_products (t ∷ ts) (u ∷ us) h k = omega arith

-- a coefficient that is large by now is large in the end

pub kept_large : (xs us all : List Term) (i : ℕ) (d : Term) → i < length xs → gathered (drop i xs) us ≡ all
    → HasLarge (add_term (get_or xs i d) us) → HasLarge all
kept_large xs us all i d lt e h = subst HasLarge (sym (gathered_next xs us i d lt)
    ∙ e) (large_gathered_old (drop (i + 1) xs) (add_term (get_or xs i d) us) h)

multiples_next : (f : Term → Term) (xs us : List Term) (i : ℕ) (d : Term) → i < length xs
    → gathered (map f (drop i xs)) us ≡ gathered (map f (drop (i + 1) xs)) (add_term (f (get_or xs i d)) us)
multiples_next f xs us i d h = ap (λ ys. gathered (map f ys) us) (drop_more xs i d h)

pub kept_large_multiple : (f : Term → Term) (xs us all : List Term) (i : ℕ) (d : Term) → i < length xs
    → gathered (map f (drop i xs)) us ≡ all → HasLarge (add_term (f (get_or xs i d)) us) → HasLarge all
kept_large_multiple f xs us all i d lt e h = subst HasLarge (sym (multiples_next f xs us i d lt)
    ∙ e) (large_gathered_old (map f (drop (i + 1) xs)) (add_term (f (get_or xs i d)) us) h)

pub kept_large_products : (xs q us all : List Term) (i : ℕ) (d : Term) → i < length xs
    → gathered (pair_products (drop i xs) q) us ≡ all → HasLarge (gathered (map (times_term (get_or xs i d)) q) us)
    → HasLarge all
kept_large_products xs q us all i d lt e h =
    subst HasLarge (sym (products_next xs q us i d lt) ∙ e)
    (large_gathered_old (pair_products (drop (i + 1) xs) q) (gathered (map (times_term (get_or xs i d)) q) us) h)

-- what was built is a polynomial

pub sum_is_polynomial : (p q r : List Term) → IsPolynomial p → IsPolynomial q → r ≡ poly_sum p q → AllFit r
    → IsPolynomial r
sum_is_polynomial p q r a b e fits = record {
  some = subst (λ ts. 0 < length ts) (sym e) (some_gathered_old p q b.some);
  rising = subst (IsRisingFrom 0) (sym e) (rising_gathered p q (terms_rising 0 p a.rising) b.rising);
  fits = fits;
}

pub product_is_polynomial : (p q r : List Term) → IsPolynomial p → IsPolynomial q → r ≡ poly_product p q → AllFit r
    → IsPolynomial r
product_is_polynomial p q r a b e fits = record {
  some = subst (λ ts. 0 < length ts) (sym e) (some_gathered_new (pair_products p q) []
      (some_products p q a.some b.some));
  rising = subst (IsRisingFrom 0) (sym e)
      (rising_gathered (pair_products p q) [] (terms_products p q (terms_rising 0 p a.rising)
      (terms_rising 0 q b.rising)) tt);
  fits = fits;
}
