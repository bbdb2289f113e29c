-- The value of sums and of products of polynomials.
use Rattle.std.proofs.Common.{ℕ, zero, suc, ◌≡◌, ◌+◌, ◌*◌, ◌/◌, ◌%◌, ◌^◌, ◌==◌, ◌⊎◌, inl, inr, if◌then◌else◌, List, []}
use Rattle.std.proofs.Common.{◌∷◌, ◌++◌, map, arith, refl, ap, sym, ◌∙◌, bit_and, bit_or, All, mul_assoc, mul_left_comm}
use Rattle.std.proofs.Common.{mul-one, mul-add, add-mul}
use Rattle.std.specs.List.{AllByRecursion}
use Rattle.std.proofs.lemmas.Nat.{or_disjoint, and_shr, or_shr, and_mod}
use Rattle.std.proofs.lemmas.List.Elements.{recursion_from_All}
use Rattle.cost_polynomials.proofs.Growth.{swapped}
use Rattle.cost_polynomials.specs.Polynomial.{Term, product_over, number_at, value_of, add_term, gathered, times_term}
use Rattle.cost_polynomials.specs.Polynomial.{pair_products, AreApart}
use Rattle.cost_polynomials.proofs.Terms.{add_cases}

pub product_over-none : (s : List ℕ) → product_over 0 s ≡ 1
product_over-none [] = refl
product_over-none (n ∷ s) = let e = product_over-none s in omega arith

-- one selectivity alone
pub product_over-one : (i : ℕ) (s : List ℕ) → product_over (2 ^ i) s ≡ number_at s i
product_over-one i [] = refl
product_over-one zero (n ∷ s) = ap (λ k. n * k) (product_over-none s) ∙ mul-one n
product_over-one (suc i) (n ∷ s) =
    let even : 2 ^ suc i % 2 ≡ 0 = omega arith in
    let half : 2 ^ suc i / 2 ≡ 2 ^ i = omega arith in
    let e = product_over-one i s in
    rw (even, half) (omega arith)

parity : (n : ℕ) → (n % 2 ≡ 0) ⊎ (n % 2 ≡ 1)
parity n = grind arith

-- of two sets apart, one at least has no first selectivity
one_even : (m n : ℕ) → bit_and m n ≡ 0 → (m % 2 ≡ 0) ⊎ (n % 2 ≡ 0)
one_even m n h =
    let lowest : bit_and (m % 2) (n % 2) ≡ 0 = sym (and_mod m n 1) ∙ ap (λ k. k % 2) h in
    elim (parity m) [
      | inl a ↦ inl a
      | inr a ↦ elim (parity n) [
        | inl b ↦ inr b
        | inr b ↦ let both : bit_and 1 1 ≡ 0 = rw (a, b) at lowest in absurd (omega (arith, both))
      ]
    ]

factor_l : (m n x : ℕ) → m % 2 ≡ 0 → (if (m + n) % 2 == 1 then x else 1)
    ≡ (if m % 2 == 1 then x else 1) * (if n % 2 == 1 then x else 1)
factor_l m n x h =
    let e : (m + n) % 2 ≡ n % 2 = omega arith in
    rw (e, h) (omega arith)

factor_r : (m n x : ℕ) → n % 2 ≡ 0 → (if (m + n) % 2 == 1 then x else 1)
    ≡ (if m % 2 == 1 then x else 1) * (if n % 2 == 1 then x else 1)
factor_r m n x h =
    let e : (m + n) % 2 ≡ m % 2 = omega arith in
    rw (e, h) (omega arith)

factor : (m n x : ℕ) → bit_and m n ≡ 0 → (if bit_or m n % 2 == 1 then x else 1)
    ≡ (if m % 2 == 1 then x else 1) * (if n % 2 == 1 then x else 1)
factor m n x h = rw (or_disjoint m n h) (elim (one_even m n h) [ inl k ↦ factor_l m n x k | inr k ↦ factor_r m n x k ])

-- two sets apart
pub product_over-or : (m n : ℕ) (s : List ℕ) → bit_and m n ≡ 0 → product_over (bit_or m n) s
    ≡ product_over m s * product_over n s
product_over-or m n [] h = refl
product_over-or m n (x ∷ s) h =
    let rest_apart : bit_and (m / 2) (n / 2) ≡ 0 = sym (and_shr m n 1) ∙ ap (λ k. k / 2) h in
    let rest = product_over-or (m / 2) (n / 2) s rest_apart in
    let half : bit_or m n / 2 ≡ bit_or (m / 2) (n / 2) = or_shr m n 1 in
    rw (half, rest, factor m n x h) (swapped _ _ _ _)

pub value_add : (t : Term) (us : List Term) (s : List ℕ) → value_of (add_term t us) s
    ≡ t.1 * product_over t.0 s + value_of us s
value_add t [] s = refl
value_add t (u ∷ us) s =
    add_cases (λ ts. value_of ts s ≡ t.1 * product_over t.0 s + value_of (u ∷ us) s) t u us
    (λ _. refl)
    (λ k. let e : product_over u.0 s ≡ product_over t.0 s = ap (λ m. product_over m s) (sym k)
    in rw (e, add-mul t.1 u.1 (product_over t.0 s)) (omega arith))
    (λ _. let e = value_add t us s in omega (arith, e))

pub value_gathered : (ts us : List Term) (s : List ℕ) → value_of (gathered ts us) s ≡ value_of ts s + value_of us s
value_gathered [] us s = omega arith
value_gathered (t ∷ ts) us s =
    let e = value_gathered ts (add_term t us) s in
    let f = value_add t us s in
    omega (arith, e, f)

value_append : (xs ys : List Term) (s : List ℕ) → value_of (xs ++ ys) s ≡ value_of xs s + value_of ys s
value_append [] ys s = omega arith
value_append (x ∷ xs) ys s = let e = value_append xs ys s in omega (arith, e)

value_times : (t : Term) (q : List Term) (s : List ℕ) → AllByRecursion (λ u. bit_and t.0 u.0 ≡ 0) q
    → value_of (map (times_term t) q) s ≡ t.1 * product_over t.0 s * value_of q s
value_times t [] s h = omega arith
value_times t (u ∷ us) s h =
    let e = value_times t us s h.1 in
    let f = product_over-or t.0 u.0 s h.0 in
    rw (f, e, swapped t.1 u.1 (product_over t.0 s) (product_over u.0 s)) (sym (mul-add _ _ _))

value_products : (p q : List Term) (s : List ℕ) → AllByRecursion (λ t. All (λ u. bit_and t.0 u.0 ≡ 0) q) p
    → value_of (pair_products p q) s ≡ value_of p s * value_of q s
value_products [] q s h = omega arith
value_products (t ∷ ts) q s h =
    let e = value_products ts q s h.1 in
    let f = value_times t q s (recursion_from_All _ q h.0) in
    let g = value_append (map (times_term t) q) (pair_products ts q) s in
    g ∙ rw (e, f) (sym (add-mul _ _ _))

pub value_product : (p q : List Term) (s : List ℕ) → AreApart p q → value_of (gathered (pair_products p q) []) s
    ≡ value_of p s * value_of q s
value_product p q s h = let e = value_gathered (pair_products p q) [] s in let f =
    value_products p q s (recursion_from_All _ p h) in omega arith

pub value_constant : (c : ℕ) (s : List ℕ) → value_of ((0, c) ∷ []) s ≡ c
value_constant c s = rw (product_over-none s) (omega arith)

pub value_sel : (i : ℕ) (s : List ℕ) → value_of ((2 ^ i, 1) ∷ []) s ≡ number_at s i
value_sel i s = let e = product_over-one i s in omega arith
