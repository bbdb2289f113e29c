-- Polynomials of degree at most one in each selectivity, with whole coefficients, over true whole numbers.
--
-- A set of selectivities is a mask, whose lowest bit stands for the first selectivity. A vector has a number for each
-- selectivity, in order; one that is missing counts as 1.
use Rattle.std.specs.Prelude.{Option, Some, None, ℕ, ◌≡◌, ◌+◌, ◌*◌, ◌/◌, ◌%◌, ◌^◌, ◌<◌, ◌≤◌, ◌==◌, nat_lt}
use Rattle.std.specs.Prelude.{if◌then◌else◌, ◌⊎◌, List, [], ◌∷◌, ◌++◌, map, length, slice_index, slice_index_or, All}
use Rattle.std.specs.Prelude.{bit_and, bit_or}
use Rattle.std.specs.Int.{bit_at}

-- a term: a set of selectivities, and its coefficient
abbrev pub Term : Type 0
Term = ℕ × ℕ

-- the number of one selectivity
abbrev pub number_at : List ℕ → ℕ → ℕ
number_at s i = slice_index_or s i 1

-- the product of the numbers of the selectivities in a set
abbrev pub product_over : ℕ → List ℕ → ℕ
product_over mask [] = 1
product_over mask (n ∷ s) = (if mask % 2 == 1 then n else 1) * product_over (mask / 2) s

-- the value of a polynomial at a vector: a sum of products
abbrev pub value_of : List Term → List ℕ → ℕ
value_of [] s = 0
value_of (t ∷ ts) s = t.1 * product_over t.0 s + value_of ts s

-- the number itself, or none where it is 2^128 or more
abbrev pub IsExactly : Option ℕ → ℕ → Type 0
IsExactly None n = 2 ^ 128 ≤ n
IsExactly (Some m) n = m ≡ n

-- each selectivity of a set has a number, of at least 1
abbrev pub HasNumbers : ℕ → List ℕ → Type 0
HasNumbers mask s = (i : ℕ) → bit_at mask i ≡ 1 → 1 ≤ slice_index s i

-- each variable of a polynomial has a number, of at least 1
abbrev pub IsVectorFor : List Term → List ℕ → Type 0
IsVectorFor p s = All (λ t. HasNumbers t.0 s) p

-- each set of selectivities has one term at most, the terms stand in the order of their masks from `low` on, and each
-- coefficient is at least 1
abbrev pub IsRisingFrom : ℕ → List Term → Type 0
IsRisingFrom low [] = Unit {0}
IsRisingFrom low (t ∷ ts) = (low ≤ t.0) × (t.0 < 2 ^ 8) × (1 ≤ t.1) × IsRisingFrom (t.0 + 1) ts

-- each coefficient is below 2^128
abbrev pub AllFit : List Term → Type 0
AllFit ts = All (λ t. t.1 < 2 ^ 128) ts

-- some coefficient is 2^128 or more
abbrev pub HasLarge : List Term → Type 0
HasLarge [] = ⊥
HasLarge (t ∷ ts) = (2 ^ 128 ≤ t.1) ⊎ HasLarge ts

-- the terms of a polynomial that was built: there are some, in order, and each fits
pub record IsPolynomial (ts : List Term) : Type 0 where
  pub some : 0 < length ts
  pub rising : IsRisingFrom 0 ts
  pub fits : AllFit ts

-- one term more: where its set has a term already, the coefficients are added
abbrev pub add_term : Term → List Term → List Term
add_term t [] = t ∷ []
add_term t (u ∷ us) =
    (if nat_lt t.0 u.0 then t ∷ u ∷ us else (if t.0 == u.0 then (t.0, t.1 + u.1) ∷ us else u ∷ add_term t us))

-- many terms more
abbrev pub gathered : List Term → List Term → List Term
gathered [] us = us
gathered (t ∷ ts) us = gathered ts (add_term t us)

-- the sum of two polynomials
abbrev pub poly_sum : List Term → List Term → List Term
poly_sum p q = gathered p q

-- the product of two terms without a selectivity in common
abbrev pub times_term : Term → Term → Term
times_term t u = (bit_or t.0 u.0, t.1 * u.1)

-- each term of one polynomial times each term of another
abbrev pub pair_products : List Term → List Term → List Term
pair_products [] q = []
pair_products (t ∷ ts) q = map (times_term t) q ++ pair_products ts q

-- the product of two polynomials without a variable in common
abbrev pub poly_product : List Term → List Term → List Term
poly_product p q = gathered (pair_products p q) []

-- no variable is in both polynomials
abbrev pub AreApart : List Term → List Term → Type 0
AreApart p q = All (λ t. All (λ u. bit_and t.0 u.0 ≡ 0) q) p
