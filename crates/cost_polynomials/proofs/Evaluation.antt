-- How the value of a term and of a polynomial builds up, and that it never comes down again.
use Rattle.std.proofs.Common.{◌⊎◌, inl, inr, slice_index, ℕ, suc, ◌≡◌, ◌+◌, ◌*◌, ◌/◌, ◌%◌, ◌<◌, ◌≤◌, ◌^◌, ◌==◌}
use Rattle.std.proofs.Common.{if◌then◌else◌, List, [], ◌∷◌, length, get_or, drop, arith, refl, ap, subst, sym, ◌∙◌, All}
use Rattle.std.proofs.Common.{mul_assoc, mul-one, mul-le-mul, mul-le-mul_left}
use Rattle.std.specs.List.{AllByRecursion}
use Rattle.std.specs.Int.{bit_at}
use Rattle.std.proofs.lemmas.Nat.Bits.{bit_at_above, bit_at_lowest, bit_at-suc}
use Rattle.std.proofs.lemmas.List.{drop_more, drop_all}
use Rattle.std.proofs.lemmas.Bool.Decides.{nat_tests}
use Rattle.std.proofs.lemmas.List.Elements.{All-from_recursion, All-head, All-tail}
use Rattle.cost_polynomials.specs.Polynomial.{Term, product_over, value_of, HasLarge, HasNumbers, IsVectorFor}
use Rattle.cost_polynomials.specs.Polynomial.{IsPolynomial, IsRisingFrom}

-- each selectivity of the set that has a number has one of at least 1
abbrev pub IsCounted : ℕ → List ℕ → Type 0
IsCounted mask [] = Unit {0}
IsCounted mask (n ∷ s) = (mask % 2 ≡ 1 → 1 ≤ n) × IsCounted (mask / 2) s

pub counted : (mask : ℕ) (s : List ℕ) → HasNumbers mask s → IsCounted mask s
counted mask [] h = tt
counted mask (n ∷ s) h =
    ((λ odd. h 0 (bit_at_lowest mask ∙ odd)), counted (mask / 2) s (λ i b. h (suc i) (bit_at-suc mask i ∙ b)))

factor_positive : (mask n : ℕ) → (mask % 2 ≡ 1 → 1 ≤ n) → 1 ≤ (if mask % 2 == 1 then n else 1)
factor_positive mask n h = grind (arith, nat_tests)

pub counted_next : (rest : ℕ) (s : List ℕ) (i : ℕ) → i < length s → IsCounted rest (drop i s)
    → IsCounted (rest / 2) (drop (i + 1) s)
counted_next rest s i lt h = (subst (IsCounted rest) (drop_more s i 0 lt) h).1

pub product_over-positive : (mask : ℕ) (s : List ℕ) → IsCounted mask s → 1 ≤ product_over mask s
product_over-positive mask [] h = omega arith
product_over-positive mask (n ∷ s) h =
    let first : 1 ≤ (if mask % 2 == 1 then n else 1) = factor_positive mask n h.0 in
    mul-le-mul {n₁ = 1} {m₁ = 1} {m₂ = product_over (mask / 2) s} first (product_over-positive (mask / 2) s h.1)

-- one number more of a term
product_over-next : (rest value : ℕ) (s : List ℕ) (i : ℕ) → i < length s
    → value * (if rest % 2 == 1 then get_or s i 0 else 1) * product_over (rest / 2) (drop (i + 1) s)
    ≡ value * product_over rest (drop i s)
product_over-next rest value s i lt =
    mul_assoc value (if rest % 2 == 1 then get_or s i 0 else 1) (product_over (rest / 2) (drop (i + 1) s))
    ∙ ap (λ xs. value * product_over rest xs) (sym (drop_more s i 0 lt))

odd_factor : (rest n : ℕ) → rest % 2 ≡ 1 → (if rest % 2 == 1 then n else 1) ≡ n
odd_factor rest n h = grind (arith, nat_tests)

even_factor : (rest n : ℕ) → (rest % 2 ≡ 1 → ⊥) → (if rest % 2 == 1 then n else 1) ≡ 1
even_factor rest n h = grind (arith, nat_tests)

pub odd_step : (rest value more total : ℕ) (s : List ℕ) (i : ℕ) → i < length s → rest % 2 ≡ 1
    → more ≡ value * get_or s i 0 → value * product_over rest (drop i s) ≡ total
    → more * product_over (rest / 2) (drop (i + 1) s) ≡ total
odd_step rest value more total s i lt odd e h =
    let n = get_or s i 0 in
    let rest_product = product_over (rest / 2) (drop (i + 1) s) in
    ap (λ k. k * rest_product) (e ∙ ap (λ k. value * k) (sym (odd_factor rest n odd)))
    ∙ product_over-next rest value s i lt ∙ h

pub even_step : (rest value total : ℕ) (s : List ℕ) (i : ℕ) → i < length s → (rest % 2 ≡ 1 → ⊥)
    → value * product_over rest (drop i s) ≡ total → value * product_over (rest / 2) (drop (i + 1) s) ≡ total
even_step rest value total s i lt even h =
    let n = get_or s i 0 in
    let rest_product = product_over (rest / 2) (drop (i + 1) s) in
    ap (λ k. k * rest_product) (sym (mul-one value) ∙ ap (λ k. value * k) (sym (even_factor rest n even)))
    ∙ product_over-next rest value s i lt ∙ h

pub term_too_large : (rest value total : ℕ) (s : List ℕ) (i : ℕ) → i < length s → rest % 2 ≡ 1
    → IsCounted rest (drop i s) → value * product_over rest (drop i s) ≡ total → 2 ^ 128 ≤ value * get_or s i 0
    → 2 ^ 128 ≤ total
term_too_large rest value total s i lt odd c h big =
    let b = value * get_or s i 0 in
    let rest_product = product_over (rest / 2) (drop (i + 1) s) in
    let more : b * 1 ≤ b * rest_product =
    mul-le-mul_left b (product_over-positive (rest / 2) (drop (i + 1) s) (counted_next rest s i lt c)) in
    let same : b * rest_product ≡ total = odd_step rest value b total s i lt odd refl h in
    omega (arith, more, same, mul-one b)

-- one term more of a polynomial
pub value_next : (ts : List Term) (s : List ℕ) (i : ℕ) (d : Term) → i < length ts → value_of (drop i ts) s
    ≡ (get_or ts i d).1 * product_over (get_or ts i d).0 s + value_of (drop (i + 1) ts) s
value_next ts s i d lt = ap (λ xs. value_of xs s) (drop_more ts i d lt)

pub value_end : (ts : List Term) (s : List ℕ) (i : ℕ) → length ts ≤ i → value_of (drop i ts) s ≡ 0
value_end ts s i h = ap (λ xs. value_of xs s) (drop_all i ts h)

pub coefficients_positive : (low : ℕ) (ts : List Term) → IsRisingFrom low ts → All (λ t. 1 ≤ t.1) ts
coefficients_positive low ts h = All-from_recursion (λ t. 1 ≤ t.1) ts (positive low ts h)
  where
    positive : (low : ℕ) (ts : List Term) → IsRisingFrom low ts → AllByRecursion (λ t. 1 ≤ t.1) ts
    positive low [] h = tt
    positive low (t ∷ ts) h = (h.2, positive (t.0 + 1) ts h.3)

-- a polynomial is worth 1 at least
pub value_positive : (ts : List Term) (s : List ℕ) → 0 < length ts → All (λ t. 1 ≤ t.1) ts → IsVectorFor ts s
    → 1 ≤ value_of ts s
value_positive [] s h c v = absurd (omega arith)
value_positive (t ∷ ts) s h c v =
    let first : 1 ≤ t.1 * product_over t.0 s = mul-le-mul {n₁ = 1} {m₁ = 1} {n₂ = t.1} {m₂ =
    product_over t.0 s} (All-head (λ t. 1 ≤ t.1) t ts c)
    (product_over-positive t.0 s (counted t.0 s (All-head (λ t. HasNumbers t.0 s) t ts v))) in
    omega (arith, first)

-- a vector serves a polynomial whose sets are of as many selectivities as it has numbers
pub vector_for : (k : ℕ) (p : List Term) (s : List ℕ) → AllByRecursion (λ t. t.0 < 2 ^ k) p → k ≤ length s
    → All (λ n. 1 ≤ n) s → IsVectorFor p s
vector_for k p s below long counts = All-from_recursion (λ t. HasNumbers t.0 s) p (each p below)
  where
    inside : (mask i : ℕ) → mask < 2 ^ k → bit_at mask i ≡ 1 → (i < k) ⊎ (k ≤ i) → 1 ≤ slice_index s i
    inside mask i b e (inl h) = counts i 0 (omega arith)
    inside mask i b e (inr h) = let zero_there = bit_at_above mask k i b h in absurd (omega (arith, zero_there, e))

    each : (p : List Term) → AllByRecursion (λ t. t.0 < 2 ^ k) p → AllByRecursion (λ t. HasNumbers t.0 s) p
    each [] h = tt
    each (t ∷ ts) h = ((λ i e. inside t.0 i h.0 e (grind arith)), each ts h.1)

-- a vector of eight numbers serves every polynomial
pub vector_of_eight : (p : List Term) (s : List ℕ) → IsPolynomial p → 8 ≤ length s → All (λ n. 1 ≤ n) s
    → IsVectorFor p s
vector_of_eight p s built long counts = vector_for 8 p s (below 0 p built.rising) long counts
  where
    below : (low : ℕ) (p : List Term) → IsRisingFrom low p → AllByRecursion (λ t. t.0 < 2 ^ 8) p
    below low [] h = tt
    below low (t ∷ ts) h = (h.1, below (t.0 + 1) ts h.3)

-- a large coefficient makes each value large
pub large_value : (ts : List Term) (s : List ℕ) → IsVectorFor ts s → HasLarge ts → 2 ^ 128 ≤ value_of ts s
large_value [] s v h = absurd h
large_value (t ∷ ts) s v h = elim h [
  | inl e ↦ (
      let product = product_over-positive t.0 s (counted t.0 s (All-head (λ t. HasNumbers t.0 s) t ts v)) in
      let first : 2 ^ 128 ≤ t.1 * product_over t.0 s = mul-le-mul {n₁ = 2 ^ 128} {m₁ = 1} {n₂ = t.1} {m₂ =
      product_over t.0 s} e product in
      omega (arith, first))
  | inr e ↦ (let rest = large_value ts s (All-tail (λ t. HasNumbers t.0 s) t ts v) e in omega (arith, rest))
]
