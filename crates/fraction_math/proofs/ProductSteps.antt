-- How a product grows factor by factor.
use Rattle.std.proofs.Common.{ℕ, ◌≡◌, ◌≤◌, ◌<◌, ◌+◌, ◌*◌, ◌^◌, List, [], ◌∷◌, length, get_or, drop, ◌∙◌, arith, add-one}
use Rattle.std.proofs.Common.{suc}
use Rattle.std.proofs.Math.Seq.{drop-cons}
use Rattle.std.proofs.Math.Nat.{mul_assoc, mul-le-mul, mul-le-mul_left, mul-one}
use Rattle.std.specs.List.{All, AllByRecursion}
use Rattle.std.proofs.lemmas.List.Elements.{recursion_from_All, All-drop}
use Rattle.fraction_math.specs.Product.{product_of}

-- the rest of a product takes one more factor
pub product_next : (xs : List ℕ) (i a : ℕ) → i < length xs → (a * get_or xs i 0) * product_of (drop (i + 1) xs)
    ≡ a * product_of (drop i xs)
product_next xs i a h = rw (add-one, drop-cons xs i 0) (mul_assoc a (get_or xs i 0) (product_of (drop (suc i) xs)))

product_one : (ys : List ℕ) → AllByRecursion (λ x. 1 ≤ x) ys → 1 ≤ product_of ys
product_one [] h = omega arith
product_one (y ∷ ys) h = mul-le-mul {n₁ = 1} {m₁ = 1} {n₂ = y} {m₂ = product_of ys} h.0 (product_one ys h.1)

-- the rest of the factors is at least 1
pub product_rest : (xs : List ℕ) (i : ℕ) → All (λ x. 1 ≤ x) xs → 1 ≤ product_of (drop i xs)
product_rest xs i h =
    product_one (drop i xs) (recursion_from_All (λ x. 1 ≤ x) (drop i xs) (All-drop (λ x. 1 ≤ x) i xs h))

pub too_large : (xs : List ℕ) (i a total : ℕ) → i < length xs → All (λ x. 1 ≤ x) xs → a * product_of (drop i xs) ≡ total
    → 2 ^ 128 ≤ a * get_or xs i 0 → 2 ^ 128 ≤ total
too_large xs i a total lt one e big =
    let b = a * get_or xs i 0 in
    let more : b * 1 ≤ b * product_of (drop (i + 1) xs) = mul-le-mul_left b (product_rest xs (i + 1) one) in
    let same : b * product_of (drop (i + 1) xs) ≡ total = product_next xs i a lt ∙ e in
    omega (arith, more, same, mul-one b)

pub not_below : (a b : ℕ) → (a < b → ⊥) → b ≤ a
not_below a b h = omega arith
