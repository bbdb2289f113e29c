-- The products of the checks are at most the greater numbers multiplied.
use Rattle.std.proofs.Common.{ℕ, suc, ◌≡◌, ◌≤◌, ◌<◌, ◌*◌, max, nat_lt, Bool, true, false, List, [], ◌∷◌, All}
use Rattle.std.proofs.Common.{if◌then◌else◌, refl, arith, mul-le-mul}
use Rattle.std.specs.List.{AllByRecursion}
use Rattle.std.proofs.lemmas.Bool.{ltb-true}
use Rattle.cost_polynomials.specs.Growth.{grown_to}
use Rattle.cache_model.specs.Choices.{greater_product}
use Rattle.cache_model.proofs.Lists.{each_from}

up_by : (b : Bool) (x y : ℕ) → 1 ≤ y → (if b then x else 1) ≤ max x y
up_by true x y some = omega arith
up_by false x y some = omega arith

down_by : (b : Bool) (x y : ℕ) → nat_lt x y ≡ b → 1 ≤ x → (if b then y else 1) ≤ max x y
down_by true x y e some = omega arith
down_by false x y e some = omega arith

up_fits : (q at : List ℕ) → AllByRecursion (λ n. 1 ≤ n) at → grown_to q at ≤ greater_product q at
up_fits [] at h = omega arith
up_fits (x ∷ xs) [] h = omega arith
up_fits (x ∷ xs) (y ∷ ys) h = mul-le-mul (up_by (nat_lt y x) x y h.0) (up_fits xs ys h.1)

down_fits : (q at : List ℕ) → AllByRecursion (λ n. 1 ≤ n) q → grown_to at q ≤ greater_product q at
down_fits [] [] h = omega arith
down_fits [] (y ∷ ys) h = omega arith
down_fits (x ∷ xs) [] h = omega arith
down_fits (x ∷ xs) (y ∷ ys) h = mul-le-mul (down_by (nat_lt x y) x y refl h.0) (down_fits xs ys h.1)

pub grown_fits : (q at : List ℕ) → All (λ n. 1 ≤ n) at → grown_to q at ≤ greater_product q at
grown_fits q at h = up_fits q at (each_from (λ n. 1 ≤ n) at h)

pub shrunk_fits : (q at : List ℕ) → All (λ n. 1 ≤ n) q → grown_to at q ≤ greater_product q at
shrunk_fits q at h = down_fits q at (each_from (λ n. 1 ≤ n) q h)
