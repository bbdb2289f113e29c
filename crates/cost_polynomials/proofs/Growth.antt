-- The value of a polynomial grows by no more than the numbers of its vector.
use Rattle.std.proofs.Common.{ℕ, ◌≡◌, ◌≤◌, ◌+◌, ◌*◌, ◌/◌, ◌%◌, ◌==◌, Bool, true, false, List, [], ◌∷◌, length, nat_lt}
use Rattle.std.proofs.Common.{if◌then◌else◌, ap, sym, ◌∙◌, arith, mul_assoc, mul_comm, mul_left_comm, add-mul}
use Rattle.std.proofs.Common.{mul-le-mul, mul-le-mul_left}
use Rattle.std.proofs.lemmas.Bool.Decides.{nat_tests}
use Rattle.cost_polynomials.specs.Polynomial.{Term, product_over, value_of}
use Rattle.cost_polynomials.specs.Growth.{grown_from, grown_to}

-- where x becomes y, the growth from u to v covers it
pub record Grows (u v x y : ℕ) : Type 0 where
  pub grows : x * u ≤ y * v

pub grow_sum : {u v x y z t : ℕ} → Grows u v x y → Grows u v z t → Grows u v (x + z) (y + t)
grow_sum {u} {v} {x} {y} {z} {t} g h =
    record { grows = rw (add-mul x z u, add-mul y t v) (omega (arith, g.grows, h.grows)) }

pub grow_times : {u v x y : ℕ} (k : ℕ) → Grows u v x y → Grows u v (k * x) (k * y)
grow_times {u} {v} {x} {y} k g = record { grows = rw (mul_assoc k x u, mul_assoc k y v) (mul-le-mul_left k g.grows) }

pub grow_const : {u v : ℕ} (k : ℕ) → u ≤ v → Grows u v k k
grow_const k h = record { grows = mul-le-mul_left k h }

pub swapped : (a p b q : ℕ) → (a * p) * (b * q) ≡ (a * b) * (p * q)
swapped a p b q = mul_assoc a p (b * q) ∙ ap (λ n. a * n) (mul_left_comm p b q) ∙ sym (mul_assoc a b (p * q))

-- four factors, two by two
pub cross : (a b c d p q r s : ℕ) → a * b ≤ c * d → p * q ≤ r * s → (a * p) * (b * q) ≤ (c * r) * (d * s)
cross a b c d p q r s h k =
    let e : (a * p) * (b * q) ≡ (a * b) * (p * q) = swapped a p b q in
    let f : (c * r) * (d * s) ≡ (c * d) * (r * s) = swapped c r d s in
    rw (e, f) (mul-le-mul h k)

lesser : (x y : ℕ) → (if nat_lt y x then y else 1) ≤ (if nat_lt y x then x else 1)
lesser x y = grind (arith, nat_tests)

pub from_below_to : (q a : List ℕ) → grown_from q a ≤ grown_to q a
from_below_to [] a = omega arith
from_below_to (x ∷ q) [] = omega arith
from_below_to (x ∷ q) (y ∷ a) = mul-le-mul (lesser x y) (from_below_to q a)

factor_in : (x y : ℕ) → x * (if nat_lt y x then y else 1) ≤ y * (if nat_lt y x then x else 1)
factor_in x y = grind (arith, nat_tests, mul_comm)

-- one place, in the set or not
pub factor : (m : Bool) (x y : ℕ)
    → (if m then x else 1) * (if nat_lt y x then y else 1) ≤ (if m then y else 1) * (if nat_lt y x then x else 1)
factor true x y = factor_in x y
factor false x y = omega (arith, lesser x y)

pub grow_product : (mask : ℕ) (q a : List ℕ) → length q ≡ length a
    → Grows (grown_from q a) (grown_to q a) (product_over mask q) (product_over mask a)
grow_product mask [] [] e = grow_const 1 (from_below_to [] [])
grow_product mask [] (y ∷ a) e = absurd (omega arith)
grow_product mask (x ∷ q) [] e = absurd (omega arith)
grow_product mask (x ∷ q) (y ∷ a) e =
    let rest = grow_product (mask / 2) q a (omega arith) in
    record { grows = cross _ _ _ _ _ _ _ _ (factor (mask % 2 == 1) x y) rest.grows }

pub grow_value : (p : List Term) (q a : List ℕ) → length q ≡ length a
    → Grows (grown_from q a) (grown_to q a) (value_of p q) (value_of p a)
grow_value [] q a e = record { grows = omega arith }
grow_value (t ∷ ts) q a e = grow_sum (grow_times t.1 (grow_product t.0 q a e)) (grow_value ts q a e)
