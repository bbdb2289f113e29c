-- Quotients rounded up, one factor after the other.
use Rattle.std.proofs.Common.{ℕ, ◌≡◌, ◌≤◌, ◌<◌, ◌+◌, ◌*◌, ◌⊎◌, inl, inr, arith, mul_assoc, mul_comm, mul-le-mul}
use Rattle.std.proofs.Common.{mul-le-mul_right, add-mul, le_antisymm}
use Rattle.std.specs.Int.{div_ceil}
use Rattle.std.proofs.lemmas.Bool.{cases_lt}
use Rattle.std.proofs.lemmas.Grind.{div_ceil_times}

-- the quotient is the least number whose product is no less
least_by : (a b k c : ℕ) → c * b < a + b → a ≤ k * b → (k < c) ⊎ (c ≤ k) → c ≤ k
least_by a b k c h m (inr le) = le
least_by a b k c h m (inl lt) =
    let more : (k + 1) * b ≤ c * b = mul-le-mul_right b (omega arith) in
    let split : (k + 1) * b ≡ k * b + 1 * b = add-mul k 1 b in
    absurd (omega arith)

pub least_quotient : (a b k : ℕ) → 1 ≤ b → a ≤ k * b → div_ceil a b ≤ k
least_quotient a b k some m = least_by a b k (div_ceil a b) (div_ceil_times a b some).1 m (cases_lt _ _)

order : (k b c : ℕ) → k * (b * c) ≡ k * c * b
order k b c = grind (arith, mul_assoc, mul_comm)

pub quotient_twice : (a b c : ℕ) → 1 ≤ b → 1 ≤ c → div_ceil (div_ceil a b) c ≡ div_ceil a (b * c)
quotient_twice a b c x y =
    let bc : 1 ≤ b * c = mul-le-mul {n₁ = 1} {m₁ = 1} {n₂ = b} {m₂ = c} x y in
    let h = (div_ceil_times a (b * c) bc).0 in
    let e = order (div_ceil a (b * c)) b c in
    let f = order (div_ceil (div_ceil a b) c) b c in
    let k = (div_ceil_times a b x).0 in
    let l : div_ceil a b * b ≤ div_ceil (div_ceil a b) c * c * b =
    mul-le-mul_right b (div_ceil_times (div_ceil a b) c y).0 in
    le_antisymm
    (least_quotient (div_ceil a b) c (div_ceil a (b * c)) y
    (least_quotient a b (div_ceil a (b * c) * c) x (omega arith)))
    (least_quotient a (b * c) (div_ceil (div_ceil a b) c) bc (omega arith))

pub quotient_one : (a : ℕ) → div_ceil a 1 ≡ a
quotient_one a = let h = div_ceil_times a 1 (omega arith) in
    le_antisymm (least_quotient a 1 a (omega arith) (omega arith)) (omega (arith, h.0))
