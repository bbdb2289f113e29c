-- Quotients rounded up, and binary digits.
use Rattle.std.proofs.Common.{ℕ, zero, suc, ◌≡◌, ◌≤◌, ◌<◌, ◌+◌, ◌*◌, ◌/◌, ◌==◌, if◌then◌else◌, ◌⊎◌, inl, inr, arith}
use Rattle.std.proofs.Common.{mul-le-mul_left, mul-le-mul_right, add-mul}
use Rattle.std.specs.Int.{div_ceil}
use Rattle.std.proofs.lemmas.Bool.{cases_lt}
use Rattle.std.proofs.lemmas.Bool.Decides.{nat_tests}
use Rattle.std.proofs.lemmas.Grind.{div_ceil_times}
use Rattle.cost_model.specs.Costs.{digits, digits_within}

-- back times the divisor it is less than one divisor more
pub ceiling_times : (a b : ℕ) → 1 ≤ b → div_ceil a b * b ≤ a + b
ceiling_times a b some = let h = (div_ceil_times a b some).1 in omega arith

no_larger : (a b e small large : ℕ) → 1 ≤ b → 1 ≤ e → a ≤ small * b → large * (b * e) < a + b * e → (small < large)
    ⊎ (large ≤ small) → large ≤ small
no_larger a b e small large b1 e1 h k (inr le) = le
no_larger a b e small large b1 e1 h k (inl lt) =
    let more : (small + 1) * (b * e) ≤ large * (b * e) = mul-le-mul_right (b * e) (omega arith) in
    let split : (small + 1) * (b * e) ≡ small * (b * e) + 1 * (b * e) = add-mul small 1 (b * e) in
    let wider : b * 1 ≤ b * e = mul-le-mul_left b e1 in
    let whole : small * b ≤ small * (b * e) = mul-le-mul_left small (omega arith) in
    absurd (omega arith)

-- a larger divisor gives no more
pub ceiling_more : (a b e : ℕ) → 1 ≤ b → 1 ≤ e → div_ceil a (b * e) ≤ div_ceil a b
ceiling_more a b e b1 e1 =
    let wider : b * 1 ≤ b * e = mul-le-mul_left b e1 in
    no_larger a b e (div_ceil a b) (div_ceil a (b * e)) b1 e1 (div_ceil_times a b b1).0
    (div_ceil_times a (b * e) (omega arith)).1 (cases_lt _ _)

digits_few_by : (n d k : ℕ) → d ≤ k → (if n == 0 then 0 else 1 + d) ≤ suc k
digits_few_by n d k h = grind (arith, nat_tests)

digits_small_by : (n d : ℕ) → d ≤ n / 2 → (if n == 0 then 0 else 1 + d) ≤ n
digits_small_by n d h = grind (arith, nat_tests)

digits_within_small : (k n : ℕ) → digits_within k n ≤ n
unfolding digits_within
digits_within_small zero n = omega arith
digits_within_small (suc k) n = digits_small_by n (digits_within k (n / 2)) (digits_within_small k (n / 2))

digits_within_few : (k n : ℕ) → digits_within k n ≤ k
unfolding digits_within
digits_within_few zero n = omega arith
digits_within_few (suc k) n = digits_few_by n (digits_within k (n / 2)) k (digits_within_few k (n / 2))

pub digits_small : (n : ℕ) → digits n ≤ n
unfolding digits
digits_small n = digits_within_small 64 n

pub digits_few : (n : ℕ) → digits n ≤ 64
unfolding digits
digits_few n = digits_within_few 64 n
