-- Binary digits, counted from the top.
use Rattle.std.proofs.Common.{ℕ, zero, suc, ◌≡◌, ◌≤◌, ◌<◌, ◌+◌, ◌*◌, ◌-◌, ◌/◌, ◌^◌, ◌==◌, if◌then◌else◌, arith, pow-suc}
use Rattle.std.proofs.Math.Nat.{pow-zero}
use Rattle.std.proofs.lemmas.Bool.Decides.{nat_tests}
use Rattle.std.proofs.lemmas.Nat.{leading_length}
use lib.Count.{count_leading_zeros}
use Rattle.cost_model.specs.Costs.{digits, digits_within}

none_of_zero : (n d : ℕ) → n < 1 → (if n == 0 then 0 else 1 + d) ≡ 0
none_of_zero n d h = grind (arith, nat_tests)

one_more_by : (n d m : ℕ) → 1 ≤ n → d ≡ m → (if n == 0 then 0 else 1 + d) ≡ suc m
one_more_by n d m some e = grind (arith, nat_tests)

digits_between : (k m n : ℕ) → m ≤ k → n < 2 ^ m → 2 ^ m ≤ 2 * n + 1 → digits_within k n ≡ m
unfolding digits_within
digits_between zero m n few high low = omega arith
digits_between (suc k) zero n few high low = let one = pow-zero 2 in
    none_of_zero n (digits_within k (n / 2)) (omega arith)
digits_between (suc k) (suc m) n few high low =
    let twice = pow-suc 2 m in
    let some : 1 ≤ n = omega arith in
    one_more_by n (digits_within k (n / 2)) m some
    (digits_between k m (n / 2) (omega arith) (omega arith) (omega arith))

-- what is left of 64 bits without the zeros at the top
pub digits_below_zeros : (n : ℕ) → n < 2 ^ 64 → 64 - count_leading_zeros 64 n ≡ digits n
unfolding digits
digits_below_zeros n h =
    let l = leading_length 64 n h in
    let whole : count_leading_zeros 64 n + l.0 ≡ 64 = l.1 in
    let e : digits_within 64 n ≡ l.0 = digits_between 64 l.0 n (omega arith) l.2 l.3 in
    omega arith
