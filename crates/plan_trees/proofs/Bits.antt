-- Facts on bits and small sets of places.
use Rattle.std.proofs.Common.{ℕ, zero, suc, ◌≡◌, ◌≤◌, ◌<◌, ◌+◌, ◌*◌, ◌^◌, ◌/◌, ◌%◌, ◌==◌, ◌&&◌, ◌||◌, max, Bool, true}
use Rattle.std.proofs.Common.{false, ap, sym, ◌∙◌, refl, arith, true≢false, ◌⊎◌, inl, inr, subst, bit_and}
use Rattle.std.proofs.Math.Nat.{div-eq_of_lt, pow-le-pow_right}
use Rattle.std.proofs.Math.Pow.{pow-lt}
use Rattle.std.proofs.lemmas.Bool.Decides.{nat_tests}
use Rattle.std.proofs.lemmas.Bool.{and_parts, cases_lt, eq-eqb, eqb-true}
use Rattle.std.proofs.lemmas.Nat.{or_lt, or_disjoint}
use Rattle.std.proofs.lemmas.Nat.Bits.{and_pow, bit_at-lt, bit_at-pow_same, bit_at_or}
use Rattle.plan_trees.specs.PlaceSets.{has, one, are_apart}

-- a number below 2 ^ width has no bit from there on
pub no_bit_past : (width number bit : ℕ) → number < 2 ^ width → width ≤ bit → has number bit ≡ false
no_bit_past width number bit small past =
    let larger : 2 ^ width ≤ 2 ^ bit = pow-le-pow_right (omega arith) past in
    let none : number / 2 ^ bit ≡ 0 = div-eq_of_lt (omega arith) in
    rw none refl

-- whether all numbers below this one pass a test
unfoldable pub all_pass : ℕ → (ℕ → Bool) → Bool
all_pass zero test = true
all_pass (suc n) test = test n && all_pass n test

same_or_less : (k n : ℕ) → k < suc n → (k ≡ n) ⊎ (k < n)
same_or_less k n h = grind (arith, cases_lt)

at_each_by : (n : ℕ) (test : ℕ → Bool) (k : ℕ) → test n ≡ true → (k < n → test k ≡ true) → (k ≡ n) ⊎ (k < n)
    → test k ≡ true
at_each_by n test k a b (inl e) = rw e a
at_each_by n test k a b (inr less) = b less

pub at_each : (n : ℕ) (test : ℕ → Bool) (k : ℕ) → all_pass n test ≡ true → k < n → test k ≡ true
unfolding all_pass
at_each zero test k h less = absurd (omega arith)
at_each (suc n) test k h less =
    let parts = and_parts (test n) (all_pass n test) h in
    at_each_by n test k parts.0 (λ l. at_each n test k parts.1 l) (same_or_less k n less)

pub or_right : (b c : Bool) → b ≡ false → (b || c) ≡ true → c ≡ true
or_right true c e h = absurd (true≢false e)
or_right false c e h = h

-- two sets that are apart stay below the number of sets together
pub both_below : (left right count : ℕ) → are_apart left right ≡ true → left < 2 ^ count → right < 2 ^ count
    → left + right < 2 ^ count
both_below left right count apart less few =
    subst (λ set. set < 2 ^ count) (or_disjoint left right (eqb-true (bit_and left right) 0 apart))
    (or_lt count left right less few)

-- One place.

even_of : (n : ℕ) → (n % 2 == 1) ≡ false → n % 2 ≡ 0
even_of n h = grind (arith, nat_tests)

-- a set is apart from a place that isn't in it
pub apart_from_one : (set place : ℕ) → has set place ≡ false → are_apart set (one place) ≡ true
apart_from_one set place absent =
    let even : set / 2 ^ place % 2 ≡ 0 = even_of _ absent in
    let none : bit_and set (2 ^ place) ≡ 0 = and_pow set place ∙ ap (λ bit. bit * 2 ^ place) even ∙ omega arith in
    eq-eqb (bit_and set (one place)) 0 none

pub has_one : (place : ℕ) → has (one place) place ≡ true
has_one place = ap (λ bit. bit == 1) (bit_at-pow_same place)

pub one_small : (place : ℕ) → place < 5 → one place < 32
one_small place few = pow-lt few

-- one more place of five keeps a set small
pub with_one_small : (set place : ℕ) → set < 32 → place < 5 → has set place ≡ false → set + one place < 32
with_one_small set place small few absent =
    both_below set (one place) 5 (apart_from_one set place absent) small (one_small place few)

-- Two sets.

either_bit : (a b : ℕ) → a < 2 → b < 2 → (max a b == 1) ≡ (a == 1 || b == 1)
either_bit zero zero h k = refl
either_bit zero (suc zero) h k = refl
either_bit (suc zero) zero h k = refl
either_bit (suc zero) (suc zero) h k = refl
either_bit (suc (suc a)) b h k = absurd (omega arith)
either_bit a (suc (suc b)) h k = absurd (omega arith)

-- the sum of two sets that are apart has the places of both
pub has_union : (left right place : ℕ) → are_apart left right ≡ true → has (left + right) place
    ≡ (has left place || has right place)
has_union left right place apart =
    ap (λ set. has set place) (sym (or_disjoint left right (eqb-true (bit_and left right) 0 apart)))
    ∙ ap (λ bit. bit == 1) (bit_at_or left right place)
    ∙ either_bit (left / 2 ^ place % 2) (right / 2 ^ place % 2) (bit_at-lt left place) (bit_at-lt right place)
