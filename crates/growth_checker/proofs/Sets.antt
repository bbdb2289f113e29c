-- Sets of selectivities as masks: what a union, an intersection and a single selectivity hold.
use Rattle.std.proofs.Common.{ℕ, ◌≡◌, ◌*◌, ◌%◌, ◌^◌, ◌<◌, ◌==◌, ◌≢◌, ◌⊎◌, inl, inr, min, max, Bool, true, false, ◌||◌}
use Rattle.std.proofs.Common.{◌&&◌, arith, refl, sym, ◌∙◌, bit_and, bit_or, subst, w8}
use Rattle.std.specs.Int.{bit_at, trailing_zeros}
use Rattle.std.proofs.lemmas.Nat.Bits.{bit_at-trailing_zeros, bit_at-lt, bit_at_and, bit_at_or, bit_at-zero}
use Rattle.std.proofs.lemmas.Nat.Bits.{bit_at-pow_same, bit_at-pow_other, same_from_bits}
use Rattle.std.proofs.Math.Pow.{pow-lt}
use Rattle.std.proofs.lemmas.Bool.Decides.{nat_tests}
use Rattle.growth_checker.specs.Sharing.{has}

max_bit : (x y : ℕ) → x < 2 → y < 2 → (max x y == 1) ≡ ((x == 1) || (y == 1))
max_bit x y h k = grind (arith, nat_tests)

min_bit : (x y : ℕ) → x < 2 → y < 2 → (min x y == 1) ≡ ((x == 1) && (y == 1))
min_bit x y h k = grind (arith, nat_tests)

pub has-or : (a b i : ℕ) → has (bit_or a b) i ≡ (has a i || has b i)
has-or a b i = rw (bit_at_or a b i) (max_bit (bit_at a i) (bit_at b i) (bit_at-lt a i) (bit_at-lt b i))

pub has-and : (a b i : ℕ) → has (bit_and a b) i ≡ (has a i && has b i)
has-and a b i = rw (bit_at_and a b i) (min_bit (bit_at a i) (bit_at b i) (bit_at-lt a i) (bit_at-lt b i))

pub has-zero : (i : ℕ) → has 0 i ≡ false
has-zero i = rw (bit_at-zero i) refl

same_test : (i j : ℕ) → i ≡ j → (j == i) ≡ true
same_test i j h = grind (arith, nat_tests)

other_test : (i j : ℕ) → i ≢ j → (j == i) ≡ false
other_test i j h = grind (arith, nat_tests)

decided : (i j : ℕ) → (i ≡ j) ⊎ (i ≢ j)
decided i j = grind (arith, nat_tests)

pub has-one : (j i : ℕ) → has (2 ^ j) i ≡ (j == i)
has-one j i = elim (decided i j) [
  | inl e ↦ rw (e, bit_at-pow_same j) (sym (same_test j j refl))
  | inr n ↦ rw (bit_at-pow_other j i n) (sym (other_test i j n))
]

-- a set has a selectivity where its bit is 1
pub has_from_bit : (mask i : ℕ) → bit_at mask i ≡ 1 → has mask i ≡ true
has_from_bit mask i e = rw e refl

no_bit : (x : ℕ) → x < 2 → (x == 1) ≡ false → x ≡ 0
no_bit x h k = grind (arith, nat_tests)

-- sets without a selectivity in common
pub sets_apart : (a b : ℕ) → ((i : ℕ) → (has a i && has b i) ≡ false) → bit_and a b ≡ 0
sets_apart a b h =
    same_from_bits (bit_and a b) 0 (λ i. no_bit (bit_at (bit_and a b) i) (bit_at-lt (bit_and a b) i) (has-and a b i
    ∙ h i) ∙ sym (bit_at-zero i))

-- a set of both, and a set of what both have, by what each is known to have

pub union_has : (a b i : ℕ) (x y : Bool) → has a i ≡ x → has b i ≡ y → has (bit_or a b) i ≡ (x || y)
union_has a b i x y h k = has-or a b i ∙ rw (h, k) refl

pub common_has : (a b i : ℕ) (x y : Bool) → has a i ≡ x → has b i ≡ y → has (bit_and a b) i ≡ (x && y)
common_has a b i x y h k = has-and a b i ∙ rw (h, k) refl

pub shifted_one : (i : ℕ) → i < 8 → 1 * 2 ^ i % 256 ≡ 2 ^ i
shifted_one i h = let small : 2 ^ i < 256 = pow-lt {i = i} {j = 8} h in omega (arith, small)

no_test : (x : ℕ) → x ≡ 0 → (x == 1) ≡ false
no_test x h = rw h refl

-- the place of the lowest 1 is the first selectivity in the set
pub first_in : (mask i : ℕ) → 0 < mask → mask < 2 ^ 8 → trailing_zeros w8 mask ≡ i → (has mask i ≡ true)
    × ((j : ℕ) → j < i → has mask j ≡ false)
first_in mask i some small e =
    let first = bit_at-trailing_zeros w8 mask some small in
    subst (λ (k : ℕ). (has mask k ≡ true) × ((j : ℕ) → j < k → has mask j ≡ false)) e
    (has_from_bit mask (trailing_zeros w8 mask) first.1, (λ j h. no_test (bit_at mask j) (first.2 j h)))
