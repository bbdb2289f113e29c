-- Sets of places as numbers, the sum of 2 ^ t over their places t, are sets of places as tests.
use Rattle.std.proofs.Common.{ℕ, ◌≡◌, ◌<◌, ◌≤◌, ◌+◌, ◌-◌, ◌/◌, ◌%◌, ◌^◌, ◌==◌, ◌||◌, min, nat_lt, suc, zero, Bool}
use Rattle.std.proofs.Common.{false, List, ap, sym, ◌∙◌, refl, arith, ◌⊎◌, inl, inr}
use Rattle.std.specs.Int.{bit_at}
use Rattle.std.specs.Prelude.{bit_and}
use Rattle.std.proofs.lemmas.Bool.{false≢true, cases_lt, cases_eq, eqb-true, eq-eqb, ne_eqb, lt-ltb, le-ltb}
use Rattle.std.proofs.lemmas.Nat.Bits.{bit_at_lowest, bit_at-suc, bit_at_ones, bit_at-pow_same, bit_at-pow_other}
use Rattle.std.proofs.lemmas.Nat.Bits.{bit_at-lt, bit_at_and, bit_at-zero}
use Rattle.std.proofs.Math.Nat.{div-eq_of_lt, pow-le-pow_right}
use Rattle.statement_meaning.specs.Combinations.{World}
use Rattle.statement_meaning.specs.PartialCombinations.{single, either, all_places, AreApart, Once}
use Rattle.statement_meaning.proofs.Keeping.{once_places}

-- whether the number, seen as a set, has this place
abbrev pub has_place : ℕ → ℕ → Bool
has_place set place = set / 2 ^ place % 2 == 1

never_both : (a b t : ℕ) → AreApart (has_place a) (has_place b) → bit_at a t ≡ 1 → bit_at b t ≡ 1 → ⊥
never_both a b t h x y = false≢true (sym (h t (eq-eqb (bit_at a t) 1 x)) ∙ eq-eqb (bit_at b t) 1 y)

half_apart : (a b : ℕ) → AreApart (has_place a) (has_place b) → AreApart (has_place (a / 2)) (has_place (b / 2))
half_apart a b h t e =
    ap (λ (n : ℕ). n == 1) (sym (bit_at-suc b t)) ∙ h (suc t) (ap (λ (n : ℕ). n == 1) (bit_at-suc a t) ∙ e)

at_most_one : (x y : ℕ) → x < 2 → y < 2 → (x ≡ 1 → y ≡ 1 → ⊥) → x + y < 2
at_most_one zero y p q n = omega (arith, q)
at_most_one (suc zero) zero p q n = omega arith
at_most_one (suc zero) (suc zero) p q n = absurd (n refl refl)
at_most_one (suc zero) (suc (suc y)) p q n = absurd (omega (arith, q))
at_most_one (suc (suc x)) y p q n = absurd (omega (arith, p))

few_lowest : (a b : ℕ) → AreApart (has_place a) (has_place b) → a % 2 + b % 2 < 2
few_lowest a b h =
    at_most_one (a % 2) (b % 2) (omega arith) (omega arith)
    (λ x y. never_both a b zero h (bit_at_lowest a ∙ x) (bit_at_lowest b ∙ y))

sum_bits : (a b t : ℕ) → AreApart (has_place a) (has_place b) → bit_at (a + b) t ≡ bit_at a t + bit_at b t
sum_bits a b zero h =
    let few = few_lowest a b h in
    rw (bit_at_lowest (a + b), bit_at_lowest a, bit_at_lowest b) (omega (arith, few))
sum_bits a b (suc t) h =
    let few = few_lowest a b h in
    let half : (a + b) / 2 ≡ a / 2 + b / 2 = omega (arith, few) in
    rw (bit_at-suc (a + b) t, bit_at-suc a t, bit_at-suc b t, half) (sum_bits (a / 2) (b / 2) t (half_apart a b h))

-- the sum of two sets with no common place is the set of the places of both
pub has_place_sum : (a b : ℕ) → AreApart (has_place a) (has_place b) → (place : ℕ)
    → has_place (a + b) place ≡ either (has_place a) (has_place b) place
has_place_sum a b h t =
    ap (λ (n : ℕ). n == 1) (sum_bits a b t h)
    ∙ by_bits (bit_at a t) (bit_at b t) (bit_at-lt a t) (bit_at-lt b t) (never_both a b t h)
  where
    by_bits : (x y : ℕ) → x < 2 → y < 2 → (x ≡ 1 → y ≡ 1 → ⊥) → (x + y == 1) ≡ ((x == 1) || (y == 1))
    by_bits zero zero p q n = refl
    by_bits zero (suc zero) p q n = refl
    by_bits zero (suc (suc y)) p q n = absurd (omega arith)
    by_bits (suc zero) zero p q n = refl
    by_bits (suc zero) (suc zero) p q n = absurd (n refl refl)
    by_bits (suc zero) (suc (suc y)) p q n = absurd (omega arith)
    by_bits (suc (suc x)) y p q n = absurd (omega arith)

-- 2 ^ t is the set of t alone
pub has_place_single : (t place : ℕ) → has_place (2 ^ t) place ≡ single t place
has_place_single t place = by_place (cases_eq place t)
  where
    by_place : (place ≡ t) ⊎ (place ≡ t → ⊥) → has_place (2 ^ t) place ≡ single t place
    by_place (inl e) = rw e (ap (λ (n : ℕ). n == 1) (bit_at-pow_same t) ∙ sym (eq-eqb t t refl))
    by_place (inr n) = ap (λ (n : ℕ). n == 1) (bit_at-pow_other t place n) ∙ sym (ne_eqb t place (λ e. n (sym e)))

-- 2 ^ n - 1 is the set of the places below n
pub has_place_below : (n place : ℕ) → has_place (2 ^ n - 1) place ≡ nat_lt place n
has_place_below n place = by_place (cases_lt place n)
  where
    by_place : (place < n) ⊎ (n ≤ place) → has_place (2 ^ n - 1) place ≡ nat_lt place n
    by_place (inl l) = ap (λ (n : ℕ). n == 1) (bit_at_ones n place l) ∙ sym (lt-ltb place n l)
    by_place (inr g) =
        let larger : 2 ^ n ≤ 2 ^ place = pow-le-pow_right (omega arith) g in
        let some : 0 < 2 ^ n = powers n in
        let none : (2 ^ n - 1) / 2 ^ place ≡ 0 = div-eq_of_lt (omega arith) in
        ap (λ (m : ℕ). m % 2 == 1) none ∙ sym (le-ltb place n g)
      where
        powers : (n : ℕ) → 0 < 2 ^ n
        powers zero = omega arith
        powers (suc n) =
            let less : 2 ^ n ≤ 2 ^ suc n = pow-le-pow_right (omega arith) (omega arith) in omega (arith, less, powers n)

-- sets whose common bits are none have no common place
pub disjoint_apart : (a b : ℕ) → bit_and a b ≡ 0 → AreApart (has_place a) (has_place b)
disjoint_apart a b h t e = by_bit (bit_at b t) (bit_at-lt b t) refl
  where
    least : min (bit_at a t) (bit_at b t) ≡ 0
    least = sym (bit_at_and a b t) ∙ (ap (λ (n : ℕ). bit_at n t) h ∙ bit_at-zero t)

    by_bit : (y : ℕ) → y < 2 → bit_at b t ≡ y → has_place b t ≡ false
    by_bit zero i k = ap (λ (n : ℕ). n == 1) k
    by_bit (suc zero) i k = absurd (omega (arith, least, k, eqb-true (bit_at a t) 1 e))
    by_bit (suc (suc y)) i k = absurd (omega (arith, i))

-- a place that isn't in a set, and the set with it
pub place_apart : (a t : ℕ) → has_place a t ≡ false → AreApart (has_place a) (has_place (2 ^ t))
place_apart a t h place e =
    has_place_single t place ∙ ne_eqb t place (λ q. false≢true (sym h ∙ (ap (has_place a) q ∙ e)))

pub has_place_more : (a t : ℕ) → has_place a t ≡ false → (place : ℕ)
    → has_place (a + 2 ^ t) place ≡ either (has_place a) (single t) place
has_place_more a t h place =
    has_place_sum a (2 ^ t) (place_apart a t h) place
    ∙ ap (λ (b : Bool). has_place a place || b) (has_place_single t place)

-- Lists that have each combination once, over sets as numbers: one place, a set and a place, two sets, and all places.

pub once_single : (world : World) (t : ℕ) (cs : List (List ℕ)) → Once world (single t) cs
    → Once world (has_place (2 ^ t)) cs
once_single world t cs o =
    once_places world (single t) (has_place (2 ^ t)) (λ place. sym (has_place_single t place)) cs o

pub once_more : (world : World) (a t : ℕ) → has_place a t ≡ false → (cs : List (List ℕ))
    → Once world (either (has_place a) (single t)) cs → Once world (has_place (a + 2 ^ t)) cs
once_more world a t h cs o =
    once_places world (either (has_place a) (single t)) (has_place (a + 2 ^ t))
    (λ place. sym (has_place_more a t h place)) cs o

pub once_both : (world : World) (a b : ℕ) → bit_and a b ≡ 0 → (cs : List (List ℕ))
    → Once world (either (has_place a) (has_place b)) cs → Once world (has_place (a + b)) cs
once_both world a b h cs o =
    once_places world (either (has_place a) (has_place b)) (has_place (a + b))
    (λ place. sym (has_place_sum a b (disjoint_apart a b h) place)) cs o

pub once_whole : (world : World) (cs : List (List ℕ)) → Once world (has_place (2 ^ world.places - 1)) cs
    → Once world (all_places world) cs
once_whole world cs o =
    once_places world (has_place (2 ^ world.places - 1)) (all_places world) (has_place_below world.places) cs o
