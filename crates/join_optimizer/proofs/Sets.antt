-- Sets with one place more or less.
use Rattle.std.proofs.Common.{ℕ, ◌≡◌, ◌≤◌, ◌<◌, ◌+◌, ◌/◌, ◌%◌, ◌^◌, ◌==◌, ◌⊎◌, inl, inr, Bool, true, false, sym, subst}
use Rattle.std.proofs.Common.{◌∙◌, refl, arith, true≢false, pow_pos}
use Rattle.std.proofs.Math.Nat.{add-div_right, div-eq_of_lt}
use Rattle.std.proofs.lemmas.Bool.{cases_lt}
use Rattle.std.proofs.lemmas.Bool.Decides.{nat_tests}
use Rattle.plan_trees.specs.PlaceSets.{has, one}

odd_next : (n : ℕ) → (n % 2 == 1) ≡ false → ((n + 1) % 2 == 1) ≡ true
odd_next n h = grind (arith, nat_tests)

-- a set that gains a place has it
pub gained : (set place : ℕ) → has set place ≡ false → has (set + one place) place ≡ true
gained set place h =
    let e : (set + 2 ^ place) / 2 ^ place ≡ set / 2 ^ place + 1 = add-div_right set (pow_pos place) in
    rw e (odd_next (set / 2 ^ place) h)

even_next : (n : ℕ) → (n % 2 == 1) ≡ true → ((n + 1) % 2 == 1) ≡ false
even_next n h = grind (arith, nat_tests)

lost_by : (b : Bool) (from place : ℕ) → has from place ≡ b → has (from + one place) place ≡ true
    → has from place ≡ false
lost_by false from place e h = e
lost_by true from place e h =
    let more : (from + 2 ^ place) / 2 ^ place ≡ from / 2 ^ place + 1 = add-div_right from (pow_pos place) in
    let none : has (from + one place) place ≡ false = rw more (even_next (from / 2 ^ place) e) in
    absurd (true≢false (sym h ∙ none))

-- a set that loses a place doesn't have it any more
pub lost : (from place set : ℕ) → from + one place ≡ set → has set place ≡ true → has from place ≡ false
lost from place set e h = lost_by (has from place) from place refl (subst (λ n. has n place ≡ true) (sym e) h)

-- the empty set has no place
pub none_in_empty : (place : ℕ) → has 0 place ≡ false
none_in_empty place = let e : 0 / 2 ^ place ≡ 0 = div-eq_of_lt (pow_pos place) in rw e refl

within_by : (set place : ℕ) → has set place ≡ true → (set < 2 ^ place) ⊎ (2 ^ place ≤ set) → one place ≤ set
within_by set place h (inl less) =
    absurd (true≢false (sym h ∙ (let e : set / 2 ^ place ≡ 0 = div-eq_of_lt less in rw e refl)))
within_by set place h (inr more) = more

-- a place of a set can be taken from it
pub within : (set place : ℕ) → has set place ≡ true → one place ≤ set
within set place h = within_by set place h (cases_lt set (2 ^ place))
