-- How many places a set has, by trying all sets.
use Rattle.std.proofs.Common.{ℕ, ◌≡◌, ◌≤◌, ◌<◌, ◌+◌, ◌==◌, ◌||◌, not, Bool, true, false, if◌then◌else◌, refl, arith}
use Rattle.std.proofs.lemmas.Bool.{eqb-true}
use Rattle.plan_trees.specs.PlaceSets.{has, one, are_apart}
use Rattle.plan_trees.proofs.Bits.{all_pass, at_each, or_right}

pub place_count : ℕ → ℕ
place_count set = (if has set 0 then 1 else 0) + (if has set 1 then 1 else 0) + (if has set 2 then 1 else 0)
    + (if has set 3 then 1 else 0) + (if has set 4 then 1 else 0)

counts_one : ℕ → ℕ → Bool
counts_one set place = has set place || (place_count (set + one place) == place_count set + 1)

all_count_one : all_pass 32 (λ set. all_pass 5 (counts_one set)) ≡ true
unfolding all_pass counts_one place_count
all_count_one = refl

pub one_more : (set place : ℕ) → set < 32 → place < 5 → has set place ≡ false → place_count (set + one place)
    ≡ place_count set + 1
unfolding counts_one
one_more set place small few absent =
    let tried : counts_one set place ≡ true =
    at_each 5 (counts_one set) place (at_each 32 (λ set. all_pass 5 (counts_one set)) set all_count_one small) few
    in
    eqb-true (place_count (set + one place)) (place_count set + 1) (or_right (has set place) _ absent tried)

single : all_pass 5 (λ place. place_count (one place) == 1) ≡ true
unfolding all_pass place_count
single = refl

pub one_place : (place : ℕ) → place < 5 → place_count (one place) ≡ 1
one_place place few =
    eqb-true (place_count (one place)) 1 (at_each 5 (λ place. place_count (one place) == 1) place single few)

at_most_one : (b : Bool) → (if b then 1 else 0) ≤ 1
at_most_one true = omega arith
at_most_one false = omega arith

counts_both : ℕ → ℕ → Bool
counts_both left right =
    not (are_apart left right) || (place_count (left + right) == place_count left + place_count right)

all_count_both : all_pass 32 (λ left. all_pass 32 (counts_both left)) ≡ true
unfolding all_pass counts_both place_count
all_count_both = refl

pub both_places : (left right : ℕ) → left < 32 → right < 32 → are_apart left right ≡ true → place_count (left + right)
    ≡ place_count left + place_count right
unfolding counts_both
both_places left right small few apart =
    let tried : counts_both left right ≡ true =
    at_each 32 (counts_both left) right (at_each 32 (λ left. all_pass 32 (counts_both left)) left all_count_both
    small) few in
    eqb-true (place_count (left + right)) (place_count left + place_count right)
    (or_right (not (are_apart left right)) _ (rw apart refl) tried)

pub at_most_five : (set : ℕ) → place_count set ≤ 5
unfolding place_count
at_most_five set =
    omega (
      arith,
      at_most_one (has set 0),
      at_most_one (has set 1),
      at_most_one (has set 2),
      at_most_one (has set 3),
      at_most_one (has set 4),
    )
