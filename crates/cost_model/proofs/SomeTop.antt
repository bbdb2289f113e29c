-- Every sound statement has a valid top: nested loops over all places, sorted or grouped where that is wanted.
use Rattle.std.proofs.Common.{ℕ, zero, suc, ◌≡◌, ◌<◌, ◌-◌, ◌/◌, ◌%◌, ◌^◌, ◌==◌, Bool, true, false, List, [], ◌∷◌}
use Rattle.std.proofs.Common.{length, map, slice_index_or, All, ap, sym, ◌∙◌, refl, arith, true≢false, pow-suc, pow_pos}
use Rattle.std.proofs.lemmas.Nat.{shr-shr}
use Rattle.row_values.specs.Statements.{Statement, IsSoundQuery}
use Rattle.row_values.specs.declared.statement.ColRef.{ColRef}
use Rattle.row_values.specs.declared.statement.OrderKey.{OrderKey}
use Rattle.plan_trees.specs.declared.plans.Access.TheVariants.{Seq}
use Rattle.plan_trees.specs.declared.plans.StepKind.TheVariants.{Loop}
use Rattle.plan_trees.specs.PlaceSets.{has, all_below}
use Rattle.plan_trees.specs.PlanSpace.{IsValidPlan, IsValidTop, ascending, has_all_keys, is_grouped, is_sorted_plan}
use Rattle.plan_trees.specs.PlanSpace.{wanted_order, wants_order}
use Rattle.plan_trees.specs.Trees.{Tree, Base, Join, Sort, TopTree, Rows, HashGroups, places_of}
use Rattle.plan_trees.proofs.SoundParts.{column_in_range}

-- Sets of the first places.

half_of_all : (n : ℕ) → all_below (suc n) / 2 ≡ all_below n
half_of_all n = let twice = pow-suc 2 n in let some = pow_pos n in omega arith

odd_of_all : (n : ℕ) → all_below (suc n) % 2 ≡ 1
odd_of_all n = let twice = pow-suc 2 n in let some = pow_pos n in omega arith

has_next : (set place : ℕ) → has set (suc place) ≡ has (set / 2) place
has_next set place = ap (λ n. n % 2 == 1) (ap (λ k. set / 2 ^ k) (omega arith) ∙ sym (shr-shr set 1 place))

has_first : (set : ℕ) → set % 2 ≡ 1 → has set 0 ≡ true
has_first set odd =
    let whole : set / 2 ^ 0 ≡ set = omega arith in
    rw (whole, odd) refl

pub has_below : (n place : ℕ) → place < n → has (all_below n) place ≡ true
has_below zero place less = absurd (omega arith)
has_below (suc n) zero less = has_first (all_below (suc n)) (odd_of_all n)
has_below (suc n) (suc place) less = has_next (all_below (suc n)) place ∙ ap (λ set. has set place) (half_of_all n)
    ∙ has_below n place (omega arith)

pub has_not_next : (n : ℕ) → has (all_below n) n ≡ false
has_not_next zero = refl
has_not_next (suc n) = has_next (all_below (suc n)) n ∙ ap (λ set. has set n) (half_of_all n) ∙ has_not_next n

-- Nested loops over the first places.

pub loops : ℕ → Tree
loops zero = Base (Seq 0)
loops (suc last) = Join (loops last) (Loop (Seq (suc last)))

loops_places : (last : ℕ) → places_of (loops last) ≡ all_below (suc last)
unfolding loops
loops_places zero = refl
loops_places (suc last) =
    let below = loops_places last in
    let twice = pow-suc 2 (suc last) in
    let some = pow_pos (suc last) in
    omega arith

loops_valid : (q : Statement) (indexed : List ℕ) (last : ℕ) → last < length q.places
    → IsValidPlan q indexed (loops last)
unfolding loops
loops_valid q indexed zero there = there
loops_valid q indexed (suc last) there = (
  loops_valid q indexed last (omega arith),
  (
    there,
    ap (λ set. has set (suc last)) (loops_places last)
        ∙ has_not_next (suc last),
  ),
)

loops_unsorted : (q : Statement) (last : ℕ) → is_sorted_plan q (loops last) ≡ false
unfolding loops
loops_unsorted q zero = refl
loops_unsorted q (suc last) = loops_unsorted q last

-- Wanted keys are of places that are there.

keys_below : (n : ℕ) (keys : List OrderKey) → All (λ key. key.at.place < n) keys → has_all_keys (all_below n) keys
    ≡ true
keys_below n [] h = refl
keys_below n (key ∷ keys) h =
    rw (has_below n key.at.place (h 0 key (omega arith))) (keys_below n keys (λ k d less. h (suc k) d (omega arith)))

groups_below : (n : ℕ) (groups : List ColRef) → All (λ at. at.place < n) groups
    → has_all_keys (all_below n) (map ascending groups) ≡ true
groups_below n [] h = refl
groups_below n (at ∷ groups) h =
    rw (has_below n at.place (h 0 at (omega arith))) (groups_below n groups (λ k d less. h (suc k) d (omega arith)))

wanted_by : (b : Bool) (q : Statement) → IsSoundQuery q → is_grouped q ≡ b
    → has_all_keys (all_below (length q.places)) (wanted_order q) ≡ true
wanted_by true q h e =
    rw e (groups_below (length q.places) q.groups (λ k d less. column_in_range q.places (slice_index_or q.groups k d)
    (h.groups k d less)))
wanted_by false q h e =
    rw e (keys_below (length q.places) q.order (λ k d less. column_in_range q.places (slice_index_or q.order k d).at
    (h.order k d less)))

-- A top.

pub record HasValidTop (q : Statement) (indexed : List ℕ) : Type 0 where
  pub top : TopTree
  pub valid : IsValidTop q indexed top

whole : (n : ℕ) → 0 < n → suc (n - 1) ≡ n
whole n some = omega arith

top_by : (grouped wants : Bool) (q : Statement) (indexed : List ℕ) (last : ℕ) → IsSoundQuery q
    → suc last ≡ length q.places → is_grouped q ≡ grouped → wants_order q ≡ wants → HasValidTop q indexed
top_by true wants q indexed last h e g w = record {
  top = HashGroups (loops last);
  valid = record {
    plan = loops_valid q indexed last (omega arith);
    whole = loops_places last ∙ ap all_below e;
    suits =
        g;
  };
}
top_by false false q indexed last h e g w = record {
  top = Rows (loops last);
  valid = record {
    plan = loops_valid q indexed last (omega arith);
    whole = loops_places last ∙ ap all_below e;
    suits =
        (g, λ wanted. absurd (true≢false (sym wanted ∙ w)));
  };
}
top_by false true q indexed last h e g w = record {
  top = Rows (Sort (loops last));
  valid = record {
    plan = (
      loops_valid q indexed last (omega arith),
      w,
      ap (λ set. has_all_keys set (wanted_order q))
          (loops_places last ∙ ap all_below e) ∙ wanted_by (is_grouped q) q h refl,
      loops_unsorted q last,
    );
    whole = loops_places last ∙ ap all_below e;
    suits = (g, λ wanted. w);
  };
}

pub some_top : (q : Statement) (indexed : List ℕ) → IsSoundQuery q → HasValidTop q indexed
some_top q indexed h =
    top_by (is_grouped q) (wants_order q) q indexed (length q.places - 1) h (whole (length q.places) h.some_place) refl
    refl
