-- Feasible tables, and numbers that fit them.
use Rattle.std.proofs.Common.{ℕ, zero, suc, ◌≡◌, ◌≤◌, ◌<◌, ◌+◌, ◌*◌, ◌^◌, Bool, true, false, IsTrue, List, length}
use Rattle.std.proofs.Common.{ap, sym, ◌∙◌, subst, arith, true≢false, pow_pos, pow-suc}
use Rattle.std.specs.Prelude.{◌↔◌}
use Rattle.row_values.specs.Statements.{Statement, IsSoundQuery}
use Rattle.plan_trees.specs.declared.scale.TheConstants.{COST_SCALE}
use Rattle.plan_trees.specs.PlaceSets.{all_below}
use Rattle.plan_trees.specs.PlanSpace.{is_grouped}
use Rattle.plan_trees.specs.Statistics.{Statistics, IsSoundStats, IsSoundVector}
use Rattle.cost_model.specs.Cardinalities.{card_of}
use Rattle.cost_model.specs.Costs.{access_unit, step_cost, join_cost, sort_cost}
use Rattle.cost_model.specs.LeastCost.{AtMost, Costs, FitsTable, IsFeasible, IsFeasibleAt, IsFeasiblePotential, IsPlaceSet}
use Rattle.cost_model.specs.LeastCost.{Table, TakesPlace, TakesSort, TakesSplit, whole_set}
use Rattle.cost_model.proofs.CostBounds.{weighed_below_limit}
use Rattle.cost_model.proofs.SoundNumbers.{are_sized}
use Rattle.certificate_check.specs.Bounds.{FitsGroups, IsLeastFailing}
use Rattle.certificate_check.proofs.Answering.{below_more, retold}

-- Sets.

same_costs : (q : Statement) (s : Statistics) (vector : List ℕ) (table : Table) (set : ℕ) (costs other : Costs)
    → ((sorted : Bool) → costs sorted ≡ other sorted) → IsFeasiblePotential q s vector table set costs
    → IsFeasiblePotential q s vector table set other
same_costs q s vector table set costs other same h = record {
  places = λ place there. record {
    access = λ sorted access valid at whole ordered.
        subst (λ o. AtMost o (COST_SCALE * access_unit q s vector access)) (same sorted)
        ((h.places place there).access sorted access valid at whole ordered);
    step = λ sorted from cost step some whole valid enters below.
        subst (λ o. AtMost o (cost + step_cost q s vector from step)) (same sorted)
        ((h.places place there).step sorted from cost step some whole valid enters below);
  };
  splits = λ right some less sorted left edge outer inner whole valid below inside.
      subst (λ o. AtMost o (outer + inner + join_cost q s vector left right)) (same sorted)
      (h.splits right some less sorted left edge outer inner whole valid below inside);
  sort = λ cost wants keys below.
      subst (λ o. AtMost o (cost + sort_cost q s vector set)) (same true)
      (h.sort cost wants keys (subst (λ o. AtMost o cost) (sym (same false)) below));
}

-- the parts of what is asked of a set, at the numbers of its cell
pub set_told : (q : Statement) (s : Statistics) (vector : List ℕ) (table : Table) (set : ℕ) (costs : Costs) (r : Bool)
    → ((sorted : Bool) → table sorted set ≡ costs sorted)
    → TakesSort q s vector set costs
    → ((right : ℕ) → 0 < right → right < set → TakesSplit q s vector table set right costs)
    → (IsTrue r ↔ ((place : ℕ) → place < length q.places → TakesPlace q s vector table set place costs))
    → IsTrue r ↔ IsFeasibleAt q s vector table set
set_told q s vector table set costs r read sort splits h =
    retold r h
    (λ places. same_costs q s vector table set costs (λ sorted. table sorted set) (λ sorted. sym (read sorted))
    (record { places = places; splits = splits; sort = sort }))
    (λ f. (same_costs q s vector table set (λ sorted. table sorted set) costs read f).places)

-- the sets from 1 to below this one are feasible
abbrev pub AreFeasible : Statement → Statistics → List ℕ → Table → ℕ → Type 0
AreFeasible q s vector table count =
    (set : ℕ) → set < count → IsPlaceSet q set → IsFeasibleAt q s vector table set

pub sets_more : (q : Statement) (s : Statistics) (vector : List ℕ) (table : Table) (set : ℕ)
    → AreFeasible q s vector table set → IsFeasibleAt q s vector table set
    → AreFeasible q s vector table (set + 1)
sets_more q s vector table set each here =
    below_more (λ n. IsPlaceSet q n → IsFeasibleAt q s vector table n) set each (λ there. here)

pub least_failing : (q : Statement) (s : Statistics) (vector : List ℕ) (table : Table) (set : ℕ)
    → IsPlaceSet q set → AreFeasible q s vector table set → ¬ IsFeasibleAt q s vector table set
    → IsLeastFailing q s vector table set
least_failing q s vector table set there each never =
    record { there = there; fails = never; none_below = λ below place_set less. each below less place_set }

pub all_feasible : (q : Statement) (s : Statistics) (vector : List ℕ) (table : Table) (count : ℕ)
    → AreFeasible q s vector table count → 2 ^ length q.places ≤ count → IsFeasible q s vector table
all_feasible q s vector table count each whole set there =
    let less = there.there in each set (omega arith) there

-- Tops.

some_below : (n : ℕ) → 0 < n → 0 < all_below n
some_below zero h = absurd (omega arith)
some_below (suc n) h =
    let more = pow-suc 2 n in
    let some : 0 < 2 ^ n = pow_pos n in
    omega arith

-- a statement has some place
pub whole_some : (q : Statement) → IsSoundQuery q → 0 < whole_set q
whole_some q query = let some = query.some_place in some_below (length q.places) (omega arith)

pub weighed_below : (q : Statement) (s : Statistics) (vector : List ℕ) (set weight given card : ℕ) → IsSoundQuery q
    → IsSoundStats q s → IsSoundVector q s vector → weight ≤ 1000 → given ≡ weight → card ≡ card_of q s vector set
    → given * card < 2 ^ 128
weighed_below q s vector set weight given card query sound numbers light e f =
    let less = weighed_below_limit q s vector set weight (are_sized q s vector query sound numbers) light in
    rw (e, f) (omega arith)

pub groups_told : (q : Statement) (s : Statistics) (vector : List ℕ) (table : Table) (least : ℕ) (whole : Costs)
    (r : Bool) → is_grouped q ≡ true → ((sorted : Bool) → table sorted (whole_set q) ≡ whole sorted)
    → (IsTrue r ↔ FitsGroups q s vector whole least) → IsTrue r ↔ FitsTable q s vector table least
groups_told q s vector table least whole r grouped read h =
    retold r h (λ f. record {
      rows = λ cost g below. absurd (true≢false (sym grouped ∙ g));
      sorted_groups = λ cost g below. f.sorted cost (subst (λ o. AtMost o cost) (read true) below);
      hash_groups = λ cost g below. f.hashed cost (subst (λ o. AtMost o cost) (read false) below);
    })
    (λ t. record {
      sorted = λ cost below. t.sorted_groups cost grouped (subst (λ o. AtMost o cost) (sym (read true)) below);
      hashed = λ cost below. t.hash_groups cost grouped (subst (λ o. AtMost o cost) (sym (read false)) below);
    })

pub hashed_told : (q : Statement) (s : Statistics) (vector : List ℕ) (least by_order by_hash card : ℕ) (whole : Costs)
    (r : Bool) → by_order ≡ s.weights.row * card → by_hash ≡ s.weights.hash * card
    → card ≡ card_of q s vector (whole_set q)
    → ((cost : ℕ) → AtMost (whole true) cost → least ≤ cost + by_order)
    → (IsTrue r ↔ ((cost : ℕ) → AtMost (whole false) cost → least ≤ cost + by_hash))
    → IsTrue r ↔ FitsGroups q s vector whole least
hashed_told q s vector least by_order by_hash card whole r e g f ordered h =
    let sorted_same : by_order ≡ s.weights.row * card_of q s vector (whole_set q) =
    e ∙ ap (λ n. s.weights.row * n) f in
    let hashed_same : by_hash ≡ s.weights.hash * card_of q s vector (whole_set q) =
    g ∙ ap (λ n. s.weights.hash * n) f in
    retold r h (λ k. record {
      sorted = λ cost below. subst (λ n. least ≤ cost + n) sorted_same (ordered cost below);
      hashed = λ cost below. subst (λ n. least ≤ cost + n) hashed_same (k cost below);
    })
    (λ t cost below. subst (λ n. least ≤ cost + n) (sym hashed_same) (t.hashed cost below))
