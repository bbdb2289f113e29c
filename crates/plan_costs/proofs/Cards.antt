-- A cardinality, from its product and its quotients.
use Rattle.std.proofs.Common.{ℕ, ◌≡◌, ◌≤◌, ◌<◌, ◌*◌, ◌^◌, List, length, map, slice_index, All, arith, refl}
use Rattle.std.specs.Int.{div_ceil}
use Rattle.row_values.specs.Statements.{Statement, IsSoundQuery}
use Rattle.plan_trees.specs.PlaceSets.{has}
use Rattle.plan_trees.specs.Statistics.{Statistics, IsSoundStats, IsSoundVector, selectivity_places}
use Rattle.cost_model.specs.Cardinalities.{card_of, kappa, is_inside, marked_product, product_over}
use Rattle.plan_trees.specs.declared.scale.TheConstants.{COST_SCALE}
use Rattle.cost_model.proofs.CostBounds.{card_below_limit, fixed_few, selected_few}
use Rattle.cost_model.proofs.SoundNumbers.{are_sized, preds_there, vector_some}
use Rattle.plan_costs.proofs.Factors.{rows_divisor, divisor_some, marked_some}
use Rattle.plan_costs.proofs.Quotients.{quotient_twice}

-- what soundness says of the parts of a cardinality
pub record AreParts (q : Statement) (s : Statistics) (vector : List ℕ) (set : ℕ) : Type 0 where
  pub rows : (k : ℕ) → k < length s.rows → 1 ≤ slice_index s.rows k
  pub fixed : (k : ℕ) → k < length s.fixed → 1 ≤ slice_index s.fixed k
  pub distinct : (k : ℕ) → k < length s.distinct → 1 ≤ slice_index s.distinct k
  pub numbers : (k : ℕ) → k < length vector → 1 ≤ slice_index vector k
  pub there : All (λ pred. pred.at.place < length s.rows) q.preds
  pub fixed_few : product_over set 0 s.fixed ≤ 2 ^ 63
  pub selected_few : marked_product (map (has set) (selectivity_places q.preds)) vector ≤ 2 ^ 63
  pub card_few : card_of q s vector set < 2 ^ 124

pub are_parts : (q : Statement) (s : Statistics) (vector : List ℕ) (set : ℕ) → IsSoundQuery q → IsSoundStats q s
    → IsSoundVector q s vector → AreParts q s vector set
are_parts q s vector set h k v =
    let sized = are_sized q s vector h k v in
    let counts = k.fixed_counts in
    record {
      rows = λ place less. (k.rows place 0 less).low;
      fixed = λ place less. (k.fixed place (omega arith)).low;
      distinct = λ edge less. k.distinct edge 0 less;
      numbers = vector_some q s vector v;
      there = preds_there q s h k;
      fixed_few = fixed_few q s vector set sized;
      selected_few = selected_few q s vector set sized;
      card_few = card_below_limit q s vector set sized;
    }

pub kappa_made : (q : Statement) (s : Statistics) (vector : List ℕ) (set start over left : ℕ) → AreParts q s vector set
    → start ≡ COST_SCALE * product_over set 0 s.fixed
    → over ≡ div_ceil start (rows_divisor set s.rows q.preds)
    → left ≡ div_ceil over (marked_product (map (is_inside set) q.edges) s.distinct) → left ≡ kappa q s set
unfolding kappa
kappa_made q s vector set start over left parts a b c =
    let once = quotient_twice (COST_SCALE * product_over set 0 s.fixed) (rows_divisor set s.rows q.preds)
    (marked_product (map (is_inside set) q.edges) s.distinct)
    (divisor_some set s.rows q.preds parts.rows parts.there)
    (marked_some (map (is_inside set) q.edges) s.distinct parts.distinct) in
    rw (c, b, a, once) refl

pub card_made : (q : Statement) (s : Statistics) (vector : List ℕ) (set constant product : ℕ) → constant ≡ kappa q s set
    → product ≡ marked_product (map (has set) (selectivity_places q.preds)) vector
    → constant * product ≡ card_of q s vector set
unfolding card_of
card_made q s vector set constant product a b = rw (a, b) refl
