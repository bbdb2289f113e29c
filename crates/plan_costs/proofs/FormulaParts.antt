-- The constants of formulas are at least 1.
use Rattle.std.proofs.Common.{ℕ, zero, suc, ◌≤◌, ◌<◌, ◌+◌, ◌*◌, ◌/◌, ◌==◌, if◌then◌else◌, length, map, slice_index}
use Rattle.std.proofs.Common.{arith}
use Rattle.std.specs.Int.{div_ceil}
use Rattle.std.proofs.lemmas.Bool.Decides.{nat_tests}
use Rattle.std.proofs.lemmas.Grind.{div_ceil_times}
use Rattle.row_values.specs.Statements.{Statement, IsSoundQuery}
use Rattle.plan_trees.specs.Statistics.{Statistics, IsSoundStats}
use Rattle.cost_model.specs.Cardinalities.{kappa, is_inside, product_over}
use Rattle.cost_model.specs.Costs.{digits, digits_within, look_up_cost}
use Rattle.cost_model.proofs.CostBounds.{some_times}
use Rattle.plan_trees.specs.declared.scale.TheConstants.{COST_SCALE}
use Rattle.plan_costs.proofs.Cards.{are_parts}
use Rattle.plan_costs.proofs.Factors.{divisor_some, marked_some, product_some}
use Rattle.plan_costs.proofs.Ones.{ones, ones_sound}

some_digit_by : (n d : ℕ) → 1 ≤ n → 1 ≤ (if n == 0 then 0 else 1 + d)
some_digit_by n d h = grind (arith, nat_tests)

some_digit_within : (most n : ℕ) → 1 ≤ n → 1 ≤ digits_within (suc most) n
unfolding digits_within
some_digit_within most n h = some_digit_by n (digits_within most (n / 2)) h

pub some_digit : (n : ℕ) → 1 ≤ n → 1 ≤ digits n
unfolding digits
some_digit n h = some_digit_within 63 n h

some_quotient_by : (a b c : ℕ) → 1 ≤ a → a ≤ c * b → 1 ≤ c
some_quotient_by a b zero h k = absurd (omega arith)
some_quotient_by a b (suc c) h k = omega arith

some_quotient : (a b : ℕ) → 1 ≤ a → 1 ≤ b → 1 ≤ div_ceil a b
some_quotient a b h k = some_quotient_by a b (div_ceil a b) h (div_ceil_times a b k).0

-- the constant of a cardinality is rounded up, so it isn't 0
pub kappa_some : (q : Statement) (s : Statistics) (set : ℕ) → IsSoundQuery q → IsSoundStats q s → 1 ≤ kappa q s set
unfolding kappa
kappa_some q s set h k =
    let parts = are_parts q s (ones q) set h k (ones_sound q s h k) in
    some_quotient _ _ (some_times COST_SCALE _ (omega arith) (product_some set 0 s.fixed parts.fixed))
    (some_times _ _ (divisor_some set s.rows q.preds parts.rows parts.there)
    (marked_some (map (is_inside set) q.edges) s.distinct parts.distinct))

rows_some : (q : Statement) (s : Statistics) (place : ℕ) → IsSoundStats q s → place < length q.places
    → 1 ≤ slice_index s.rows place
rows_some q s place k there = let counts = k.row_counts in (k.rows place 0 (omega arith)).low

pub scan_some : (q : Statement) (s : Statistics) (place : ℕ) → IsSoundStats q s → place < length q.places
    → 1 ≤ s.weights.row * slice_index s.rows place
scan_some q s place k there = some_times _ _ k.weights.row.low (rows_some q s place k there)

pub look_up_some : (q : Statement) (s : Statistics) (place found : ℕ) → IsSoundStats q s → place < length q.places
    → 1 ≤ look_up_cost s place found
look_up_some q s place found k there =
    let descent = some_times s.weights.probe (digits (slice_index s.rows place)) k.weights.probe.low
    (some_digit (slice_index s.rows place) (rows_some q s place k there)) in
    omega arith

pub comparisons_some : (q : Statement) (s : Statistics) (set : ℕ) → IsSoundStats q s
    → 1 ≤ s.weights.sort * digits (product_over set 0 s.rows)
comparisons_some q s set k = some_times _ _ k.weights.sort.low
    (some_digit _ (product_some set 0 s.rows (λ place less. (k.rows place 0 less).low)))
