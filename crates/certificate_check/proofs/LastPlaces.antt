-- The inequalities by the place that comes last.
use Rattle.std.proofs.Common.{ℕ, ◌≡◌, ◌≤◌, ◌<◌, ◌+◌, ◌*◌, ◌^◌, ◌/◌, ◌%◌, ◌==◌, ◌⊎◌, inl, inr, Bool, true, false, IsTrue, List, refl}
use Rattle.std.proofs.Common.{sym, ◌∙◌, subst, arith, true≢false, pow_pos}
use Rattle.std.specs.Prelude.{◌↔◌}
use Rattle.std.proofs.Math.Nat.{add-div_right, div-eq_of_lt}
use Rattle.std.proofs.lemmas.Bool.{cases_lt}
use Rattle.std.proofs.lemmas.Bool.Decides.{nat_tests}
use Rattle.row_values.specs.Statements.{Statement, IsSoundQuery}
use Rattle.plan_trees.specs.declared.plans.Access.{Access}
use Rattle.plan_trees.specs.declared.plans.StepKind.{StepKind}
use Rattle.plan_trees.specs.declared.scale.TheConstants.{COST_SCALE}
use Rattle.plan_trees.specs.Lists.{IsAccessOf, IsStepInto}
use Rattle.plan_trees.specs.PlaceSets.{has, one}
use Rattle.plan_trees.specs.PlanSpace.{IsValidAccess}
use Rattle.plan_trees.specs.Statistics.{Statistics, IsSoundStats, IsSoundVector}
use Rattle.plan_trees.specs.Trees.{Base}
use Rattle.plan_trees.proofs.ValidPlans.{entering_new}
use Rattle.cost_model.specs.Costs.{access_unit, step_cost}
use Rattle.cost_model.specs.LeastCost.{Costs, Table, TakesPlace}
use Rattle.cost_model.proofs.CostBounds.{costs_fit}
use Rattle.cost_model.proofs.LowerBounds.{at_most_more}
use Rattle.plan_costs.specs.Least.{IsLeastStep}
use Rattle.plan_costs.proofs.Least.{no_dearer}
use Rattle.certificate_check.specs.Bounds.{TakesAccess, TakesOver}
use Rattle.certificate_check.proofs.Answering.{holds, retold}

-- Numbers.

pub access_below : (q : Statement) (s : Statistics) (vector : List ℕ) (access : Access) (unit : ℕ) → IsSoundQuery q
    → IsSoundStats q s → IsSoundVector q s vector → IsValidAccess q s.indexed access
    → unit ≡ access_unit q s vector access → COST_SCALE * unit < 2 ^ 124
access_below q s vector access unit query sound numbers valid e =
    rw e (((costs_fit q s vector query sound numbers).plans (Base access) valid).high)

-- Sets.

odd_next : (n : ℕ) → (n % 2 == 1) ≡ false → ((n + 1) % 2 == 1) ≡ true
odd_next n h = grind (arith, nat_tests)

even_next : (n : ℕ) → (n % 2 == 1) ≡ true → ((n + 1) % 2 == 1) ≡ false
even_next n h = grind (arith, nat_tests)

-- a set that gains a place has it
gained : (set place : ℕ) → has set place ≡ false → has (set + one place) place ≡ true
gained set place h =
    let e : (set + 2 ^ place) / 2 ^ place ≡ set / 2 ^ place + 1 = add-div_right set (pow_pos place) in
    rw e (odd_next (set / 2 ^ place) h)

alone : (place : ℕ) → has (one place) place ≡ true
alone place =
    let none : 0 / 2 ^ place ≡ 0 = div-eq_of_lt (pow_pos place) in
    let empty : has 0 place ≡ false = rw none refl in
    let same : 0 + one place ≡ one place = omega arith in
    subst (λ n. has n place ≡ true) same (gained 0 place empty)

lost_by : (b : Bool) (from place : ℕ) → has from place ≡ b → has (from + one place) place ≡ true
    → has from place ≡ false
lost_by false from place e h = e
lost_by true from place e h =
    let more : (from + 2 ^ place) / 2 ^ place ≡ from / 2 ^ place + 1 = add-div_right from (pow_pos place) in
    let none : has (from + one place) place ≡ false = rw more (even_next (from / 2 ^ place) e) in
    absurd (true≢false (sym h ∙ none))

-- a set that loses a place doesn't have it any more
pub lost : (from place set : ℕ) → from + one place ≡ set → has set place ≡ true → has from place ≡ false
lost from place set e h = lost_by (has from place) from place refl (subst (λ n. has n place ≡ true) (sym e) h)

within_by : (set place : ℕ) → has set place ≡ true → (set < 2 ^ place) ⊎ (2 ^ place ≤ set) → one place ≤ set
within_by set place h (inl less) =
    absurd (true≢false (sym h ∙ (let e : set / 2 ^ place ≡ 0 = div-eq_of_lt less in rw e refl)))
within_by set place h (inr more) = more

-- a place of a set can be taken from it
pub within : (set place : ℕ) → has set place ≡ true → one place ≤ set
within set place h = within_by set place h (cases_lt set (2 ^ place))

-- Accesses.

-- what a test of one access tells
pub taken_here : (q : Statement) (s : Statistics) (vector : List ℕ) (here : Access) (unit : ℕ) (costs : Costs) (r : Bool)
    → unit ≡ access_unit q s vector here → (IsTrue r ↔ TakesAccess q here (COST_SCALE * unit) costs) → r ≡ true
    → TakesAccess q here (COST_SCALE * access_unit q s vector here) costs
taken_here q s vector here unit costs r e h taken =
    subst (λ n. TakesAccess q here (COST_SCALE * n) costs) e (h.0 taken)

-- Steps.

-- the step that does least for each row stands for all
pub steps_told : (q : Statement) (s : Statistics) (vector : List ℕ) (from place cost : ℕ) (step : StepKind)
    (outer costs : Costs) (r : Bool) → IsLeastStep q s vector from place step → cost ≡ step_cost q s vector from step
    → (IsTrue r ↔ TakesOver outer cost costs)
    → IsTrue r ↔ ((other : StepKind) → IsStepInto q s.indexed from place other
    → TakesOver outer (step_cost q s vector from other) costs)
steps_told q s vector from place cost step outer costs r least e h =
    retold r h (λ taken other valid sorted below over.
    let dear = no_dearer q s vector from place step other least.valid.1 valid.1 (least.below_all other valid) in
    at_most_more (costs sorted) (below + cost) (below + step_cost q s vector from other) (taken sorted below over)
    (omega arith))
    (λ each. subst (λ n. TakesOver outer n costs) (sym e) (each step least.valid))

-- Places.

place_absent_by : (q : Statement) (s : Statistics) (vector : List ℕ) (table : Table) (set place : ℕ) (costs : Costs)
    → has set place ≡ false → TakesPlace q s vector table set place costs
place_absent_by q s vector table set place costs absent = record {
  access = λ sorted access valid at whole ordered.
      absurd (true≢false (sym (subst (λ n. has n place ≡ true) whole (alone place)) ∙ absent));
  step = λ sorted from cost step some whole valid enters below.
      let new : has from place ≡ false =
      subst (λ p. has from p ≡ false) enters (entering_new q s.indexed from step valid) in
      absurd (true≢false (sym (subst (λ n. has n place ≡ true) whole (gained from place new)) ∙ absent));
}

pub place_absent : (q : Statement) (s : Statistics) (vector : List ℕ) (table : Table) (set place : ℕ) (costs : Costs)
    → has set place ≡ false → IsTrue true ↔ TakesPlace q s vector table set place costs
place_absent q s vector table set place costs absent =
    holds (place_absent_by q s vector table set place costs absent)

pub place_alone : (q : Statement) (s : Statistics) (vector : List ℕ) (table : Table) (set place : ℕ) (costs : Costs)
    (r : Bool) → one place ≡ set
    → (IsTrue r ↔ ((access : Access) → IsAccessOf q s.indexed place access
    → TakesAccess q access (COST_SCALE * access_unit q s vector access) costs))
    → IsTrue r ↔ TakesPlace q s vector table set place costs
place_alone q s vector table set place costs r single h =
    retold r h (λ taken. record {
      access = λ sorted access valid at whole ordered. taken access (valid, at) sorted ordered;
      step = λ sorted from cost step some whole valid enters below. absurd (omega arith);
    })
    (λ t access valid sorted ordered. t.access sorted access valid.0 valid.1 single ordered)
