-- The cost of a valid plan fits, and so do the sums on the way to it.
use Rattle.std.proofs.Common.{ℕ, ◌≡◌, ◌≤◌, ◌<◌, ◌+◌, ◌*◌, ◌^◌, IsTrue, List, length, sym, subst₂, arith}
use Rattle.row_values.specs.Statements.{Statement, IsSoundQuery}
use Rattle.plan_trees.specs.declared.plans.StepKind.{StepKind}
use Rattle.plan_trees.specs.PlaceSets.{are_apart}
use Rattle.plan_trees.specs.PlanSpace.{IsValidPlan, IsValidStep}
use Rattle.plan_trees.specs.Statistics.{Statistics, IsSoundStats, IsSoundVector}
use Rattle.plan_trees.specs.Trees.{Tree, Join, HashJoin, Sort, places_of}
use Rattle.cost_model.specs.Cardinalities.{card_of}
use Rattle.cost_model.specs.Costs.{join_cost, plan_cost, sort_cost, step_cost}
use Rattle.cost_model.specs.LeastCost.{IsPlaceSet}
use Rattle.cost_model.proofs.CostBounds.{costs_fit, weighed_below_limit}
use Rattle.cost_model.proofs.Sets.{set_of_plan}
use Rattle.cost_model.proofs.SoundNumbers.{are_sized}

-- what a step over it asks for
pub record TakesStep (q : Statement) (s : Statistics) (vector : List ℕ) (step : StepKind) (cost places : ℕ) : Type 0
  where
    pub there : places < 2 ^ length q.places
    pub valid : IsValidStep q s.indexed places step
    pub fits : cost + step_cost q s vector places step < 2 ^ 128

pub takes_step : (q : Statement) (s : Statistics) (vector : List ℕ) (outer : Tree) (step : StepKind) (cost places : ℕ)
    → IsSoundQuery q → IsSoundStats q s → IsSoundVector q s vector → IsValidPlan q s.indexed (Join outer step)
    → places ≡ places_of outer → cost ≡ plan_cost q s vector outer → TakesStep q s vector step cost places
takes_step q s vector outer step cost places query sound numbers valid e f =
    let fits = ((costs_fit q s vector query sound numbers).plans (Join outer step) valid).high in
    let here : TakesStep q s vector step (plan_cost q s vector outer) (places_of outer) = record {
      there = (set_of_plan q s.indexed outer valid.0).there;
      valid = valid.1;
      fits = omega arith;
    } in
    subst₂ (λ c p. TakesStep q s vector step c p) (sym f) (sym e) here

-- what a hash join of two asks for
pub record TakesJoin (q : Statement) (s : Statistics) (vector : List ℕ) (left right first second : ℕ) : Type 0 where
  pub outer : IsPlaceSet q left
  pub inner : IsPlaceSet q right
  pub apart : IsTrue (are_apart left right)
  pub fits : first + second + join_cost q s vector left right < 2 ^ 128

pub takes_join : (q : Statement) (s : Statistics) (vector : List ℕ) (outer inner : Tree)
    (edge left right first second : ℕ) → IsSoundQuery q → IsSoundStats q s → IsSoundVector q s vector
    → IsValidPlan q s.indexed (HashJoin outer inner edge) → left ≡ places_of outer → right ≡ places_of inner
    → first ≡ plan_cost q s vector outer → second ≡ plan_cost q s vector inner
    → TakesJoin q s vector left right first second
takes_join q s vector outer inner edge left right first second query sound numbers valid e f g h =
    let fits = ((costs_fit q s vector query sound numbers).plans (HashJoin outer inner edge) valid).high in
    let here : TakesJoin q s vector (places_of outer) (places_of inner) (plan_cost q s vector outer)
    (plan_cost q s vector inner) = record {
      outer = set_of_plan q s.indexed outer valid.0;
      inner = set_of_plan q s.indexed inner valid.1;
      apart = valid.2.0;
      fits = omega arith;
    } in
    subst₂ (λ l r. TakesJoin q s vector l r first second) (sym e) (sym f)
    (subst₂ (λ m n. TakesJoin q s vector (places_of outer) (places_of inner) m n) (sym g) (sym h) here)

pub sort_fits : (q : Statement) (s : Statistics) (vector : List ℕ) (outer : Tree) (cost places : ℕ) → IsSoundQuery q
    → IsSoundStats q s → IsSoundVector q s vector → IsValidPlan q s.indexed (Sort outer) → places ≡ places_of outer
    → cost ≡ plan_cost q s vector outer → cost + sort_cost q s vector places < 2 ^ 128
sort_fits q s vector outer cost places query sound numbers valid e f =
    let fits = ((costs_fit q s vector query sound numbers).plans (Sort outer) valid).high in
    let here : plan_cost q s vector outer + sort_cost q s vector (places_of outer) < 2 ^ 128 = omega arith in
    rw (f, e) here

pub plan_there : (q : Statement) (indexed : List ℕ) (plan : Tree) (places : ℕ) → IsValidPlan q indexed plan
    → places ≡ places_of plan → places < 2 ^ length q.places
plan_there q indexed plan places valid e = rw e (set_of_plan q indexed plan valid).there

pub grouped_fits : (q : Statement) (s : Statistics) (vector : List ℕ) (plan : Tree) (weight cost card places : ℕ)
    → IsSoundQuery q → IsSoundStats q s → IsSoundVector q s vector → IsValidPlan q s.indexed plan → weight ≤ 1000
    → cost ≡ plan_cost q s vector plan → card ≡ card_of q s vector places
    → (weight * card < 2 ^ 128) × (cost + weight * card < 2 ^ 128)
grouped_fits q s vector plan weight cost card places query sound numbers valid light e f =
    let fits = ((costs_fit q s vector query sound numbers).plans plan valid).high in
    let few : weight * card < 2 ^ 124 =
    rw f (weighed_below_limit q s vector places weight (are_sized q s vector query sound numbers) light) in
    (omega arith, omega arith)
