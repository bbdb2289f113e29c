-- What a step does for each row so far.
use Rattle.std.specs.Prelude.{ℕ, List}
use Rattle.row_values.specs.Statements.{Statement}
use Rattle.plan_trees.specs.declared.plans.StepKind.{StepKind}
use Rattle.plan_trees.specs.declared.plans.StepKind.TheVariants.{Loop, Probe}
use Rattle.plan_trees.specs.Statistics.{Statistics}
use Rattle.cost_model.specs.Costs.{access_unit, edge_fan, look_up_cost}

-- a run of its access, or a look-up
abbrev pub unit_of_step : Statement → Statistics → List ℕ → StepKind → ℕ
unit_of_step q s vector (Loop access) = access_unit q s vector access
unit_of_step q s vector (Probe place edge) = look_up_cost s place (edge_fan q s place edge)
