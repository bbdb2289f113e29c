use Rattle.std.proofs.Common.{ℕ, ◌≤◌, ◌<◌}
use Rattle.plan_trees.specs.Lists.{IsStepInto}
use Rattle.plan_trees.specs.declared.plans.StepKind.TheVariants.{Probe}
use Rattle.plan_costs.specs.Units.{unit_of_step}
use Rattle.plan_costs.specs.Least.{IsPricedStep}
use Rattle.plan_costs.proofs.cheapest_steps.least_step.Given as goal

-- neither the loop nor a look-up so far does less
abbrev pub invariant-loop-edge : goal.invariant-loop-edge
invariant-loop-edge l =
    IsPricedStep l.q l.stats l.s l.from l.place l.best
    × (l.best.unit ≤ l.fn.least.unit)
    × ((edge : ℕ) → edge < l.edge → IsStepInto l.q l.stats.indexed l.from l.place (Probe l.place edge)
    → l.best.unit ≤ unit_of_step l.q l.stats l.s (Probe l.place edge))
