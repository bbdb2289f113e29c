use Rattle.cost_model.proofs.LowerBounds.{below_every_top}
use Rattle.cost_model.proofs.laws.feasible_is_below_every_plan.Goals as goal

pub returns : goal.returns
returns c = λ q s vector table least top feasible fits valid. below_every_top q s vector table least top feasible fits
    valid
