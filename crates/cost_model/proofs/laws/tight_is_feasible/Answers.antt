use Rattle.cost_model.proofs.LowerBounds.{feasible_if_tight}
use Rattle.cost_model.proofs.laws.tight_is_feasible.Goals as goal

pub returns : goal.returns
returns c = λ q s vector table least tight. feasible_if_tight q s vector table least tight
