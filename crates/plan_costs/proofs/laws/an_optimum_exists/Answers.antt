use Rattle.plan_costs.proofs.Optima.{optimum_exists}
use Rattle.plan_costs.proofs.laws.an_optimum_exists.Goals as goal

pub returns : goal.returns
returns c = λ q s vector sound. optimum_exists q s vector sound
