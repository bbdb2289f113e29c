use Rattle.cost_model.proofs.LeastExists.{least_exists}
use Rattle.cost_model.proofs.laws.a_least_cost_exists.Goals as goal

pub returns : goal.returns
returns c = λ q s vector sound. least_exists q s vector sound
