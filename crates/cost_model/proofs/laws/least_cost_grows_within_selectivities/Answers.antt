use Rattle.cost_model.proofs.LeastGrowth.{least_grows_within}
use Rattle.cost_model.proofs.laws.least_cost_grows_within_selectivities.Goals as goal

pub returns : goal.returns
returns c = λ q s instance anchor a b e f h k. least_grows_within q s instance anchor a b e f h k
