use Rattle.cost_model.proofs.Growth.{top_grows_within}
use Rattle.cost_model.proofs.laws.cost_grows_within_selectivities.Goals as goal

pub returns : goal.returns
returns c = λ q s top instance anchor valid one_each same. top_grows_within q s top instance anchor valid one_each same
