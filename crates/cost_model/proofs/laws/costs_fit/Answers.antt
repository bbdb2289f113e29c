use Rattle.cost_model.proofs.CostBounds.{costs_fit}
use Rattle.cost_model.proofs.laws.costs_fit.Goals as goal

pub returns : goal.returns
returns c = λ q s vector sound stats numbers. costs_fit q s vector sound stats numbers
