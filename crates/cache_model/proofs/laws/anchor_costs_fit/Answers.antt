use Rattle.cost_model.proofs.CostBounds.{costs_fit}
use Rattle.cache_model.proofs.Sizes.{anchor_fits}
use Rattle.cache_model.proofs.laws.anchor_costs_fit.Goals as goal

pub returns : goal.returns
returns c = λ cache q s executions budget sound stats h k d inside.
    anchor_fits (λ q s vector sound stats numbers. costs_fit q s vector sound stats numbers) cache q s executions budget
    sound stats h _ (h.anchors k d inside)
