use Rattle.cost_model.proofs.CheckBounds.{cost_check_bound}
use Rattle.cost_model.proofs.laws.cost_check_bounds_cost.Goals as goal

pub returns : goal.returns
returns c = λ q s top instance anchor num den least_at_instance least_at_anchor reuse passes.
    cost_check_bound q s top instance anchor num den least_at_instance least_at_anchor reuse passes
