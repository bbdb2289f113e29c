use Rattle.cache_model.proofs.Saving.{next_kept}
use Rattle.cache_model.proofs.laws.plan_numbers_go_on.Goals as goal

pub returns : goal.returns
returns c = λ cache q s optimum keep budget. next_kept cache q s optimum keep budget
