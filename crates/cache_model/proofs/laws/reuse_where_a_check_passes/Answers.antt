use Rattle.cache_model.proofs.FirstPassing.{choice_is}
use Rattle.cache_model.proofs.laws.reuse_where_a_check_passes.Goals as goal

pub returns : goal.returns
returns c = λ cache q s instance lambda recosts. choice_is cache q s instance lambda recosts
