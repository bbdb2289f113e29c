use Rattle.cache_model.proofs.Evicting.{faithful_without}
use Rattle.cache_model.proofs.laws.evict_keeps_faithful.Goals as goal

pub returns : goal.returns
returns c = λ cache q s executions budget number h. faithful_without cache q s executions budget number h
