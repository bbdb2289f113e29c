use Rattle.cache_model.proofs.Reusing.{faithful_reused}
use Rattle.cache_model.proofs.laws.reuse_keeps_faithful.Goals as goal

pub returns : goal.returns
returns c = λ cache q s executions budget position h. faithful_reused cache q s executions budget position h
