use Rattle.cache_model.proofs.Tests.{selectivity_tells}
use Rattle.cache_model.proofs.laws.selectivity_test_tells.Goals as goal

pub returns : goal.returns
returns c = λ lambda instance anchor. selectivity_tells lambda instance anchor
