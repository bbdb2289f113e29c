use Rattle.cache_model.proofs.Tests.{cost_tells}
use Rattle.cache_model.proofs.laws.cost_test_tells.Goals as goal

pub returns : goal.returns
returns c = λ q s lambda instance plans anchor top there. cost_tells q s lambda instance plans anchor top there
