use Rattle.cache_model.proofs.Sizes.{vectors_fit}
use Rattle.cache_model.proofs.laws.vectors_fit.Goals as goal

pub returns : goal.returns
returns c = λ q s instance anchor sound stats h k. vectors_fit q s instance anchor sound stats h k
