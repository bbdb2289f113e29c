use Rattle.cost_model.proofs.TightExists.{tight_exists}
use Rattle.cost_model.proofs.laws.a_tight_table_exists.Goals as goal

pub returns : goal.returns
returns c = λ q s vector sound. tight_exists q s vector sound
