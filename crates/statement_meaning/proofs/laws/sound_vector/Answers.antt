use Rattle.statement_meaning.proofs.Counts.{length-selectivities, positive_selectivities}
use Rattle.statement_meaning.proofs.laws.sound_vector.Goals as goal

pub returns-clause-counted : goal.returns-clause-counted
returns-clause-counted c = λ q tables args. length-selectivities tables args q.preds

pub returns-clause-positive : goal.returns-clause-positive
returns-clause-positive c = λ q tables args. positive_selectivities tables args q.preds
