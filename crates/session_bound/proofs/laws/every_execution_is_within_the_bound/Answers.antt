use Rattle.session_bound.proofs.Bounded.{along_steps}
use Rattle.session_bound.proofs.laws.every_execution_is_within_the_bound.Goals as goal

pub returns : goal.returns
returns c = along_steps
