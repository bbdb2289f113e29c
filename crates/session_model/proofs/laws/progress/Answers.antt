use Rattle.session_model.proofs.Progress.{goes_on}
use Rattle.session_model.proofs.laws.progress.Goals as goal

pub returns : goal.returns
returns c = goes_on
