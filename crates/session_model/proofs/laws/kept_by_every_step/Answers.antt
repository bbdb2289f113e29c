use Rattle.session_model.proofs.Sessions.{kept}
use Rattle.session_model.proofs.laws.kept_by_every_step.Goals as goal

pub returns : goal.returns
returns c = kept
