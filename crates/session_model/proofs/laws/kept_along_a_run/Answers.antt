use Rattle.session_model.proofs.Sessions.{kept_along}
use Rattle.session_model.proofs.laws.kept_along_a_run.Goals as goal

pub returns : goal.returns
returns c = kept_along
