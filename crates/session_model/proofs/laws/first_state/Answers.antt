use Rattle.session_model.proofs.Sessions.{first}
use Rattle.session_model.proofs.laws.first_state.Goals as goal

pub returns : goal.returns
returns c = first
