use Rattle.instance_cli.proofs.AcceptedReports.{accepted}
use Rattle.instance_cli.proofs.laws.what_a_run_wrote_is_accepted.Goals as goal

pub returns : goal.returns
returns c = accepted c.what_a_run_wrote_is_accepted.ensures
