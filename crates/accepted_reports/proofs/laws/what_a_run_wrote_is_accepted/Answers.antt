use Rattle.accepted_reports.proofs.WholeRuns.{written_accepted}
use Rattle.accepted_reports.proofs.laws.what_a_run_wrote_is_accepted.Goals as goal

pub returns : goal.returns
returns c = written_accepted c.the_items_of_a_run.ensures
