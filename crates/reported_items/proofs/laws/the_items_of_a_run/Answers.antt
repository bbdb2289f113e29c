use Rattle.reported_items.proofs.PlainRuns.{run_items_read}
use Rattle.reported_items.proofs.laws.the_items_of_a_run.Goals as goal

pub returns : goal.returns
returns c = run_items_read
