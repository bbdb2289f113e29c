use Rattle.instance_cli.proofs.Complete.{complete}
use Rattle.instance_cli.proofs.laws.what_is_there_is_done.Goals as goal

pub returns : goal.returns
returns c = complete
