use Rattle.std.proofs.Common.{refl}
use Rattle.instance_cli.proofs.Jobs.{short_of_memory}
use Rattle.instance_cli.proofs.job.scr.Goals as goal

pub returns-in-Err : goal.returns-in-Err
returns-in-Err g c = short_of_memory _ _ _ refl
