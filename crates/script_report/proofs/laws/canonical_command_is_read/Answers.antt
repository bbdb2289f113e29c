use Rattle.script_report.proofs.CanonicalCommands.{command_read}
use Rattle.script_report.proofs.laws.canonical_command_is_read.Goals as goal

pub returns : goal.returns
returns c = command_read
