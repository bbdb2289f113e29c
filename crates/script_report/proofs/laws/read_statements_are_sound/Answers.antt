use Rattle.script_report.proofs.ReadStatements.{statements_sound}
use Rattle.script_report.proofs.laws.read_statements_are_sound.Goals as goal

pub returns : goal.returns
returns c = statements_sound
