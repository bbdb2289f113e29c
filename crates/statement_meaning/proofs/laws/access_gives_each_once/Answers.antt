use Rattle.statement_meaning.proofs.Entering.{rows_once}
use Rattle.statement_meaning.proofs.laws.access_gives_each_once.Goals as goal

pub returns : goal.returns
returns c = λ world place rows s i o. rows_once world s place i rows o
