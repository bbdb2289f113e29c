use Rattle.statement_meaning.proofs.Joining.{joined_once}
use Rattle.statement_meaning.proofs.laws.join_gives_each_once.Goals as goal

pub returns : goal.returns
returns c = λ world left right offered cs a o h. joined_once world left right a offered cs h o
