use Rattle.statement_meaning.proofs.Keeping.{once_permuted}
use Rattle.statement_meaning.proofs.laws.sort_keeps_each_once.Goals as goal

pub returns : goal.returns
returns c = once_permuted
