use Rattle.statement_meaning.proofs.Entering.{joined_rows_once}
use Rattle.statement_meaning.proofs.laws.join_by_place_gives_each_once.Goals as goal

pub returns : goal.returns
returns c = λ world left place offered cs s i out o h. joined_rows_once world s left place out i offered cs h o
