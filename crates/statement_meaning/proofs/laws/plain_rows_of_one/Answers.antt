use Rattle.statement_meaning.proofs.Plain as lemma
use Rattle.statement_meaning.proofs.laws.plain_rows_of_one.Goals as goal

pub returns : goal.returns
returns c = lemma.plain_rows_of_one
