use Rattle.statement_meaning.proofs.Plain as lemma
use Rattle.statement_meaning.proofs.laws.plain_meaning.Goals as goal

pub returns : goal.returns
returns c = lemma.plain_meaning
