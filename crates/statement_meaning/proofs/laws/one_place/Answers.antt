use Rattle.statement_meaning.proofs.OnePlace as lemma
use Rattle.statement_meaning.proofs.laws.one_place.Goals as goal

pub returns : goal.returns
returns c = lemma.one_place
