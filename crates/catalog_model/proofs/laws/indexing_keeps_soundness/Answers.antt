use Rattle.catalog_model.proofs.Indexings.{indexed}
use Rattle.catalog_model.proofs.laws.indexing_keeps_soundness.Goals as goal

pub returns : goal.returns
returns c = indexed
