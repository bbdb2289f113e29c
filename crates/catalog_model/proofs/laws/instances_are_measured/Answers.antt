use Rattle.catalog_model.proofs.Measures.{measured}
use Rattle.catalog_model.proofs.laws.instances_are_measured.Goals as goal

pub returns : goal.returns
returns c = measured
