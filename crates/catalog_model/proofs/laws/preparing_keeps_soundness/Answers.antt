use Rattle.catalog_model.proofs.Preparations.{prepared}
use Rattle.catalog_model.proofs.laws.preparing_keeps_soundness.Goals as goal

pub returns : goal.returns
returns c = prepared
