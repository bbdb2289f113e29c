use Rattle.catalog_model.proofs.Loads.{loaded}
use Rattle.catalog_model.proofs.laws.loading_keeps_soundness.Goals as goal

pub returns : goal.returns
returns c = loaded
