use Rattle.catalog_model.proofs.Cuts.{cut_load}
use Rattle.catalog_model.proofs.laws.cut_files_are_refused_alike.Goals as goal

pub returns : goal.returns
returns c = cut_load
