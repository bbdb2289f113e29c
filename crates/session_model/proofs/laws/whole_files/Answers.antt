use Rattle.session_model.proofs.WholeFiles.{whole}
use Rattle.session_model.proofs.laws.whole_files.Goals as goal

pub returns : goal.returns
returns c = whole
