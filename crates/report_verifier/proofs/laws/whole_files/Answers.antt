use Rattle.report_verifier.proofs.WholeFiles.{whole}
use Rattle.report_verifier.proofs.laws.whole_files.Goals as goal

pub returns : goal.returns
returns c = λ old line reading file outcome h. whole old line reading file outcome h
