use Rattle.report_items.specs.Items.{items_of}
use Rattle.session_model.specs.Run.{spoken_lines}
use Rattle.report_verifier.specs.Walk.{first_walk}
use Rattle.report_verifier.proofs.OneOutcome.{verified_once}
use Rattle.report_verifier.proofs.SoundWalks.{first_sound}
use Rattle.report_verifier.proofs.laws.a_report_has_one_verification.Goals as goal

pub returns : goal.returns
returns c = λ lambda weights files script report one other ratio are h k.
    verified_once files (first_walk lambda weights (items_of report)) (spoken_lines script) one other
    (first_sound lambda weights (items_of report) ratio are) h k
