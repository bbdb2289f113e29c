use Rattle.std.proofs.Common.{Result}
use Rattle.script_report.specs.Commands.{reading_of}
use Rattle.session_model.specs.Run.{Line}
use Rattle.session_model.specs.Step.{file_of}
use Rattle.report_verifier.specs.Laws.{VerifiedAreMatched}
use Rattle.report_verifier.specs.Verification.{StepOfLine, StepOver, Taking}
use Rattle.report_verifier.specs.Walk.{Walk, first_walk}
use Rattle.report_verifier.specs.declared.rejections.Why.{Why}
use Rattle.report_verifier.proofs.SoundWalks.{all_matched, first_sound}
use Rattle.report_verifier.proofs.laws.verified_reports_are_within_the_bound.Goals as goal

-- whatever relation takes the lines, as long as each taken line is a step
over_steps : (Takes : Taking)
    → ((old : Walk) (line : Line) (outcome : Result Walk Why) → Takes old line outcome → StepOfLine old line outcome)
    → VerifiedAreMatched Takes
over_steps Takes is_step lambda weights items lines executions too_large ratio are verified =
    all_matched Takes is_step (first_walk lambda weights items) lines executions too_large
    (first_sound lambda weights items ratio are) verified

pub returns : goal.returns
returns c = (
  over_steps StepOfLine (λ old line outcome step. step),
  λ files. over_steps (StepOver files) (λ old line outcome step. (file_of files (reading_of line.text), step)),
)
