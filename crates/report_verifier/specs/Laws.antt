-- The laws of the verification of a report, each a statement that a function of `laws` carries.
use Rattle.std.specs.Prelude.{ℕ, ◌≡◌, ◌≤◌, List, Option, Result}
use Rattle.std.specs.Option.{option_map}
use Rattle.fraction_math.specs.Fraction.{Fraction}
use Rattle.outside_model.specs.Files.{Files, up_to}
use Rattle.outside_model.specs.declared.TheConstants.{FILE_LIMIT}
use Rattle.plan_trees.specs.Statistics.{AreWeights}
use Rattle.plan_trees.specs.declared.statistics.Weights.{Weights}
use Rattle.script_report.specs.Commands.{Reading}
use Rattle.report_items.specs.declared.items.ReportItem.{ReportItem}
use Rattle.session_model.specs.Run.{Line}
use Rattle.report_verifier.specs.Soundness.{AreMatched}
use Rattle.report_verifier.specs.Verification.{IsVerification, StepOfLine, StepOver, Taking, Verifies}
use Rattle.report_verifier.specs.Walk.{Step, Walk, first_walk}
use Rattle.report_verifier.specs.declared.rejections.Verification.{Verification}
use Rattle.report_verifier.specs.declared.rejections.Verification.TheVariants.{Verified}
use Rattle.report_verifier.specs.declared.rejections.Why.{Why}

-- where the walk over these lines ends as verified, each execution that the items tell is within the bound
abbrev pub VerifiedAreMatched : Taking → Type 0
VerifiedAreMatched Takes =
    (lambda : Fraction) (weights : Weights) (items : List ReportItem) (lines : List Line) (executions too_large : ℕ)
    → lambda.den ≤ lambda.num → AreWeights weights
    → Verifies Takes (first_walk lambda weights items) lines (Verified executions too_large)
    → AreMatched Takes (first_walk lambda weights items) lines

-- so where a report is verified, whoever wrote it: over whatever file each line gets, and over these files
abbrev pub SoundnessLaw : Type 0
SoundnessLaw = VerifiedAreMatched StepOfLine × ((files : Files) → VerifiedAreMatched (StepOver files))

-- a report has one verification
abbrev pub OneVerificationLaw : Type 0
OneVerificationLaw =
    (lambda : Fraction) (weights : Weights) (files : Files) (script report : List ℕ) (one other : Verification)
    → lambda.den ≤ lambda.num → AreWeights weights → IsVerification lambda weights files script report one
    → IsVerification lambda weights files script report other → one ≡ other

-- a file that was cut behind its limit makes the step of the whole one
abbrev pub WholeFileLaw : Type 0
WholeFileLaw =
    (old : Walk) (line : ℕ) (reading : Reading) (file : Option (List ℕ)) (outcome : Result Walk Why)
    → Step old line reading (option_map (up_to FILE_LIMIT) file) outcome → Step old line reading file outcome
