-- The verification of a report: the walk over all lines of its script.
use Rattle.std.specs.Prelude.{ℕ, ◌≡◌, List, [], ◌∷◌, Option, Result, Ok, Err}
use Rattle.fraction_math.specs.Fraction.{Fraction}
use Rattle.outside_model.specs.Files.{Files}
use Rattle.plan_trees.specs.declared.statistics.Weights.{Weights}
use Rattle.script_report.specs.Commands.{reading_of}
use Rattle.report_items.specs.Items.{items_of}
use Rattle.report_items.specs.declared.items.ReportItem.{ReportItem}
use Rattle.session_model.specs.Run.{Line, spoken_lines}
use Rattle.session_model.specs.Step.{file_of}
use Rattle.report_verifier.specs.declared.rejections.Verification.{Verification}
use Rattle.report_verifier.specs.declared.rejections.Verification.TheVariants.{Verified, Rejected}
use Rattle.report_verifier.specs.declared.rejections.Why.{Why}
use Rattle.report_verifier.specs.declared.rejections.Why.TheVariants as why
use Rattle.report_verifier.specs.Walk.{Step, Walk, first_walk}

-- where the lines are done no item may be left
abbrev pub ended : Walk → List ReportItem → Verification
ended walk [] = Verified walk.executions walk.too_large
ended walk (item ∷ items) = Rejected (record { line = 0; why = why.Block })

abbrev pub at_end : Walk → Verification
at_end walk = ended walk walk.items

-- what the line of a script may make of a walk
abbrev pub Taking : Type 1
Taking = Walk → Line → Result Walk Why → Type 0

-- the step of a line over these files
abbrev pub StepOver : Files → Taking
StepOver files old line outcome =
    Step old line.number (reading_of line.text) (file_of files (reading_of line.text)) outcome

-- the step of a line, over whatever file
abbrev pub StepOfLine : Taking
StepOfLine old line outcome = (file : Option (List ℕ)) × Step old line.number (reading_of line.text) file outcome

-- the walk goes on with this, or the report is turned down at a line
abbrev pub GoesOn : ℕ → Result Walk Why → (Walk → Type 0) → Verification → Type 0
GoesOn line (Ok next) Later result = Later next
GoesOn line (Err why) Later result = result ≡ Rejected (record { line = line; why = why })

-- the walk over these lines, from where it is, each line taken by this relation
abbrev pub Verifies : Taking → Walk → List Line → Verification → Type 0
Verifies Takes old [] result = result ≡ at_end old
Verifies Takes old (line ∷ lines) result =
    (outcome : Result Walk Why) × Takes old line outcome
    × GoesOn line.number outcome (λ next. Verifies Takes next lines result) result

-- the verification of this report, as one of a run over the script and the files
abbrev pub IsVerification : Fraction → Weights → Files → List ℕ → List ℕ → Verification → Type 0
IsVerification lambda weights files script report result =
    Verifies (StepOver files) (first_walk lambda weights (items_of report)) (spoken_lines script) result

-- these lines lead from one state of the walk to another
abbrev pub Walks : Taking → Walk → List Line → Walk → Type 0
Walks Takes old [] new = new ≡ old
Walks Takes old (line ∷ lines) new = (middle : Walk) × Takes old line (Ok middle) × Walks Takes middle lines new
