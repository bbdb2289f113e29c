-- Verifying a report: the walk over a script's lines with the report's items, and what comes of it.
use Rattle.std.specs.Prelude.{ℕ, ◌≡◌, ◌⊎◌, List, Option, Result}
use Rattle.outside_model.specs.Causes.{Rose}
use Rattle.outside_model.specs.declared.TheConstants.{SCRIPT_LIMIT}
use Rattle.outside_model.specs.Files.{Files, Told}
use Rattle.outside_model.specs.Outside.{Outside}
use Rattle.report_items.specs.Items.{items_of}
use Rattle.report_items.specs.declared.TheConstants.{REPORT_LIMIT}
use Rattle.report_items.specs.declared.items.ReportItem.{ReportItem}
use Rattle.report_verifier.specs.Soundness.{AreMatched}
use Rattle.report_verifier.specs.Verification.{Taking, Verifies}
use Rattle.report_verifier.specs.Verifications.{verification_text}
use Rattle.report_verifier.specs.Walk.{Step, Walk, first_walk}
use Rattle.report_verifier.specs.declared.rejections.Rejection.{Rejection}
use Rattle.report_verifier.specs.declared.rejections.Verification.{Verification}
use Rattle.report_verifier.specs.declared.rejections.Verification.TheVariants.{Rejected, Verified}
use Rattle.report_verifier.specs.declared.rejections.Why.{Why}
use Rattle.script_report.specs.Commands.{Reading, reading_of}
use Rattle.session_model.specs.Run.{spoken_lines}
use Rattle.session_model.specs.Step.{asks_for, file_of}
use Rattle.session_model.specs.declared.settings.Settings.{Settings}
use Rattle.instance_cli.specs.Outsides.{Took, TookFirst, TookNothing}
use Rattle.instance_cli.specs.Report.{IsMissed}
use Rattle.instance_cli.specs.Texts.{EndsWithoutText, OfText}
use Rattle.instance_cli.specs.declared.outcome.Status.{Status}
use Rattle.instance_cli.specs.declared.outcome.Status.TheVariants as status

-- a line that says this is a step of the walk over a file or none, which is the one of the files where they are told,
-- and is missing only where misses rose
pub record TakesReading (files : Option Files) (misses misses' : ℕ) (old : Walk) (number : ℕ) (reading : Reading)
    (outcome : Result Walk Why) : Type 0 where
  pub file : Option (List ℕ)
  pub step : Step old number reading file outcome
  pub told : Told files (λ told. file ≡ file_of told reading)
  pub missed : IsMissed file (asks_for reading) misses misses'

abbrev pub TakesLine : Option Files → ℕ → ℕ → Taking
TakesLine files misses misses' old line outcome =
    TakesReading files misses misses' old line.number (reading_of line.text) outcome

-- the lines of a call, by the outside before and after it
abbrev pub TakesLines : Outside → Outside → Taking
TakesLines before after = TakesLine before.files before.misses after.misses

-- where the walk begins: no table, no statement, and the items of the report
abbrev pub walk_before : Settings → List ReportItem → Walk
walk_before settings items = first_walk settings.lambda settings.weights items

-- the walk over these items, along the lines of the script, ends with this
abbrev pub EndsWalk : Settings → List ℕ → List ReportItem → Outside → Outside → Verification → Type 0
EndsWalk settings script items before after verification =
    Verifies (TakesLines before after) (walk_before settings items) (spoken_lines script) verification

-- the walk accepts the report, and the line that says so was taken; each line that would be executed is matched by an
-- item, by a valid plan within the bound or by the word that it had too many rows, and no item is left over
pub record Accepts (settings : Settings) (script : List ℕ) (items : List ReportItem) (before after : Outside)
    : Type 0 where
  pub executions : ℕ
  pub too_large : ℕ
  pub ends : EndsWalk settings script items before after (Verified executions too_large)
  pub matched : AreMatched (TakesLines before after) (walk_before settings items) (spoken_lines script)
  pub took : Took before after (verification_text (Verified executions too_large))

-- the walk turns the report down, and the line that says where and why was taken
pub record TurnsDown (settings : Settings) (script : List ℕ) (items : List ReportItem) (before after : Outside)
    : Type 0 where
  pub rejection : Rejection
  pub ends : EndsWalk settings script items before after (Rejected rejection)
  pub took : Took before after (verification_text (Rejected rejection))

-- the first bytes of the line were taken that says what the walk ends with
pub record TellsInPart (settings : Settings) (script : List ℕ) (items : List ReportItem) (before after : Outside)
    : Type 0 where
  pub verification : Verification
  pub ends : EndsWalk settings script items before after verification
  pub took : TookFirst before after (verification_text verification)

-- what a job may end with that has both texts
abbrev pub IsOfWalk : Status → Type 0
IsOfWalk status.Done = Unit {0}
IsOfWalk status.Rejected = Unit {0}
IsOfWalk status.ReadFault = Unit {0}
IsOfWalk status.WriteFault = Unit {0}
IsOfWalk status.Memory = Unit {0}
IsOfWalk other = ⊥

-- the report of these items is verified as one of a run of this script
pub record VerifiesItems (settings : Settings) (script : List ℕ) (items : List ReportItem) (before after : Outside)
    (result : Status) : Type 0 where
  pub one_of : IsOfWalk result
  -- with status 0 the report is accepted, with status 9 it is turned down
  pub done : result ≡ status.Done → Accepts settings script items before after
  pub rejected : result ≡ status.Rejected → TurnsDown settings script items before after
  -- with status 4 the shelf failed, and nothing was taken
  pub read_fault : result ≡ status.ReadFault → Rose before.faults after.faults × TookNothing before after
  -- with status 5 the sink failed, and the first bytes of the line were taken
  pub write_fault : result ≡ status.WriteFault → Rose before.sink_faults after.sink_faults
      × TellsInPart settings script items before after
  -- with status 6 nothing was
  pub memory : result ≡ status.Memory → TookNothing before after

-- a script of this text was read: the report isn't, or is verified
abbrev pub VerifiesReport : Settings → List ℕ → List ℕ → Outside → Outside → Status → Type 0
VerifiesReport settings script report before after result =
    EndsWithoutText REPORT_LIMIT report before after result
    ⊎ OfText REPORT_LIMIT report before.files
    (λ text. VerifiesItems settings script (items_of text) before after result)

-- the report of this name is verified as one of a run of the script of that name
abbrev pub VerifyPromise : Settings → List ℕ → List ℕ → Outside → Outside → Status → Type 0
VerifyPromise settings script report before after result =
    EndsWithoutText SCRIPT_LIMIT script before after result
    ⊎ OfText SCRIPT_LIMIT script before.files (λ text. VerifiesReport settings text report before after result)
