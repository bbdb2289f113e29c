-- Completeness: where all that a job names is there and nothing fails, the job is done. And what a run wrote is accepted.
use Rattle.std.specs.Prelude.{ℕ, ◌≡◌, ◌≤◌, ◌⊎◌, List, [], ◌∷◌, length, Option, Some, None}
use Rattle.command_words.specs.Jobs.{AreInBounds, Demo, Job, Mode, Options, Run, Verify}
use Rattle.outside_model.specs.Causes.{Rose}
use Rattle.outside_model.specs.declared.TheConstants.{SCRIPT_LIMIT}
use Rattle.outside_model.specs.Files.{Files}
use Rattle.outside_model.specs.Outside.{Outside}
use Rattle.plan_trees.specs.declared.statistics.Weights.{Weights}
use Rattle.weights_file.specs.Files.{weights_of}
use Rattle.weights_file.specs.declared.TheConstants.{WEIGHTS_LIMIT}
use Rattle.report_items.specs.declared.TheConstants.{REPORT_LIMIT}
use Rattle.script_report.specs.Commands.{reading_of}
use Rattle.session_model.specs.Run.{Line, spoken_lines}
use Rattle.session_model.specs.Step.{file_of}
use Rattle.instance_cli.specs.Jobs.{TopPromise}
use Rattle.instance_cli.specs.Texts.{IsText, unmarked}
use Rattle.instance_cli.specs.declared.outcome.Status.{Status}
use Rattle.instance_cli.specs.declared.outcome.Status.TheVariants as status

-- a file of this name says weights, within its limit, where one is named
abbrev pub AreThere : Option (List ℕ) → Files → Type 0
AreThere None files = Unit {0}
AreThere (Some name) files = (bytes : List ℕ) × (weights : Weights) × (files name ≡ Some bytes)
    × (length bytes ≤ WEIGHTS_LIMIT) × (weights_of bytes ≡ Some weights)

-- what the mode needs: the script, and the report that is verified, each within its limit and a text
abbrev pub IsThere : Mode → Files → Type 0
IsThere (Run script) files = (bytes : List ℕ) × (files script ≡ Some bytes) × IsText SCRIPT_LIMIT bytes
IsThere (Demo runs) files = Unit {0}
IsThere (Verify script report) files =
    ((bytes : List ℕ) × (files script ≡ Some bytes) × IsText SCRIPT_LIMIT bytes)
    × ((bytes : List ℕ) × (files report ≡ Some bytes) × IsText REPORT_LIMIT bytes)

-- neither the shelf nor the sink failed
pub record NothingFails (before after : Outside) : Type 0 where
  pub reads : ¬ Rose before.faults after.faults
  pub writes : ¬ Rose before.sink_faults after.sink_faults

-- the whole script was run, or memory was short
abbrev pub IsWholeRun : Status → Type 0
IsWholeRun status.Done = Unit {0}
IsWholeRun status.DoneRefused = Unit {0}
IsWholeRun status.Memory = Unit {0}
IsWholeRun other = ⊥

-- the report was accepted or turned down, or memory was short
abbrev pub IsWholeVerification : Status → Type 0
IsWholeVerification status.Done = Unit {0}
IsWholeVerification status.Rejected = Unit {0}
IsWholeVerification status.Memory = Unit {0}
IsWholeVerification other = ⊥

-- the whole summary was written, or memory was short
abbrev pub IsWholeDemo : Status → Type 0
IsWholeDemo status.Done = Unit {0}
IsWholeDemo status.Memory = Unit {0}
IsWholeDemo other = ⊥

-- the whole job was done, or memory was short
abbrev pub IsComplete : Mode → Status → Type 0
IsComplete (Run script) result = IsWholeRun result
IsComplete (Demo runs) result = IsWholeDemo result
IsComplete (Verify script report) result = IsWholeVerification result

-- Where the files are told, weights, script and report are there and nothing fails, a job is done whole or ends with 6.
abbrev pub CompletenessLaw : Type 0
CompletenessLaw =
    (job : Job) (files : Files) (before after : Outside) (result : Status) → before.files ≡ Some files
    → AreThere job.options.weights files → IsThere job.mode files → NothingFails before after
    → TopPromise (Some job) before after result → IsComplete job.mode result

-- What a run wrote.

-- a run of this script with these options, over these files, ended with 0 or 1, and the sink took this and nothing else
pub record IsReportOf (options : Options) (script : List ℕ) (files : Files) (written : List ℕ) : Type 0 where
  pub before : Outside
  pub after : Outside
  pub result : Status
  pub promise : TopPromise (Some (record { mode = Run script; options = options })) before after result
  pub whole : (result ≡ status.Done) ⊎ (result ≡ status.DoneRefused)
  pub told : before.files ≡ Some files
  pub empty : before.taken ≡ Some []
  pub took : after.taken ≡ Some written

-- each of these lines gets the file later that it got before
abbrev pub GetAlike : Files → Files → List Line → Type 0
GetAlike files later [] = Unit {0}
GetAlike files later (line ∷ lines) =
    (file_of later (reading_of line.text) ≡ file_of files (reading_of line.text)) × GetAlike files later lines

-- what was read is later as it was: the weights, the script, and the files that its lines ask for
pub record AreAlike (weights : Option (List ℕ)) (script : List ℕ) (files later : Files) : Type 0 where
  pub weighed : (name : List ℕ) → weights ≡ Some name → later name ≡ files name
  pub text : later script ≡ files script
  pub loads : (bytes : List ℕ) → files script ≡ Some bytes → GetAlike files later (spoken_lines (unmarked bytes))

-- What a run wrote is accepted: where its report lies under a name, within its limit, beside what was read by the run,
-- and nothing fails, a verification with the same lambda and weights ends with 0, or with 6.
abbrev pub AcceptedLaw : Type 0
AcceptedLaw =
    (options others : Options) (script report : List ℕ) (files later : Files) (written : List ℕ)
    (before after : Outside) (result : Status)
    → AreInBounds options → others.lambda ≡ options.lambda → others.weights ≡ options.weights
    → IsReportOf options script files written → AreAlike options.weights script files later
    → later report ≡ Some written → length written ≤ REPORT_LIMIT
    → before.files ≡ Some later → NothingFails before after
    → TopPromise (Some (record { mode = Verify script report; options = others })) before after result
    → (result ≡ status.Done) ⊎ (result ≡ status.Memory)
