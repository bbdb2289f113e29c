-- What a job promises: its settings, its weights, and what it does with them.
use Rattle.std.specs.Prelude.{ℕ, ◌≡◌, ◌≤◌, ◌<◌, ◌⊎◌, List, length, Option, Some, None}
use Rattle.command_words.specs.Jobs.{Demo, Job, Mode, Options, Run, Verify}
use Rattle.demo_run.specs.Demo.{TellsDemo}
use Rattle.outside_model.specs.Causes.{Rose}
use Rattle.outside_model.specs.Files.{Files, Told}
use Rattle.outside_model.specs.Outside.{Outside}
use Rattle.plan_trees.specs.declared.statistics.Weights.{Weights}
use Rattle.session_model.specs.declared.settings.Settings.{Settings}
use Rattle.weights_file.specs.Files.{default_weights, weights_of}
use Rattle.weights_file.specs.declared.TheConstants.{WEIGHTS_LIMIT}
use Rattle.instance_cli.specs.Headline.{Headline}
use Rattle.instance_cli.specs.Outsides.{Took, TookFirst, TookNothing}
use Rattle.instance_cli.specs.Texts.{OfFile, OfToldFile}
use Rattle.instance_cli.specs.Verify.{VerifyPromise}
use Rattle.instance_cli.specs.declared.outcome.Status.{Status}
use Rattle.instance_cli.specs.declared.outcome.Status.TheVariants as status

-- the settings that options mean, with these weights
abbrev pub settings_with : Options → Weights → Settings
settings_with options weights = record {
  lambda = options.lambda;
  keep = options.keep;
  budget = options.budget;
  recosts = options.recosts;
  weights = weights;
}

-- Weights.

-- these are the weights: what the named file says, or the usual ones where none is named
abbrev pub HasWeights : Option (List ℕ) → Option Files → Weights → Type 0
HasWeights None files weights = weights ≡ default_weights
HasWeights (Some name) files weights =
    OfFile name files (λ bytes. (length bytes ≤ WEIGHTS_LIMIT) × (weights_of bytes ≡ Some weights))

-- what a job may end with that has no weights
abbrev pub IsWithoutWeights : Status → Type 0
IsWithoutWeights status.Missing = Unit {0}
IsWithoutWeights status.ReadFault = Unit {0}
IsWithoutWeights status.Memory = Unit {0}
IsWithoutWeights status.TooLong = Unit {0}
IsWithoutWeights status.BadWeights = Unit {0}
IsWithoutWeights other = ⊥

-- the file of the weights wasn't read, or says none: of the files, and the shelf's faults and misses before and after
pub record LacksWeights (name : List ℕ) (files : Option Files) (faults faults' misses misses' : ℕ) (result : Status)
    : Type 0 where
  pub one_of : IsWithoutWeights result
  -- with status 3 it isn't there, with status 4 the shelf failed
  pub missing : result ≡ status.Missing → Told files (λ told. told name ≡ None) × Rose misses misses'
  pub read_fault : result ≡ status.ReadFault → Rose faults faults'
  -- with status 7 it is above 64 KiB, with status 10 it isn't, and says no weights
  pub too_long : result ≡ status.TooLong → OfToldFile name files (λ bytes. WEIGHTS_LIMIT < length bytes)
  pub bad_weights : result ≡ status.BadWeights →
      OfToldFile name files (λ bytes. (length bytes ≤ WEIGHTS_LIMIT) × (weights_of bytes ≡ None))

-- the same of the file that is named, if one is
abbrev pub LacksWeightsIf : Option (List ℕ) → Option Files → ℕ → ℕ → ℕ → ℕ → Status → Type 0
LacksWeightsIf None files faults faults' misses misses' result = ⊥
LacksWeightsIf (Some name) files faults faults' misses misses' result =
    LacksWeights name files faults faults' misses misses' result

-- then nothing was taken
abbrev pub EndsWithoutWeights : Option (List ℕ) → Outside → Outside → Status → Type 0
EndsWithoutWeights named before after result =
    LacksWeightsIf named before.files before.faults after.faults before.misses after.misses result
    × (after.taken ≡ before.taken)

-- The demo.

-- what a demo may end with
abbrev pub IsDemoStatus : Status → Type 0
IsDemoStatus status.Done = Unit {0}
IsDemoStatus status.WriteFault = Unit {0}
IsDemoStatus status.Memory = Unit {0}
IsDemoStatus other = ⊥

-- the demo of so many runs with these settings
pub record DemoPromise (settings : Settings) (runs : ℕ) (before after : Outside) (result : Status) : Type 0 where
  pub one_of : IsDemoStatus result
  -- with status 0 the summary of a run of the demo's script was taken
  pub done : result ≡ status.Done → (text : List ℕ) × TellsDemo settings runs text × Took before after text
  -- with status 5 the sink failed, and the first bytes of it were taken
  pub write_fault : result ≡ status.WriteFault → Rose before.sink_faults after.sink_faults
      × ((text : List ℕ) × TellsDemo settings runs text × TookFirst before after text)
  -- with status 6 nothing was
  pub memory : result ≡ status.Memory → TookNothing before after

-- Jobs.

abbrev pub ModePromise : Mode → Settings → Outside → Outside → Status → Type 0
ModePromise (Run script) settings before after result = Headline settings script before after result
ModePromise (Demo runs) settings before after result = DemoPromise settings runs before after result
ModePromise (Verify script report) settings before after result =
    VerifyPromise settings script report before after result

-- the job was done, or begun, with its weights
pub record Does (job : Job) (before after : Outside) (result : Status) : Type 0 where
  pub weights : Weights
  pub has : HasWeights job.options.weights before.files weights
  pub does : ModePromise job.mode (settings_with job.options weights) before after result

-- memory was short before anything was asked of the outside
abbrev pub WasShort : Outside → Outside → Status → Type 0
WasShort before after result = (result ≡ status.Memory) × (after.taken ≡ before.taken)

-- the whole promise: words that mean no job are status 2, and nothing else happens; else the job lacks its weights, or
-- it is done with them
abbrev pub TopPromise : Option Job → Outside → Outside → Status → Type 0
TopPromise None before after result =
    ((result ≡ status.Usage) × (after.taken ≡ before.taken)) ⊎ WasShort before after result
TopPromise (Some job) before after result =
    WasShort before after result ⊎ EndsWithoutWeights job.options.weights before after result
    ⊎ Does job before after result
