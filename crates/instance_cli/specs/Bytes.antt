-- What running a script's bytes leaves, and what running its lines does: the headline without the name.
use Rattle.std.specs.Prelude.{ℕ, ◌≡◌, ◌≢◌, ◌≤◌, ◌<◌, ◌⊎◌, List, length, Bool, true, false}
use Rattle.std.specs.Str.{IsUtf8}
use Rattle.outside_model.specs.Causes.{Rose}
use Rattle.outside_model.specs.declared.TheConstants.{SCRIPT_LIMIT}
use Rattle.outside_model.specs.Outside.{Outside}
use Rattle.session_model.specs.Run.{spoken_from}
use Rattle.session_model.specs.State.{initial_state}
use Rattle.session_model.specs.declared.settings.Settings.{Settings}
use Rattle.instance_cli.specs.Lines.{Reported, ReportedInPart}
use Rattle.instance_cli.specs.Moments.{Moment}
use Rattle.instance_cli.specs.Outsides.{TookNothing}
use Rattle.instance_cli.specs.Report.{ReportsRun, ReportsPrefix}
use Rattle.instance_cli.specs.Texts.{unmarked}
use Rattle.instance_cli.specs.declared.outcome.Status.{Status}
use Rattle.instance_cli.specs.declared.outcome.Status.TheVariants as status

-- the first state, where so many files were missed before
abbrev pub first_moment : Settings → ℕ → Moment
first_moment settings misses = record { state = initial_state settings; misses = misses }

-- all lines of these texts were served
abbrev pub RunsWhole : Settings → List (List ℕ) → Outside → Outside → Bool → Type 0
RunsWhole settings texts before after refused = (last : Moment) × (last.misses ≤ after.misses)
    × Reported before.files before.taken after.taken (first_moment settings before.misses) (spoken_from 1 texts) last
    refused

-- the first of them were
abbrev pub RunsInPart : Settings → List (List ℕ) → Outside → Outside → Status → Type 0
RunsInPart settings texts before after result =
    ReportedInPart before.files before.taken after.taken (first_moment settings before.misses)
    (spoken_from 1 texts) after.misses result

-- the lines of these texts were run
abbrev pub EndsBy : Status → Settings → List (List ℕ) → Outside → Outside → Type 0
EndsBy status.Done settings texts before after = RunsWhole settings texts before after false
EndsBy status.DoneRefused settings texts before after = RunsWhole settings texts before after true
EndsBy status.ReadFault settings texts before after = RunsInPart settings texts before after status.ReadFault
EndsBy status.WriteFault settings texts before after = RunsInPart settings texts before after status.WriteFault
EndsBy status.Memory settings texts before after = RunsInPart settings texts before after status.Memory
EndsBy status.Usage settings texts before after = ⊥
EndsBy status.Missing settings texts before after = ⊥
EndsBy status.TooLong settings texts before after = ⊥
EndsBy status.NotText settings texts before after = ⊥
EndsBy status.Rejected settings texts before after = ⊥
EndsBy status.BadWeights settings texts before after = ⊥

pub record RunsLines (settings : Settings) (texts : List (List ℕ)) (before after : Outside) (result : Status) : Type 0
  where
    pub ends : EndsBy result settings texts before after
    pub read_fault : result ≡ status.ReadFault → Rose before.faults after.faults
    pub write_fault : result ≡ status.WriteFault → Rose before.sink_faults after.sink_faults

-- a script of these bytes was run
pub record RunsBytes (settings : Settings) (bytes : List ℕ) (before after : Outside) (result : Status) : Type 0 where
  pub done : result ≡ status.Done → ReportsRun settings bytes before after false
  pub refused : result ≡ status.DoneRefused → ReportsRun settings bytes before after true
  pub short : result ≢ status.TooLong → length bytes ≤ SCRIPT_LIMIT
  pub read_fault : result ≡ status.ReadFault → Rose before.faults after.faults
  pub write_fault : result ≡ status.WriteFault → Rose before.sink_faults after.sink_faults
  pub too_long : result ≡ status.TooLong → SCRIPT_LIMIT < length bytes
  pub not_text : result ≡ status.NotText → (length bytes ≤ SCRIPT_LIMIT) × ¬ IsUtf8 (unmarked bytes)
  pub usage : result ≡ status.Usage → ⊥
  pub missing : result ≡ status.Missing → ⊥
  pub rejected : result ≡ status.Rejected → ⊥
  pub bad_weights : result ≡ status.BadWeights → ⊥
  pub nothing : (result ≡ status.TooLong) ⊎ (result ≡ status.NotText) → after.taken ≡ before.taken
  pub prefix : (result ≡ status.ReadFault) ⊎ (result ≡ status.WriteFault) ⊎ (result ≡ status.Memory) →
      TookNothing before after ⊎ ReportsPrefix settings bytes before after result
