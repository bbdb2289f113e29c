-- What the run of a script promises: what was written, and why the job ended. To be read aloud.
use Rattle.std.specs.Prelude.{ℕ, ◌≡◌, ◌<◌, ◌≤◌, ◌⊎◌, List, length, true, false, None}
use Rattle.std.specs.Str.{IsUtf8}
use Rattle.outside_model.specs.Causes.{Rose}
use Rattle.outside_model.specs.declared.TheConstants.{SCRIPT_LIMIT}
use Rattle.outside_model.specs.Files.{Told}
use Rattle.outside_model.specs.Outside.{Outside}
use Rattle.session_model.specs.declared.settings.Settings.{Settings}
use Rattle.instance_cli.specs.Report.{ReportsRun, ReportsPrefix}
use Rattle.instance_cli.specs.Texts.{OfFile, OfToldFile, unmarked}
use Rattle.instance_cli.specs.Outsides.{TookNothing}
use Rattle.instance_cli.specs.declared.outcome.Status.{Status}
use Rattle.instance_cli.specs.declared.outcome.Status.TheVariants as status

-- the run of the script of this name with these settings, with the outside before and after it
pub record Headline (settings : Settings) (name : List ℕ) (before after : Outside) (result : Status) : Type 0 where
  -- with status 0 the whole script was run, what was taken is its report, and no line was refused
  pub done : result ≡ status.Done → OfFile name before.files (λ bytes. ReportsRun settings bytes before after false)
  -- with status 1 the same, and some line was refused
  pub refused : result ≡ status.DoneRefused → OfFile name before.files
      (λ bytes. ReportsRun settings bytes before after true)
  -- with status 3 the script isn't there, and the shelf missed it
  pub missing : result ≡ status.Missing → Told before.files (λ files. files name ≡ None)
      × Rose before.misses after.misses
  -- with status 4 the shelf failed, with status 5 the sink
  pub read_fault : result ≡ status.ReadFault → Rose before.faults after.faults
  pub write_fault : result ≡ status.WriteFault → Rose before.sink_faults after.sink_faults
  -- with status 7 the script is above 16 MiB, with status 8 it isn't, and is no text
  pub too_long : result ≡ status.TooLong → OfToldFile name before.files (λ bytes. SCRIPT_LIMIT < length bytes)
  pub not_text : result ≡ status.NotText →
      OfToldFile name before.files (λ bytes. (length bytes ≤ SCRIPT_LIMIT) × ¬ IsUtf8 (unmarked bytes))
  -- the words mean a job, nothing is verified, and the weights were read before: 2, 9 and 10 don't come
  pub usage : result ≡ status.Usage → ⊥
  pub rejected : result ≡ status.Rejected → ⊥
  pub bad_weights : result ≡ status.BadWeights → ⊥
  -- with 3, 7 and 8 nothing was taken
  pub nothing : (result ≡ status.Missing) ⊎ (result ≡ status.TooLong) ⊎ (result ≡ status.NotText)
      → after.taken ≡ before.taken
  -- with 4, 5 and 6 nothing, or whole replies of a run of the script and then what `EndsWith` says of the next one
  pub prefix : (result ≡ status.ReadFault) ⊎ (result ≡ status.WriteFault) ⊎ (result ≡ status.Memory) →
      TookNothing before after ⊎ OfFile name before.files (λ bytes. ReportsPrefix settings bytes before after result)
