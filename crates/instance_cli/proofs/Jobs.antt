-- Jobs that are done once their weights were fetched.
use Rattle.std.proofs.Common.{ℕ, ◌≡◌, ◌≤◌, ◌++◌, ◌∙◌, List, Option, Some, None, Result, Ok, Err, IfOk, IfErr, inl, inr}
use Rattle.std.proofs.Common.{ap, refl, arith, length, subst, take}
use Rattle.command_words.specs.Jobs.{Demo, Job, Mode, Run, Verify}
use Rattle.demo_run.specs.Demo.{TellsDemo}
use Rattle.outside_io.specs.Calls.{Gives, TakesTold}
use Rattle.outside_io.specs.declared.Fetched.TheVariants.{Got}
use Rattle.outside_io.specs.declared.Put.TheVariants as put
use Rattle.outside_model.specs.Causes.{Rose}
use Rattle.outside_model.specs.Files.{Files, Told}
use Rattle.plan_trees.specs.declared.statistics.Weights.{Weights}
use Rattle.weights_file.specs.Files.{weights_of}
use Rattle.weights_file.specs.declared.TheConstants.{WEIGHTS_LIMIT}
use Rattle.outside_model.specs.Outside.{Outside}
use Rattle.session_model.specs.Session.{AreSettings}
use Rattle.session_model.specs.declared.settings.Settings.{Settings}
use Rattle.instance_cli.specs.Jobs.{DemoPromise, HasWeights, LacksWeights, ModePromise}
use Rattle.instance_cli.specs.Jobs.{Does, TopPromise, settings_with}
use Rattle.instance_cli.specs.Weights.{SaysNone}
use Rattle.instance_cli.specs.declared.outcome.Status.{Status}
use Rattle.instance_cli.specs.declared.outcome.Status.TheVariants as status
use Rattle.instance_cli.proofs.Headlines.{Fetched, fetched, fetched_bytes, fetched_long, headline_before}
use Rattle.instance_cli.proofs.Headlines.{first_before, nothing_before, took_before}
use Rattle.instance_cli.proofs.Promises.{verify_before}

demo_before : (settings : Settings) (runs : ℕ) (before middle after : Outside) (result : Status)
    → Fetched before middle → DemoPromise settings runs middle after result → DemoPromise settings runs before after
    result
demo_before settings runs before middle after result f h = record {
  one_of = h.one_of;
  done = λ e. let d = h.done e in (d.0, d.1, took_before before middle after d.0 f d.2);
  write_fault = λ e. let w = h.write_fault e in let m = f.sink_faults in let rose = w.0 in (
    omega arith,
    (w.1.0, w.1.1, first_before before middle after w.1.0 f w.1.2),
  );
  memory = λ e. nothing_before before middle after f (h.memory e);
}

pub mode_before : (mode : Mode) (settings : Settings) → AreSettings settings → (before middle after : Outside)
    (result : Status) → Fetched before middle → ModePromise mode settings middle after result
    → ModePromise mode settings before after result
mode_before (Run script) settings are before middle after result f h =
    headline_before settings are script before middle after result f h
mode_before (Demo runs) settings are before middle after result f h =
    demo_before settings runs before middle after result f h
mode_before (Verify script report) settings are before middle after result f h =
    verify_before settings script report before middle after result f h

-- Weights.

-- the file was got, and its bytes say none
pub got_none : (name bytes : List ℕ) (files : Option Files) (faults faults' misses misses' : ℕ) (result : Status)
    → Told files (λ told. Gives told name WEIGHTS_LIMIT Got bytes) → SaysNone bytes result
    → LacksWeights name files faults faults' misses misses' result
got_none name bytes files faults faults' misses misses' status.TooLong gives long = record {
  one_of = tt;
  missing = λ e. absurd cc;
  read_fault = λ e. absurd cc;
  too_long = λ e. fetched_long files name bytes WEIGHTS_LIMIT gives long;
  bad_weights = λ e. absurd cc;
}
got_none name bytes files faults faults' misses misses' status.BadWeights gives none = record {
  one_of = tt;
  missing = λ e. absurd cc;
  read_fault = λ e. absurd cc;
  too_long = λ e. absurd cc;
  bad_weights = λ e. fetched_bytes files name bytes (λ b. (length b ≤ WEIGHTS_LIMIT) × (weights_of b ≡ None))
      (fetched files name bytes WEIGHTS_LIMIT gives none.0) none;
}
got_none name bytes files faults faults' misses misses' status.Memory gives few = record {
  one_of = tt;
  missing = λ e. absurd cc;
  read_fault = λ e. absurd cc;
  too_long = λ e. absurd cc;
  bad_weights = λ e. absurd cc;
}
got_none name bytes files faults faults' misses misses' status.Done gives h = absurd h
got_none name bytes files faults faults' misses misses' status.DoneRefused gives h = absurd h
got_none name bytes files faults faults' misses misses' status.Usage gives h = absurd h
got_none name bytes files faults faults' misses misses' status.Missing gives h = absurd h
got_none name bytes files faults faults' misses misses' status.ReadFault gives h = absurd h
got_none name bytes files faults faults' misses misses' status.WriteFault gives h = absurd h
got_none name bytes files faults faults' misses misses' status.NotText gives h = absurd h
got_none name bytes files faults faults' misses misses' status.Rejected gives h = absurd h

-- it was got, and they say these weights
pub got_weights : (name bytes : List ℕ) (files : Option Files) (weights : Weights)
    → Told files (λ told. Gives told name WEIGHTS_LIMIT Got bytes)
    → (length bytes ≤ WEIGHTS_LIMIT) × (weights_of bytes ≡ Some weights) → HasWeights (Some name) files weights
got_weights name bytes files weights gives says =
    (bytes, fetched files name bytes WEIGHTS_LIMIT gives says.0, says)

pub weights_if : (name bytes : List ℕ) (files : Option Files) (r : Result Weights Status)
    → Told files (λ told. Gives told name WEIGHTS_LIMIT Got bytes)
    → IfOk r (λ weights. (length bytes ≤ WEIGHTS_LIMIT) × (weights_of bytes ≡ Some weights))
    → IfOk r (HasWeights (Some name) files)
weights_if name bytes files (Ok weights) gives says = got_weights name bytes files weights gives says
weights_if name bytes files (Err status) gives says = tt

pub none_if : (name bytes : List ℕ) (files : Option Files) (faults faults' misses misses' : ℕ)
    (r : Result Weights Status)
    → Told files (λ told. Gives told name WEIGHTS_LIMIT Got bytes) → IfErr r (SaysNone bytes)
    → IfErr r (LacksWeights name files faults faults' misses misses')
none_if name bytes files faults faults' misses misses' (Ok weights) gives says = tt
none_if name bytes files faults faults' misses misses' (Err result) gives says =
    got_none name bytes files faults faults' misses misses' result gives says

-- Memory was short for the words.
pub short_of_memory : (job : Option Job) (before after : Outside) → after.taken ≡ before.taken
    → TopPromise job before after status.Memory
short_of_memory None before after same = inr (refl, same)
short_of_memory (Some job) before after same = inl (refl, same)

pub same_count : (n : ℕ) → n ≤ n
same_count n = omega arith

-- The summary of a demo was cut short.
pub demo_cut : (settings : Settings) (runs : ℕ) (before after : Outside) (text bytes : List ℕ)
    → TellsDemo settings runs text → bytes ≡ text → TakesTold before.taken after.taken put.Failed bytes
    → Rose before.sink_faults after.sink_faults → DemoPromise settings runs before after status.WriteFault
demo_cut settings runs before after text bytes tells same takes rose = record {
  one_of = tt;
  done = λ e. absurd cc;
  write_fault = λ e. (
    rose,
    (
      text,
      tells,
      subst (λ (b : List ℕ). Told before.taken (λ taken. (count : ℕ) × (after.taken ≡ Some (taken ++ take count b))))
          same
          (first_of before.taken after.taken bytes takes),
    ),
  );
  memory = λ e. absurd cc;
}
  where
    first_of : (old new : Option (List ℕ)) (bytes : List ℕ) → TakesTold old new put.Failed bytes
        → Told old (λ taken. (count : ℕ) × (new ≡ Some (taken ++ take count bytes)))
    first_of None new bytes h = tt
    first_of (Some taken) new bytes h = (h.2.0, h.1 ∙ ap Some h.2.1)

-- The job is done with its weights.
pub does_job : (job : Job) (before middle after : Outside) (result : Status) (weights : Weights) (settings : Settings)
    → settings ≡ settings_with job.options weights → AreSettings settings
    → HasWeights job.options.weights before.files weights → Fetched before middle
    → ModePromise job.mode settings middle after result → Does job before after result
does_job job before middle after result weights settings same are has f done = record {
  weights = weights;
  has = has;
  does = subst (λ (s : Settings). ModePromise job.mode s before after result) same
      (mode_before job.mode settings are before middle after result f done);
}
