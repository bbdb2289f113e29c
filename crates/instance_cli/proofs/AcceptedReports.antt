-- What a run wrote is accepted.
use Rattle.std.proofs.Common.{ℕ, ◌≡◌, ◌≤◌, ◌<◌, ◌^◌, ◌∙◌, ◌⊎◌, inl, inr, List, [], ◌∷◌, ◌++◌, Option}
use Rattle.std.proofs.Common.{Bool, false, true, Some, None, Result, Ok, Err, ap, arith, length, refl, subst, subst₂, sym}
use Rattle.std.specs.Str.{IsUtf8}
use Rattle.std.proofs.lemmas.Option.{same_Some}
use Rattle.command_words.specs.Jobs.{AreInBounds, Options, Run, Verify}
use Rattle.fraction_math.specs.Fraction.{Fraction}
use Rattle.outside_model.specs.declared.TheConstants.{SCRIPT_LIMIT}
use Rattle.outside_model.specs.Files.{Files, Told}
use Rattle.outside_model.specs.Outside.{Outside}
use Rattle.plan_trees.specs.Statistics.{AreWeights}
use Rattle.plan_trees.specs.declared.statistics.Weights.{Weights}
use Rattle.weights_file.specs.Files.{weights_of}
use Rattle.report_items.specs.Items.{items_of}
use Rattle.report_items.specs.declared.TheConstants.{REPORT_LIMIT}
use Rattle.script_report.specs.Commands.{reading_of}
use Rattle.script_report.specs.declared.replies.Reply.{Reply}
use Rattle.session_model.specs.Run.{IsChain, Line, StepOver as RunsOver, report_text, spoken_lines}
use Rattle.session_model.specs.Session.{AreSettings}
use Rattle.session_model.specs.State.{State, initial_state}
use Rattle.session_model.specs.Step.{Step as RunStep, file_of}
use Rattle.session_model.specs.declared.settings.Settings.{Settings}
use Rattle.session_model.proofs.Chains.{mapped}
use Rattle.report_verifier.specs.Verification.{GoesOn, StepOver, Verifies}
use Rattle.report_verifier.specs.Walk.{Step, Walk, first_walk}
use Rattle.report_verifier.specs.declared.rejections.Verification.{Verification}
use Rattle.report_verifier.specs.declared.rejections.Verification.TheVariants.{Rejected, Verified}
use Rattle.report_verifier.specs.declared.rejections.Why.{Why}
use Rattle.report_verifier.proofs.OneOutcome.{verified_once}
use Rattle.report_verifier.proofs.SoundWalks.{first_sound}
use Rattle.accepted_reports.specs.Accepted.{AcceptedLaw as RunsAreAccepted, executed, too_large}
use Rattle.instance_cli.specs.Headline.{Headline}
use Rattle.instance_cli.specs.Jobs.{EndsWithoutWeights, HasWeights, IsWithoutWeights, TopPromise, settings_with}
use Rattle.instance_cli.specs.Laws.{AcceptedLaw, AreThere, GetAlike, IsReportOf, NothingFails}
use Rattle.instance_cli.specs.Moments.{Moment, state_at}
use Rattle.instance_cli.specs.Report.{ReportsRun, ServesLine}
use Rattle.instance_cli.specs.Texts.{IsText, unmarked}
use Rattle.instance_cli.specs.Verify.{TakesLine, VerifiesItems, VerifiesReport, VerifyPromise}
use Rattle.instance_cli.specs.declared.outcome.Status.{Status}
use Rattle.instance_cli.specs.declared.outcome.Status.TheVariants as status
use Rattle.instance_cli.proofs.Complete.{has_text, same_file, told_of, weighed}
use Rattle.instance_cli.proofs.WrittenReports.{report_unmarked, script_numbered, unmarked_shorter}
use Rattle.instance_cli.proofs.WeightsRead.{weights_within}

-- The run.

-- a line that was served over told files is a step over them
runs_over : (files : Files) (a : Moment) (line : Line) (reply : Reply) (b : Moment)
    → ServesLine (Some files) a line reply b → RunsOver files a.state line reply b.state
runs_over files a line reply b serves =
    subst (λ (file : Option (List ℕ)). RunStep a.state (reading_of line.text) file reply b.state) serves.told
    serves.step

-- a run over these files wrote these bytes, of the script of those
record Wrote (settings : Settings) (files : Files) (script bytes written : List ℕ) : Type 0 where
  there : files script ≡ Some bytes
  text : IsText SCRIPT_LIMIT bytes
  replies : List Reply
  end : State
  steps : IsChain (RunsOver files) (initial_state settings) (spoken_lines (unmarked bytes)) replies end
  utf8 : IsUtf8 (report_text (spoken_lines (unmarked bytes)) replies)
  spelled : written ≡ report_text (spoken_lines (unmarked bytes)) replies

reports : (settings : Settings) (files : Files) (script bytes written : List ℕ) (before after : Outside)
    (refused : Bool) → before.files ≡ Some files → before.taken ≡ Some [] → after.taken ≡ Some written
    → files script ≡ Some bytes → ReportsRun settings bytes before after refused
    → Wrote settings files script bytes written
reports settings files script bytes written before after refused told empty took there h =
    let lines : List Line = spoken_lines (unmarked bytes) in
    let run : IsChain (ServesLine (Some files)) h.first lines h.replies h.last =
    subst (λ (o : Option Files). IsChain (ServesLine o) h.first lines h.replies h.last) told h.run in
    let text : after.taken ≡ Some (report_text lines h.replies) =
    subst (λ (o : Option (List ℕ)). Told o (λ taken. after.taken ≡ Some (taken ++ report_text lines h.replies))) empty
    h.took in
    record {
      there = there;
      text = h.script;
      replies = h.replies;
      end = h.last.state;
      steps = subst (λ (s : State). IsChain (RunsOver files) s lines h.replies h.last.state) h.starts.state
          (mapped (ServesLine (Some files)) (RunsOver files) state_at (runs_over files) h.first lines h.replies h.last
          run);
      utf8 = h.text;
      spelled = same_file after.taken written (report_text lines h.replies) took text;
    }

wrote_by : (settings : Settings) (files : Files) (script written : List ℕ) (before after : Outside) (result : Status)
    → (result ≡ status.Done) ⊎ (result ≡ status.DoneRefused) → before.files ≡ Some files → before.taken ≡ Some []
    → after.taken ≡ Some written → Headline settings script before after result
    → (bytes : List ℕ) × Wrote settings files script bytes written
wrote_by settings files script written before after result (inl e) told empty took h =
    let d = h.done e in (
      d.0,
      reports settings files script d.0 written before after false told empty took
          (told_of before.files files (λ fs. fs script ≡ Some d.0) told d.1) d.2,
    )
wrote_by settings files script written before after result (inr e) told empty took h =
    let d = h.refused e in (
      d.0,
      reports settings files script d.0 written before after true told empty took
          (told_of before.files files (λ fs. fs script ≡ Some d.0) told d.1) d.2,
    )

-- a job that was done whole had its weights
record WroteWith (options : Options) (files : Files) (script written : List ℕ) : Type 0 where
  weights : Weights
  has : HasWeights options.weights (Some files) weights
  bytes : List ℕ
  wrote : Wrote (settings_with options weights) files script bytes written

not_whole : (result other : Status) → (result ≡ status.Done) ⊎ (result ≡ status.DoneRefused) → result ≡ other
    → (status.Done ≡ other → ⊥) → (status.DoneRefused ≡ other → ⊥) → ⊥
not_whole result other (inl e) k p q = p (sym e ∙ k)
not_whole result other (inr e) k p q = q (sym e ∙ k)

no_weights : (named : Option (List ℕ)) (before after : Outside) (result : Status)
    → (result ≡ status.Done) ⊎ (result ≡ status.DoneRefused) → ¬ EndsWithoutWeights named before after result
no_weights None before after result whole h = h.0
no_weights (Some name) before after result (inl e) h = subst IsWithoutWeights e h.0.one_of
no_weights (Some name) before after result (inr e) h = subst IsWithoutWeights e h.0.one_of

wrote_with : (options : Options) (script : List ℕ) (files : Files) (written : List ℕ)
    → (r : IsReportOf options script files written)
    → TopPromise (Some (record { mode = Run script; options = options })) r.before r.after r.result
    → WroteWith options files script written
wrote_with options script files written r (inl short) =
    absurd (not_whole r.result status.Memory r.whole short.0 (λ k. cc) (λ k. cc))
wrote_with options script files written r (inr (inl lacks)) =
    absurd (no_weights options.weights r.before r.after r.result r.whole lacks)
wrote_with options script files written r (inr (inr does)) =
    let w = wrote_by (settings_with options does.weights) files script written r.before r.after r.result r.whole r.told
    r.empty r.took does.does in
    record {
      weights = does.weights;
      has = subst (λ (o : Option Files). HasWeights options.weights o does.weights) r.told does.has;
      bytes = w.0;
      wrote = w.1;
    }

-- Weights.

-- the file of the weights says later what it said
there_later : (named : Option (List ℕ)) (files later : Files) (weights : Weights)
    → ((name : List ℕ) → named ≡ Some name → later name ≡ files name) → HasWeights named (Some files) weights
    → AreThere named later
there_later None files later weights alike has = tt
there_later (Some name) files later weights alike has =
    (has.0, weights, alike name refl ∙ has.1, has.2.0, has.2.1)

same_weights : (named : Option (List ℕ)) (files later : Files) (weights other : Weights)
    → ((name : List ℕ) → named ≡ Some name → later name ≡ files name) → HasWeights named (Some files) weights
    → HasWeights named (Some later) other → other ≡ weights
same_weights None files later weights other alike has again = again ∙ sym has
same_weights (Some name) files later weights other alike has again =
    let same : has.0 ≡ again.0 = same_file (files name) has.0 again.0 has.1 (sym (alike name refl) ∙ again.1) in
    let some : Some weights ≡ Some other =
    sym has.2.1 ∙ (ap weights_of same ∙ again.2.1) in
    sym (same_Some weights other some)

-- Texts.

short_script : (bytes : List ℕ) → IsText SCRIPT_LIMIT bytes → length (unmarked bytes) < 2 ^ 62
short_script bytes text =
    let short = text.short in
    let less = unmarked_shorter bytes in
    omega (arith, short, less)

-- the report of a run is a text, which no byte order mark begins
report_text_is : (settings : Settings) (files : Files) (script bytes written : List ℕ)
    → Wrote settings files script bytes written → unmarked written ≡ written
report_text_is settings files script bytes written w =
    let lines : List Line = spoken_lines (unmarked bytes) in
    ap unmarked w.spelled
    ∙ report_unmarked lines w.replies (script_numbered (unmarked bytes) (short_script bytes w.text)) ∙ sym w.spelled

report_is : (settings : Settings) (files : Files) (script bytes written : List ℕ)
    → Wrote settings files script bytes written → length written ≤ REPORT_LIMIT → IsText REPORT_LIMIT written
report_is settings files script bytes written w short = record {
  short = short;
  utf8 = subst IsUtf8 (sym (report_text_is settings files script bytes written w ∙ w.spelled)) w.utf8;
}

-- Verifications.

-- over the lines that get the same files a walk over told files is one over the files of the run
module _ (files later : Files) (misses misses' : ℕ) where
  taken_alike : (old : Walk) (line : Line) (outcome : Result Walk Why)
      → file_of later (reading_of line.text) ≡ file_of files (reading_of line.text)
      → TakesLine (Some later) misses misses' old line outcome → StepOver files old line outcome
  taken_alike old line outcome alike taken =
      subst (λ (file : Option (List ℕ)). Step old line.number (reading_of line.text) file outcome)
      (taken.told ∙ alike) taken.step

  verified_alike : (old : Walk) (lines : List Line) (v : Verification) → GetAlike files later lines
      → Verifies (TakesLine (Some later) misses misses') old lines v → Verifies (StepOver files) old lines v
  verified_alike old [] v alike h = h
  verified_alike old (line ∷ lines) v alike (outcome, taken, rest) = (
    outcome,
    taken_alike old line outcome alike.0 taken,
    by outcome rest
        (λ next. verified_alike next lines v alike.1),
  )
    where
      by : (o : Result Walk Why)
          → GoesOn line.number o (λ next. Verifies (TakesLine (Some later) misses misses') next lines v) v
          → ((next : Walk) → Verifies (TakesLine (Some later) misses misses') next lines v
          → Verifies (StepOver files) next lines v)
          → GoesOn line.number o (λ next. Verifies (StepOver files) next lines v) v
      by (Ok next) rest on = on next rest
      by (Err why) rest on = rest

-- the items of a run's report aren't turned down
accepted_items : RunsAreAccepted → (settings : Settings) → AreSettings settings → (others : Settings)
    → others.lambda ≡ settings.lambda → others.weights ≡ settings.weights → (files later : Files)
    → (script bytes written : List ℕ) → Wrote settings files script bytes written
    → GetAlike files later (spoken_lines (unmarked bytes)) → (before after : Outside) (result : Status)
    → before.files ≡ Some later → NothingFails before after
    → VerifiesItems others (unmarked bytes) (items_of written) before after result
    → (result ≡ status.Done) ⊎ (result ≡ status.Memory)
accepted_items law settings are others lambda weights files later script bytes written w alike before after status.Done
    told fails h = inl refl
accepted_items law settings are others lambda weights files later script bytes written w alike before after
    status.Memory told fails h = inr refl
accepted_items law settings are others lambda weights files later script bytes written w alike before after
    status.Rejected told fails h =
    let lines : List Line = spoken_lines (unmarked bytes) in
    let down = h.rejected refl in
    let start : Walk = first_walk settings.lambda settings.weights (items_of written) in
    let ends : Verifies (TakesLine before.files before.misses after.misses) start lines (Rejected down.rejection) =
    subst₂ (λ (l : Fraction) (u : Weights). Verifies (TakesLine before.files before.misses after.misses)
    (first_walk l u (items_of written)) lines (Rejected down.rejection)) lambda weights down.ends in
    let told_ends : Verifies (TakesLine (Some later) before.misses after.misses) start lines (Rejected down.rejection) =
    subst (λ (o : Option Files). Verifies (TakesLine o before.misses after.misses) start lines
    (Rejected down.rejection)) told ends in
    let good : Verifies (StepOver files) start lines (Verified (executed w.replies) (too_large w.replies)) =
    subst (λ (text : List ℕ). Verifies (StepOver files) (first_walk settings.lambda settings.weights (items_of text))
    lines (Verified (executed w.replies) (too_large w.replies))) (sym w.spelled)
    (law settings files (unmarked bytes) w.replies are (short_script bytes w.text)
    (record { end = w.end; steps = w.steps })) in
    let same : Rejected down.rejection ≡ Verified (executed w.replies) (too_large w.replies) =
    verified_once files start lines (Rejected down.rejection) (Verified (executed w.replies) (too_large w.replies))
    (first_sound settings.lambda settings.weights (items_of written) are.lambda are.weights)
    (verified_alike files later before.misses after.misses start lines (Rejected down.rejection) alike told_ends)
    good in
    absurd cc
accepted_items law settings are others lambda weights files later script bytes written w alike before after
    status.ReadFault told fails h = absurd (fails.reads (h.read_fault refl).0)
accepted_items law settings are others lambda weights files later script bytes written w alike before after
    status.WriteFault told fails h = absurd (fails.writes (h.write_fault refl).0)
accepted_items law settings are others lambda weights files later script bytes written w alike before after
    status.DoneRefused told fails h = absurd h.one_of
accepted_items law settings are others lambda weights files later script bytes written w alike before after
    status.Usage told fails h = absurd h.one_of
accepted_items law settings are others lambda weights files later script bytes written w alike before after
    status.Missing told fails h = absurd h.one_of
accepted_items law settings are others lambda weights files later script bytes written w alike before after
    status.TooLong told fails h = absurd h.one_of
accepted_items law settings are others lambda weights files later script bytes written w alike before after
    status.NotText told fails h = absurd h.one_of
accepted_items law settings are others lambda weights files later script bytes written w alike before after
    status.BadWeights told fails h = absurd h.one_of

accepted_report : RunsAreAccepted → (settings : Settings) → AreSettings settings → (others : Settings)
    → others.lambda ≡ settings.lambda → others.weights ≡ settings.weights → (files later : Files)
    → (script bytes report written : List ℕ) → Wrote settings files script bytes written
    → GetAlike files later (spoken_lines (unmarked bytes)) → later report ≡ Some written
    → length written ≤ REPORT_LIMIT → (before after : Outside) (result : Status) → before.files ≡ Some later
    → NothingFails before after → VerifiesReport others (unmarked bytes) report before after result
    → (result ≡ status.Done) ⊎ (result ≡ status.Memory)
accepted_report law settings are others lambda weights files later script bytes report written w alike there short
    before after result told fails (inl h) =
    inr (has_text REPORT_LIMIT report written later before after result told there
    (report_is settings files script bytes written w short) fails h)
accepted_report law settings are others lambda weights files later script bytes report written w alike there short
    before after result told fails (inr h) =
    let same : h.0 ≡ written =
    same_file (later report) h.0 written (told_of before.files later (λ fs. fs report ≡ Some h.0) told h.1) there in
    accepted_items law settings are others lambda weights files later script bytes written w alike before after result
    told fails
    (subst (λ (text : List ℕ). VerifiesItems others (unmarked bytes) (items_of text) before after result)
    (ap unmarked same ∙ report_text_is settings files script bytes written w) h.2.1)

accepted_promise : RunsAreAccepted → (settings : Settings) → AreSettings settings → (others : Settings)
    → others.lambda ≡ settings.lambda → others.weights ≡ settings.weights → (files later : Files)
    → (script bytes report written : List ℕ) → Wrote settings files script bytes written
    → later script ≡ files script → GetAlike files later (spoken_lines (unmarked bytes))
    → later report ≡ Some written → length written ≤ REPORT_LIMIT → (before after : Outside) (result : Status)
    → before.files ≡ Some later → NothingFails before after
    → VerifyPromise others script report before after result → (result ≡ status.Done) ⊎ (result ≡ status.Memory)
accepted_promise law settings are others lambda weights files later script bytes report written w text alike there
    short before after result told fails (inl h) =
    inr (has_text SCRIPT_LIMIT script bytes later before after result told (text ∙ w.there) w.text fails h)
accepted_promise law settings are others lambda weights files later script bytes report written w text alike there
    short before after result told fails (inr h) =
    let same : h.0 ≡ bytes =
    same_file (later script) h.0 bytes (told_of before.files later (λ fs. fs script ≡ Some h.0) told h.1)
    (text ∙ w.there) in
    accepted_report law settings are others lambda weights files later script bytes report written w alike there short
    before after result told fails
    (subst (λ (b : List ℕ). VerifiesReport others (unmarked b) report before after result) same h.2.1)

-- the settings of a job are within their bounds
settings_of_job : (options : Options) (weights : Weights) → AreInBounds options → AreWeights weights
    → AreSettings (settings_with options weights)
settings_of_job options weights bounds are = record {
  weights = are;
  lambda = bounds.lambda;
  keep = bounds.keep;
  keep_within = bounds.keep_within;
  some_plans = bounds.some_plans;
  few_plans = bounds.few_plans;
  few_recosts = bounds.few_recosts;
}

pub accepted : RunsAreAccepted → AcceptedLaw
accepted law options others script report files later written before after result bounds lambda weights r alike there
    short told fails promise =
    by (wrote_with options script files written r r.promise) promise
  where
    by : WroteWith options files script written
        → TopPromise (Some (record { mode = Verify script report; options = others })) before after result
        → (result ≡ status.Done) ⊎ (result ≡ status.Memory)
    by w (inl short) = inr short.0
    by w (inr (inl lacks)) =
        inr (weighed others.weights later before after result told
        (subst (λ (named : Option (List ℕ)). AreThere named later) (sym weights)
        (there_later options.weights files later w.weights alike.weighed w.has)) fails lacks)
    by w (inr (inr does)) =
        let has : HasWeights options.weights (Some later) does.weights =
        subst₂ (λ (named : Option (List ℕ)) (o : Option Files). HasWeights named o does.weights) weights told does.has in
        accepted_promise law (settings_with options w.weights)
        (settings_of_job options w.weights bounds (weights_within options.weights (Some files) w.weights w.has))
        (settings_with others does.weights) lambda
        (same_weights options.weights files later w.weights does.weights alike.weighed w.has has) files later script
        w.bytes report written w.wrote alike.text (alike.loads w.bytes w.wrote.there) there short before after result
        told fails does.does
