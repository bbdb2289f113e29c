-- Where all that a job names is there and nothing fails, it is done.
use Rattle.std.proofs.Common.{ℕ, ◌≡◌, ◌≤◌, ◌<◌, ◌∙◌, List, length, Option, Some, None, inl, inr, arith, refl, subst, sym}
use Rattle.std.specs.Str.{IsUtf8}
use Rattle.command_words.specs.Jobs.{Demo, Mode, Run, Verify}
use Rattle.outside_model.specs.declared.TheConstants.{SCRIPT_LIMIT}
use Rattle.outside_model.specs.Files.{Files, Told}
use Rattle.outside_model.specs.Outside.{Outside}
use Rattle.weights_file.specs.Files.{weights_of}
use Rattle.weights_file.specs.declared.TheConstants.{WEIGHTS_LIMIT}
use Rattle.session_model.specs.declared.settings.Settings.{Settings}
use Rattle.instance_cli.specs.Headline.{Headline}
use Rattle.instance_cli.specs.Jobs.{DemoPromise, EndsWithoutWeights, ModePromise}
use Rattle.report_items.specs.Items.{items_of}
use Rattle.report_items.specs.declared.TheConstants.{REPORT_LIMIT}
use Rattle.report_items.specs.declared.items.ReportItem.{ReportItem}
use Rattle.instance_cli.specs.Laws.{AreThere, CompletenessLaw, IsComplete, IsThere, IsWholeDemo, IsWholeRun}
use Rattle.instance_cli.specs.Laws.{IsWholeVerification, NothingFails}
use Rattle.instance_cli.specs.Texts.{EndsWithoutText, IsText, unmarked}
use Rattle.instance_cli.specs.Verify.{VerifiesItems, VerifiesReport, VerifyPromise}
use Rattle.instance_cli.specs.declared.outcome.Status.{Status}
use Rattle.instance_cli.specs.declared.outcome.Status.TheVariants as status

-- where the files are told, what holds of them
pub told_of : (o : Option Files) (files : Files) (P : Files → Type 0) → o ≡ Some files → Told o P → P files
told_of o files P e h = subst (λ (x : Option Files). Told x P) e h

-- one file of a name
pub same_file : (o : Option (List ℕ)) (a b : List ℕ) → o ≡ Some a → o ≡ Some b → a ≡ b
same_file o a b e f = let same : Some a ≡ Some b = sym e ∙ f in cc

ran : (settings : Settings) (script : List ℕ) (files : Files) (before after : Outside) (result : Status)
    → before.files ≡ Some files → IsThere (Run script) files → NothingFails before after
    → Headline settings script before after result → IsWholeRun result
ran settings script files before after status.Done told there fails h = tt
ran settings script files before after status.DoneRefused told there fails h = tt
ran settings script files before after status.Memory told there fails h = tt
ran settings script files before after status.Usage told there fails h = h.usage refl
ran settings script files before after status.Rejected told there fails h = h.rejected refl
ran settings script files before after status.BadWeights told there fails h = h.bad_weights refl
ran settings script files before after status.ReadFault told there fails h = fails.reads (h.read_fault refl)
ran settings script files before after status.WriteFault told there fails h = fails.writes (h.write_fault refl)
ran settings script files before after status.Missing told there fails h =
    let none = told_of before.files files (λ fs. fs script ≡ None) told (h.missing refl).0 in
    let some : Some there.0 ≡ None = sym there.1 ∙ none in
    absurd cc
ran settings script files before after status.TooLong told there fails h =
    let long = told_of before.files files (λ fs. (bytes : List ℕ) × (fs script ≡ Some bytes)
    × (SCRIPT_LIMIT < length bytes)) told (h.too_long refl) in
    let same = same_file (files script) there.0 long.0 there.1 long.1 in
    let short = subst (λ (bytes : List ℕ). length bytes ≤ SCRIPT_LIMIT) same there.2.short in
    let more = long.2 in
    absurd (omega (arith, short, more))
ran settings script files before after status.NotText told there fails h =
    let other = told_of before.files files (λ fs. (bytes : List ℕ) × (fs script ≡ Some bytes)
    × ((length bytes ≤ SCRIPT_LIMIT) × ¬ IsUtf8 (unmarked bytes))) told (h.not_text refl) in
    let same = same_file (files script) there.0 other.0 there.1 other.1 in
    absurd (other.2.1 (subst (λ (bytes : List ℕ). IsUtf8 (unmarked bytes)) same there.2.utf8))

shown : (settings : Settings) (runs : ℕ) (before after : Outside) (result : Status) → NothingFails before after
    → DemoPromise settings runs before after result → IsWholeDemo result
shown settings runs before after status.Done fails h = tt
shown settings runs before after status.DoneRefused fails h = h.one_of
shown settings runs before after status.Memory fails h = tt
shown settings runs before after status.WriteFault fails h = fails.writes (h.write_fault refl).0
shown settings runs before after status.Usage fails h = h.one_of
shown settings runs before after status.Missing fails h = h.one_of
shown settings runs before after status.ReadFault fails h = h.one_of
shown settings runs before after status.TooLong fails h = h.one_of
shown settings runs before after status.NotText fails h = h.one_of
shown settings runs before after status.Rejected fails h = h.one_of
shown settings runs before after status.BadWeights fails h = h.one_of

-- a text that is there isn't lacking
pub has_text : (limit : ℕ) (name bytes : List ℕ) (files : Files) (before after : Outside) (result : Status)
    → before.files ≡ Some files → files name ≡ Some bytes → IsText limit bytes → NothingFails before after
    → EndsWithoutText limit name before after result → result ≡ status.Memory
has_text limit name bytes files before after status.Memory told there text fails h = refl
has_text limit name bytes files before after status.ReadFault told there text fails h =
    absurd (fails.reads (h.0.read_fault refl))
has_text limit name bytes files before after status.Missing told there text fails h =
    let none = told_of before.files files (λ fs. fs name ≡ None) told (h.0.missing refl).0 in
    let some : Some bytes ≡ None = sym there ∙ none in
    absurd cc
has_text limit name bytes files before after status.TooLong told there text fails h =
    let long = told_of before.files files (λ fs. (other : List ℕ) × (fs name ≡ Some other)
    × (limit < length other)) told (h.0.too_long refl) in
    let same = same_file (files name) bytes long.0 there long.1 in
    let short = subst (λ (b : List ℕ). length b ≤ limit) same text.short in
    let more = long.2 in
    absurd (omega (arith, short, more))
has_text limit name bytes files before after status.NotText told there text fails h =
    let none = told_of before.files files (λ fs. (other : List ℕ) × (fs name ≡ Some other)
    × ((length other ≤ limit) × ¬ IsUtf8 (unmarked other))) told (h.0.not_text refl) in
    let same = same_file (files name) bytes none.0 there none.1 in
    absurd (none.2.1 (subst (λ (b : List ℕ). IsUtf8 (unmarked b)) same text.utf8))
has_text limit name bytes files before after status.Done told there text fails h = absurd h.0.one_of
has_text limit name bytes files before after status.DoneRefused told there text fails h = absurd h.0.one_of
has_text limit name bytes files before after status.Usage told there text fails h = absurd h.0.one_of
has_text limit name bytes files before after status.WriteFault told there text fails h = absurd h.0.one_of
has_text limit name bytes files before after status.Rejected told there text fails h = absurd h.0.one_of
has_text limit name bytes files before after status.BadWeights told there text fails h = absurd h.0.one_of

walked : (settings : Settings) (script : List ℕ) (items : List ReportItem) (before after : Outside) (result : Status)
    → NothingFails before after → VerifiesItems settings script items before after result → IsWholeVerification result
walked settings script items before after status.Done fails h = tt
walked settings script items before after status.Rejected fails h = tt
walked settings script items before after status.Memory fails h = tt
walked settings script items before after status.ReadFault fails h = absurd (fails.reads (h.read_fault refl).0)
walked settings script items before after status.WriteFault fails h = absurd (fails.writes (h.write_fault refl).0)
walked settings script items before after status.DoneRefused fails h = h.one_of
walked settings script items before after status.Usage fails h = h.one_of
walked settings script items before after status.Missing fails h = h.one_of
walked settings script items before after status.TooLong fails h = h.one_of
walked settings script items before after status.NotText fails h = h.one_of
walked settings script items before after status.BadWeights fails h = h.one_of

memory_is_whole : (result : Status) → result ≡ status.Memory → IsWholeVerification result
memory_is_whole result e = subst IsWholeVerification (sym e) tt

read_and_walked : (settings : Settings) (script report bytes : List ℕ) (files : Files) (before after : Outside)
    (result : Status) → before.files ≡ Some files → files report ≡ Some bytes → IsText REPORT_LIMIT bytes
    → NothingFails before after → VerifiesReport settings script report before after result
    → IsWholeVerification result
read_and_walked settings script report bytes files before after result told there text fails (inl h) =
    memory_is_whole result (has_text REPORT_LIMIT report bytes files before after result told there text fails h)
read_and_walked settings script report bytes files before after result told there text fails (inr h) =
    walked settings script (items_of (unmarked h.0)) before after result fails h.2.1

verified : (settings : Settings) (script report : List ℕ) (files : Files) (before after : Outside) (result : Status)
    → before.files ≡ Some files → IsThere (Verify script report) files → NothingFails before after
    → VerifyPromise settings script report before after result → IsWholeVerification result
verified settings script report files before after result told (first, second) fails (inl h) =
    memory_is_whole result
    (has_text SCRIPT_LIMIT script first.0 files before after result told first.1 first.2 fails h)
verified settings script report files before after result told (first, second) fails (inr h) =
    read_and_walked settings (unmarked h.0) report second.0 files before after result told second.1 second.2 fails h.2.1

by_mode : (mode : Mode) (settings : Settings) (files : Files) (before after : Outside) (result : Status)
    → before.files ≡ Some files → IsThere mode files → NothingFails before after
    → ModePromise mode settings before after result → IsComplete mode result
by_mode (Run script) settings files before after result told there fails h =
    ran settings script files before after result told there fails h
by_mode (Demo runs) settings files before after result told there fails h =
    shown settings runs before after result fails h
by_mode (Verify script report) settings files before after result told there fails h =
    verified settings script report files before after result told there fails h

-- the weights are there, so they aren't lacking
pub weighed : (named : Option (List ℕ)) (files : Files) (before after : Outside) (result : Status)
    → before.files ≡ Some files → AreThere named files → NothingFails before after
    → EndsWithoutWeights named before after result → result ≡ status.Memory
weighed None files before after result told there fails h = absurd h.0
weighed (Some name) files before after status.Memory told there fails h = refl
weighed (Some name) files before after status.Done told there fails h = absurd h.0.one_of
weighed (Some name) files before after status.DoneRefused told there fails h = absurd h.0.one_of
weighed (Some name) files before after status.Usage told there fails h = absurd h.0.one_of
weighed (Some name) files before after status.NotText told there fails h = absurd h.0.one_of
weighed (Some name) files before after status.Rejected told there fails h = absurd h.0.one_of
weighed (Some name) files before after status.WriteFault told there fails h = absurd h.0.one_of
weighed (Some name) files before after status.ReadFault told there fails h = absurd (fails.reads (h.0.read_fault refl))
weighed (Some name) files before after status.Missing told there fails h =
    let none = told_of before.files files (λ fs. fs name ≡ None) told (h.0.missing refl).0 in
    let some : Some there.0 ≡ None = sym there.2 ∙ none in
    absurd cc
weighed (Some name) files before after status.TooLong told there fails h =
    let long = told_of before.files files (λ fs. (bytes : List ℕ) × (fs name ≡ Some bytes)
    × (WEIGHTS_LIMIT < length bytes)) told (h.0.too_long refl) in
    let same = same_file (files name) there.0 long.0 there.2 long.1 in
    let short = subst (λ (bytes : List ℕ). length bytes ≤ WEIGHTS_LIMIT) same there.3 in
    let more = long.2 in
    absurd (omega (arith, short, more))
weighed (Some name) files before after status.BadWeights told there fails h =
    let other = told_of before.files files (λ fs. (bytes : List ℕ) × (fs name ≡ Some bytes)
    × ((length bytes ≤ WEIGHTS_LIMIT) × (weights_of bytes ≡ None))) told (h.0.bad_weights refl) in
    let same = same_file (files name) there.0 other.0 there.2 other.1 in
    let some = subst (λ (bytes : List ℕ). weights_of bytes ≡ Some there.1) same there.4 in
    let both : Some there.1 ≡ None = sym some ∙ other.2.1 in
    absurd cc

-- want of memory may end each job
spared : (mode : Mode) → IsComplete mode status.Memory
spared (Run script) = tt
spared (Demo runs) = tt
spared (Verify script report) = tt

pub complete : CompletenessLaw
complete job files before after result told weights there fails (inl short) =
    subst (IsComplete job.mode) (sym short.0) (spared job.mode)
complete job files before after result told weights there fails (inr (inl lacks)) =
    subst (IsComplete job.mode) (sym (weighed job.options.weights files before after result told weights fails lacks))
    (spared job.mode)
complete job files before after result told weights there fails (inr (inr does)) =
    by_mode job.mode _ files before after result told there fails does.does
