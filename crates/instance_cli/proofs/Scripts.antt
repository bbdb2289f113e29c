-- From the lines of a script to its bytes: what was served goes on to a run of the whole script.
use Rattle.std.proofs.Common.{ℕ, ◌≡◌, ◌≤◌, ◌<◌, ◌+◌, List, [], ◌∷◌, ◌++◌, Option, Some, None, length, sym, subst, refl}
use Rattle.std.proofs.Common.{arith, Bool, true, false, ◌⊎◌, inl, inr, ◌==◌, if◌then◌else◌}
use Rattle.std.specs.List.{slice_split}
use Rattle.std.specs.Str.{IsUtf8}
use Rattle.std.specs.Str.Lines.{lines, lines_of_parts}
use Rattle.std.proofs.lemmas.List.Splits.{length-slice_split}
use Rattle.std.proofs.lemmas.List.Sums.{count_by-le-length}
use Rattle.outside_model.specs.Causes.{last_count}
use Rattle.outside_model.specs.declared.TheConstants.{SCRIPT_LIMIT}
use Rattle.outside_model.specs.Files.{Files, Told}
use Rattle.outside_model.specs.Outside.{Outside}
use Rattle.script_report.specs.Commands.{Reading, reading_of}
use Rattle.script_report.specs.declared.replies.Reply.{Reply}
use Rattle.session_model.specs.Run.{Line, IsChain, is_silent, spoken_from, spoken_lines}
use Rattle.session_model.specs.Session.{AreSettings, IsSession}
use Rattle.session_model.specs.Step.{CanStep, asks_for, file_of}
use Rattle.session_model.specs.declared.settings.Settings.{Settings}
use Rattle.session_model.proofs.Chains.{keeps}
use Rattle.session_model.proofs.Progress.{goes_on}
use Rattle.session_model.proofs.Sessions.{first, kept}
use Rattle.instance_cli.proofs.Bounded.{bounded}
use Rattle.instance_cli.specs.Bytes.{RunsLines, RunsBytes, RunsWhole, RunsInPart, EndsBy, first_moment}
use Rattle.instance_cli.specs.Lines.{Stops, WritesInPart}
use Rattle.instance_cli.specs.Moments.{Moment}
use Rattle.instance_cli.specs.Report.{IsMissed, ServesLine, IsScript, ReportsRun, ReportsPrefix, EndsWith}
use Rattle.instance_cli.specs.Texts.{unmarked}
use Rattle.instance_cli.specs.declared.outcome.Status.{Status}
use Rattle.instance_cli.specs.declared.outcome.Status.TheVariants as status

-- Few lines.

few_parts : (parts : List (List ℕ)) → length (lines_of_parts parts) ≤ length parts
few_parts [] = omega arith
few_parts (x ∷ []) = one_at_most (length x == 0) x
  where
    one_at_most : (b : Bool) (x : List ℕ) → length (if b then [] else x ∷ []) ≤ 1
    one_at_most true x = omega arith
    one_at_most false x = omega arith
few_parts (x ∷ y ∷ more) = let h = few_parts (y ∷ more) in omega arith

-- a text has at most one line more than bytes
pub few_lines : (text : List ℕ) → length (lines text) ≤ length text + 1
few_lines text =
    let parts = few_parts (slice_split (λ b. b == 10) text) in
    omega (arith, length-slice_split (λ b. b == 10) text, count_by-le-length (λ b. b == 10) text)

-- Going on.

-- each of these lines gets a reply
abbrev AreSpoken : List Line → Type 0
AreSpoken [] = Unit {0}
AreSpoken (line ∷ lines) = (is_silent (reading_of line.text) ≡ false) × AreSpoken lines

spoken_one : (b : Bool) (l : Line) (xs : List Line) → (b ≡ false → is_silent (reading_of l.text) ≡ false) → AreSpoken xs
    → AreSpoken (if b then xs else l ∷ xs)
spoken_one true l xs f h = h
spoken_one false l xs f h = (f refl, h)

spoken_all : (n : ℕ) (texts : List (List ℕ)) → AreSpoken (spoken_from n texts)
spoken_all n [] = tt
spoken_all n (x ∷ xs) =
    spoken_one (is_silent (reading_of x)) (record { number = n; text = x }) (spoken_from (n + 1) xs) (λ e. e)
    (spoken_all (n + 1) xs)

spoken_rest : (xs ys : List Line) → AreSpoken (xs ++ ys) → AreSpoken ys
spoken_rest [] ys h = h
spoken_rest (x ∷ xs) ys h = spoken_rest xs ys h.1

-- the file of a line where files are told, else none
file_told : Option Files → Reading → Option (List ℕ)
file_told None reading = None
file_told (Some files) reading = file_of files reading

is_told : (files : Option Files) (reading : Reading)
    → Told files (λ told. file_told files reading ≡ file_of told reading)
unfolding file_told
is_told None reading = tt
is_told (Some files) reading = refl

missed_later : (file asked : Option (List ℕ)) (misses : ℕ) → IsMissed file asked misses (misses + last_count)
missed_later (Some bytes) asked misses = tt
missed_later None None misses = tt
missed_later None (Some name) misses = omega arith

-- a line that gets a reply can be served
served : (files : Option Files) (before : Moment) (line : Line) → IsSession before.state
    → is_silent (reading_of line.text) ≡ false → (reply : Reply) × (after : Moment)
    × ServesLine files before line reply after
served files before line session spoken =
    let one : CanStep before.state (reading_of line.text) (file_told files (reading_of line.text)) =
    goes_on before.state (reading_of line.text) (file_told files (reading_of line.text)) session spoken in (
      one.0,
      record { state = one.1; misses = before.misses + last_count },
      record {
        file = file_told files (reading_of line.text);
        step = one.2;
        told = is_told files (reading_of line.text);
        missed = missed_later (file_told files (reading_of line.text)) (asks_for (reading_of line.text)) before.misses;
        goes_on = omega arith;
      },
    )

abbrev InSession : Moment → Type 0
InSession moment = IsSession moment.state

serving_keeps : (files : Option Files) (before : Moment) (line : Line) (reply : Reply) (after : Moment)
    → InSession before → ServesLine files before line reply after → InSession after
serving_keeps files before line reply after session serves =
    kept before.state line.text serves.file reply after.state session serves.step

-- from each moment of a session the lines that get a reply can be served
serve_on : (files : Option Files) (before : Moment) (ls : List Line) → InSession before → AreSpoken ls
    → (replies : List Reply) × (last : Moment) × IsChain (ServesLine files) before ls replies last
serve_on files before [] session spoken = ([], before, refl)
serve_on files before (line ∷ ls) session spoken =
    let one = served files before line session spoken.0 in
    let more = serve_on files one.1 ls (serving_keeps files before line one.0 one.1 session one.2) spoken.1 in
    (one.0 ∷ more.0, more.1, (one.1, one.2, more.2))

-- and they go on as the cut says
record GoesOn (files : Option Files) (middle : Moment) (rest : List Line) (result : Status)
    (cut : List ℕ) : Type 0 where
  others : List Reply
  last : Moment
  run : IsChain (ServesLine files) middle rest others last
  next : EndsWith result rest others cut

after_write : (files : Option Files) (middle : Moment) (rest : List Line) (cut : List ℕ) → InSession middle
    → AreSpoken rest → WritesInPart files middle rest cut → GoesOn files middle rest status.WriteFault cut
after_write files middle [] cut session spoken h = absurd h
after_write files middle (line ∷ ls) cut session spoken h =
    let more = serve_on files h.1 ls (serving_keeps files middle line h.0 h.1 session h.2) spoken.1 in
    record { others = h.0 ∷ more.0; last = more.1; run = (h.1, h.2, more.2); next = (h.3, h.4) }

after_cut : (result : Status) (files : Option Files) (middle : Moment) (rest : List Line) (cut : List ℕ)
    → InSession middle → AreSpoken rest → Stops result files middle rest cut → GoesOn files middle rest result cut
after_cut status.ReadFault files middle rest cut session spoken h = let more =
    serve_on files middle rest session spoken in record { others = more.0; last = more.1; run = more.2; next = h }
after_cut status.WriteFault files middle rest cut session spoken h = after_write files middle rest cut session spoken h
after_cut status.Memory files middle rest cut session spoken h = let more = serve_on files middle rest session spoken in
    record { others = more.0; last = more.1; run = more.2; next = h }
after_cut status.Done files middle rest cut session spoken h = absurd h
after_cut status.DoneRefused files middle rest cut session spoken h = absurd h
after_cut status.Usage files middle rest cut session spoken h = absurd h
after_cut status.Missing files middle rest cut session spoken h = absurd h
after_cut status.TooLong files middle rest cut session spoken h = absurd h
after_cut status.NotText files middle rest cut session spoken h = absurd h
after_cut status.Rejected files middle rest cut session spoken h = absurd h
after_cut status.BadWeights files middle rest cut session spoken h = absurd h

-- Scripts.

-- the whole script was run
whole : (settings : Settings) → AreSettings settings → (bytes : List ℕ) (before after : Outside) (refused : Bool)
    → IsScript bytes → RunsWhole settings (lines (unmarked bytes)) before after refused → ReportsRun settings bytes
    before after refused
whole settings are bytes before after refused script h = record {
  script = script;
  replies = h.2.replies;
  first = first_moment settings before.misses;
  last = h.0;
  starts = record { state = refl; misses = omega arith };
  run = h.2.run;
  bound = bounded settings are before.files (first_moment settings before.misses) (spoken_lines (unmarked bytes))
      h.2.replies h.0 h.2.run
      refl;
  ends = h.1;
  took = h.2.took;
  status = h.2.status;
  text = h.2.text;
}

-- it was cut short
cut_short : (settings : Settings) → AreSettings settings → (bytes : List ℕ) (before after : Outside) (result : Status)
    → IsScript bytes → RunsInPart settings (lines (unmarked bytes)) before after result
    → ReportsPrefix settings bytes before after result
cut_short settings are bytes before after result script h =
    let session : InSession h.middle =
    keeps (ServesLine before.files) InSession (serving_keeps before.files)
    (first_moment settings before.misses) h.done h.replies h.middle (first settings are) h.run in
    let spoken : AreSpoken h.rest =
    spoken_rest h.done h.rest (subst AreSpoken h.parts (spoken_all 1 (lines (unmarked bytes)))) in
    let g = after_cut result before.files h.middle h.rest h.cut session spoken h.next in
    record {
      script = script;
      done = h.done;
      rest = h.rest;
      parts = h.parts;
      first = first_moment settings before.misses;
      middle = h.middle;
      last = g.last;
      replies = h.replies;
      others = g.others;
      starts = record { state = refl; misses = omega arith };
      run = h.run;
      bound = bounded settings are before.files (first_moment settings before.misses) h.done h.replies h.middle h.run
          refl;
      ends = h.ends;
      goes_on = g.run;
      cut = h.cut;
      took = h.took;
      next = g.next;
    }

pub same_taken : (old new : Option (List ℕ)) → new ≡ old → Told old (λ taken. new ≡ Some taken)
same_taken None new e = tt
same_taken (Some taken) new e = e

-- what no status but these says
abbrev IsCut : Status → Type 0
IsCut result = (result ≡ status.ReadFault) ⊎ (result ≡ status.WriteFault) ⊎ (result ≡ status.Memory)

by_cut : {P : Type 0} (result : Status) → IsCut result → (result ≡ status.ReadFault → P)
    → (result ≡ status.WriteFault → P) → (result ≡ status.Memory → P) → P
by_cut result (inl e) read write memory = read e
by_cut result (inr (inl e)) read write memory = write e
by_cut result (inr (inr e)) read write memory = memory e

by_unread : {P : Type 0} (result : Status) → (result ≡ status.TooLong) ⊎ (result ≡ status.NotText)
    → (result ≡ status.TooLong → P) → (result ≡ status.NotText → P) → P
by_unread result (inl e) long text = long e
by_unread result (inr e) long text = text e

-- a script that is too long
pub long_bytes : (settings : Settings) (bytes : List ℕ) (before after : Outside) → SCRIPT_LIMIT < length bytes →
    after.taken ≡ before.taken
    → RunsBytes settings bytes before after status.TooLong
long_bytes settings bytes before after long same = record {
  done = λ e. absurd cc;
  refused = λ e. absurd cc;
  short = λ other. absurd (other refl);
  read_fault = λ e. absurd cc;
  write_fault = λ e. absurd cc;
  too_long = λ e. long;
  not_text = λ e. absurd cc;
  usage = λ e. cc;
  missing = λ e. cc;
  rejected = λ e. cc;
  bad_weights = λ e. cc;
  nothing = λ s. same;
  prefix = λ s. by_cut status.TooLong s (λ e. absurd cc) (λ e. absurd cc) (λ e. absurd cc);
}

-- one that is no text
pub no_text : (settings : Settings) (bytes : List ℕ) (before after : Outside) → length bytes ≤ SCRIPT_LIMIT → ¬ IsUtf8
    (unmarked bytes)
    → after.taken ≡ before.taken → RunsBytes settings bytes before after status.NotText
no_text settings bytes before after short not_utf8 same = record {
  done = λ e. absurd cc;
  refused = λ e. absurd cc;
  short = λ other. short;
  read_fault = λ e. absurd cc;
  write_fault = λ e. absurd cc;
  too_long = λ e. absurd cc;
  not_text = λ e. (short, not_utf8);
  usage = λ e. cc;
  missing = λ e. cc;
  rejected = λ e. cc;
  bad_weights = λ e. cc;
  nothing = λ s. same;
  prefix = λ s. by_cut status.NotText s (λ e. absurd cc) (λ e. absurd cc) (λ e. absurd cc);
}

-- memory was short before the first line
pub no_memory : (settings : Settings) (bytes : List ℕ) (before after : Outside) → length bytes ≤ SCRIPT_LIMIT →
    after.taken ≡ before.taken
    → RunsBytes settings bytes before after status.Memory
no_memory settings bytes before after short same = record {
  done = λ e. absurd cc;
  refused = λ e. absurd cc;
  short = λ other. short;
  read_fault = λ e. absurd cc;
  write_fault = λ e. absurd cc;
  too_long = λ e. absurd cc;
  not_text = λ e. absurd cc;
  usage = λ e. cc;
  missing = λ e. cc;
  rejected = λ e. cc;
  bad_weights = λ e. cc;
  nothing = λ s. same;
  prefix = λ s. inl (same_taken before.taken after.taken same);
}

ends_at : (settings : Settings) (r s : Status) (texts : List (List ℕ)) (before after : Outside) → r ≡ s → EndsBy r
    settings texts before after
    → EndsBy s settings texts before after
ends_at settings r s texts before after e h = subst (λ (x : Status). EndsBy x settings texts before after) e h

-- its lines were run
pub bytes_run : (settings : Settings) → AreSettings settings → (bytes : List ℕ) (texts : List (List ℕ))
    (before after : Outside) (result : Status) → IsScript bytes → texts ≡ lines (unmarked bytes)
    → RunsLines settings texts before after result → RunsBytes settings bytes before after result
bytes_run settings are bytes texts before after result script same run =
    let ends : EndsBy result settings (lines (unmarked bytes)) before after =
    subst (λ (ts : List (List ℕ)). EndsBy result settings ts before after) same run.ends in
    record {
      done = λ e. whole settings are bytes before after false script
          (ends_at settings result status.Done _ before after e ends);
      refused = λ e. whole settings are bytes before after true script
          (ends_at settings result status.DoneRefused _ before after e ends);
      short = λ other. script.short;
      read_fault = run.read_fault;
      write_fault = run.write_fault;
      too_long = λ e. absurd (ends_at settings result status.TooLong _ before after e ends);
      not_text = λ e. absurd (ends_at settings result status.NotText _ before after e ends);
      usage = λ e. ends_at settings result status.Usage _ before after e ends;
      missing = λ e. ends_at settings result status.Missing _ before after e ends;
      rejected = λ e. ends_at settings result status.Rejected _ before after e ends;
      bad_weights = λ e. ends_at settings result status.BadWeights _ before after e ends;
      nothing = λ s. by_unread result s (λ e. absurd (ends_at settings result status.TooLong _ before after e ends))
          (λ e. absurd (ends_at settings result status.NotText _ before after e ends));
      prefix = λ s. inr (by_cut result s
          (λ e. subst (ReportsPrefix settings bytes before after) (sym e)
          (cut_short settings are bytes before after status.ReadFault script
          (ends_at settings result status.ReadFault _ before after e ends)))
          (λ e. subst (ReportsPrefix settings bytes before after) (sym e)
          (cut_short settings are bytes before after status.WriteFault script
          (ends_at settings result status.WriteFault _ before after e ends)))
          (λ e. subst (ReportsPrefix settings bytes before after) (sym e)
          (cut_short settings are bytes before after status.Memory script
          (ends_at settings result status.Memory _ before after e ends))));
    }

-- by which status lines were served in part
pub in_part : (result : Status) (settings : Settings) (texts : List (List ℕ)) (before after : Outside)
    → RunsInPart settings texts before after result → EndsBy result settings texts before after
in_part status.ReadFault settings texts before after h = h
in_part status.WriteFault settings texts before after h = h
in_part status.Memory settings texts before after h = h
in_part status.Done settings texts before after h = absurd h.next
in_part status.DoneRefused settings texts before after h = absurd h.next
in_part status.Usage settings texts before after h = absurd h.next
in_part status.Missing settings texts before after h = absurd h.next
in_part status.TooLong settings texts before after h = absurd h.next
in_part status.NotText settings texts before after h = absurd h.next
in_part status.Rejected settings texts before after h = absurd h.next
in_part status.BadWeights settings texts before after h = absurd h.next
