-- One line: what it was served with, and its reply.
use Rattle.std.proofs.Common.{ℕ, ◌≡◌, ◌≤◌, ◌∙◌, List, [], ◌∷◌, ◌++◌, take, Bool, true, false, IsSome, Option, Some}
use Rattle.std.proofs.Common.{None, ◌⊎◌, inl, inr, sym, ap, subst, refl, append-nil, if◌then◌else◌}
use Rattle.std.specs.Option.{option_map}
use Rattle.std.specs.Str.{IsUtf8}
use Rattle.std.proofs.lemmas.Str.{IsUtf8-append, IsUtf8-nil}
use Rattle.outside_model.specs.declared.TheConstants.{FILE_LIMIT}
use Rattle.outside_model.specs.Files.{Files, Told, up_to}
use Rattle.script_report.specs.Commands.{Reading, Silent, Says, Bad, reading_of}
use Rattle.script_report.specs.Replies.{reply_text}
use Rattle.script_report.specs.declared.replies.Reply.{Reply}
use Rattle.session_model.specs.Run.{Line, is_silent, is_refusal, spoken_from}
use Rattle.session_model.specs.Step.{Step, asks_for, file_of}
use Rattle.session_model.proofs.WholeFiles.{whole}
use Rattle.instance_cli.specs.Lines.{Answers, Reported, ReportedInPart}
use Rattle.instance_cli.specs.Moments.{Moment}
use Rattle.instance_cli.specs.Report.{IsMissed, Serves}
use Rattle.instance_cli.specs.declared.outcome.Status.{Status}
use Rattle.instance_cli.specs.declared.outcome.Status.TheVariants.{ReadFault, WriteFault, Memory}

-- Files.

some_file : (o : Option (List ℕ)) (bytes : List ℕ) → option_map (up_to FILE_LIMIT) o ≡ Some bytes → IsMissed o None 0 0
    × ((asked : Option (List ℕ)) (before after : ℕ) → IsMissed o asked before after)
some_file None bytes h = absurd cc
some_file (Some file) bytes h = (tt, λ asked before after. tt)

-- the line was served with a file that was fetched
pub with_file : (files : Option Files) (before after : Moment) (reading : Reading) (bytes : List ℕ) (reply : Reply)
    → Step before.state reading (Some bytes) reply after.state →
    Told files (λ told. option_map (up_to FILE_LIMIT) (file_of told reading) ≡ Some bytes)
    → before.misses ≤ after.misses → Serves files before reading reply after
with_file None before after reading bytes reply step told on =
    record { file = Some bytes; step = step; told = tt; missed = tt; goes_on = on }
with_file (Some files) before after reading bytes reply step told on = record {
  file = file_of files reading;
  step = whole before.state reading (file_of files reading) reply after.state
      (subst (λ (file : Option (List ℕ)). Step before.state reading file reply after.state) (sym told) step);
  told = refl;
  missed = (some_file (file_of files reading) bytes told).1 (asks_for reading) before.misses after.misses;
  goes_on = on;
}

-- what was fetched, by another name
pub same_bytes : (files : Option Files) (reading : Reading) (seen bytes : List ℕ) → seen ≡ bytes
    → Told files (λ told. option_map (up_to FILE_LIMIT) (file_of told reading) ≡ Some bytes)
    → Told files (λ told. option_map (up_to FILE_LIMIT) (file_of told reading) ≡ Some seen)
same_bytes None reading seen bytes e h = tt
same_bytes (Some files) reading seen bytes e h = h ∙ ap Some (sym e)

-- the line was served with none
pub with_none : (files : Option Files) (before after : Moment) (reading : Reading) (reply : Reply)
    → Step before.state reading None reply after.state → Told files (λ told. file_of told reading ≡ None) →
    IsMissed None (asks_for reading) before.misses after.misses → before.misses ≤ after.misses
    → Serves files before reading reply after
with_none None before after reading reply step told missed on =
    record { file = None; step = step; told = tt; missed = missed; goes_on = on }
with_none (Some files) before after reading reply step told missed on =
    record { file = None; step = step; told = sym told; missed = missed; goes_on = on }

-- a line that is none of the language asks for no file
pub with_no_command : (files : Option Files) (before after : Moment) (reply : Reply)
    → Step before.state Bad None reply after.state → before.misses ≤ after.misses → Serves files before Bad reply after
with_no_command None before after reply step on =
    record { file = None; step = step; told = tt; missed = tt; goes_on = on }
with_no_command (Some files) before after reply step on =
    record { file = None; step = step; told = refl; missed = tt; goes_on = on }

pub asks_spoken : (reading : Reading) → IsSome (asks_for reading) → is_silent reading ≡ false
asks_spoken Silent h = absurd cc
asks_spoken (Says command) h = refl
asks_spoken Bad h = absurd cc

-- Replies.

abbrev pub line_at : ℕ → List ℕ → Line
line_at n text = record { number = n; text = text }

pub told_same : (old : Option (List ℕ)) → Told old (λ bytes. old ≡ Some bytes)
told_same None = tt
told_same (Some bytes) = refl

-- what was taken, with no byte behind it
pub took_none : (old new : Option (List ℕ)) → Told old (λ taken. new ≡ Some taken)
    → Told old (λ taken. new ≡ Some (taken ++ []))
took_none None new h = tt
took_none (Some taken) new h = h ∙ ap Some (sym (append-nil taken))

took_text : (old new : Option (List ℕ)) (text : List ℕ) → Told old (λ taken. new ≡ Some (taken ++ text))
    → Told old (λ taken. new ≡ Some (taken ++ (text ++ [])))
took_text None new text h = tt
took_text (Some taken) new text h = h ∙ ap (λ (t : List ℕ). Some (taken ++ t)) (sym (append-nil text))

if_same : (b : Bool) → (if b then true else false) ≡ b
if_same true = refl
if_same false = refl

one_reported : (files : Option Files) (old new : Option (List ℕ)) (before after : Moment) (n : ℕ) (text : List ℕ)
    (reply : Reply) (refused : Bool) → Serves files before (reading_of text) reply after →
    Told old (λ taken. new ≡ Some (taken ++ reply_text n reply)) → refused ≡ is_refusal reply
    → IsUtf8 (reply_text n reply) → Reported files old new before (line_at n text ∷ []) after refused
one_reported files old new before after n text reply refused serves taken r utf8 = record {
  replies = reply ∷ [];
  run = (after, serves, refl);
  took = took_text old new (reply_text n reply) taken;
  status = if_same (is_refusal reply) ∙ sym r;
  text = IsUtf8-append (reply_text n reply) [] utf8 IsUtf8-nil;
}

-- a line was served and its reply taken
pub reply_reported : (files : Option Files) (old new : Option (List ℕ)) (before after : Moment) (n : ℕ) (text : List ℕ)
    (reply : Reply) (refused : Bool) → Answers files before (reading_of text) (Some reply) after →
    Told old (λ taken. new ≡ Some (taken ++ reply_text n reply)) → refused ≡ is_refusal reply
    → IsUtf8 (reply_text n reply) → Reported files old new before (spoken_from n (text ∷ [])) after refused
reply_reported files old new before after n text reply refused answers taken r utf8 =
    rw answers.0 (one_reported files old new before after n text reply refused answers.1 taken r utf8)

-- no line was served
pub none_reported : (files : Option Files) (old : Option (List ℕ)) (before after : Moment) → after ≡ before
    → Reported files old old before [] after false
none_reported files old before after e =
    record { replies = []; run = e; took = took_none old old (told_same old); status = refl; text = IsUtf8-nil }

pub silent_reported : (files : Option Files) (old : Option (List ℕ)) (before after : Moment) (n : ℕ) (text : List ℕ)
    → Answers files before (reading_of text) None after
    → Reported files old old before (spoken_from n (text ∷ [])) after false
silent_reported files old before after n text answers = rw answers.0 (none_reported files old before after answers.1)

-- Cuts.

-- memory was short before anything was taken
pub nothing_more : (files : Option Files) (old new : Option (List ℕ)) (before : Moment) (lines : List Line) (misses : ℕ)
    → Told old (λ taken. new ≡ Some taken) → before.misses ≤ misses
    → ReportedInPart files old new before lines misses Memory
nothing_more files old new before lines misses same on = record {
  done = [];
  rest = lines;
  parts = refl;
  replies = [];
  middle = before;
  run = refl;
  ends = on;
  cut = [];
  took = took_none old new same;
  next = refl;
}

one_unread : (files : Option Files) (old : Option (List ℕ)) (before : Moment) (n : ℕ) (text : List ℕ) (misses : ℕ)
    → IsSome (asks_for (reading_of text)) → before.misses ≤ misses
    → ReportedInPart files old old before (line_at n text ∷ []) misses ReadFault
one_unread files old before n text misses asks on = record {
  done = [];
  rest = line_at n text ∷ [];
  parts = refl;
  replies = [];
  middle = before;
  run = refl;
  ends = on;
  cut = [];
  took = took_none old old (told_same old);
  next = (refl, asks);
}

-- a line's file couldn't be read, or memory was short
pub unread : (files : Option Files) (old : Option (List ℕ)) (before : Moment) (n : ℕ) (text : List ℕ) (misses : ℕ)
    (status : Status) →
    ((status ≡ ReadFault) × IsSome (asks_for (reading_of text))) ⊎ (status ≡ Memory) → before.misses ≤ misses
    → ReportedInPart files old old before (spoken_from n (text ∷ [])) misses status
unread files old before n text misses status (inl h) on =
    subst (ReportedInPart files old old before (spoken_from n (text ∷ [])) misses) (sym h.0)
    (rw (asks_spoken (reading_of text) h.1) (one_unread files old before n text misses h.1 on))
unread files old before n text misses status (inr e) on =
    subst (ReportedInPart files old old before (spoken_from n (text ∷ [])) misses) (sym e)
    (nothing_more files old old before (spoken_from n (text ∷ [])) misses (told_same old) on)

record Counted (old new : Option (List ℕ)) (text : List ℕ) : Type 0 where
  pub count : ℕ
  pub took : Told old (λ taken. new ≡ Some (taken ++ take count text))

counted : (old new : Option (List ℕ)) (text : List ℕ)
    → Told old (λ taken. (count : ℕ) × (new ≡ Some (taken ++ take count text))) → Counted old new text
counted None new text h = record { count = 0; took = tt }
counted (Some taken) new text h = record { count = h.0; took = h.1 }

one_unwritten : (files : Option Files) (old new : Option (List ℕ)) (before after : Moment) (n : ℕ) (text : List ℕ)
    (reply : Reply) → Serves files before (reading_of text) reply after →
    Told old (λ taken. (count : ℕ) × (new ≡ Some (taken ++ take count (reply_text n reply))))
    → ReportedInPart files old new before (line_at n text ∷ []) after.misses WriteFault
one_unwritten files old new before after n text reply serves taken =
    let c = counted old new (reply_text n reply) taken in
    record {
      done = [];
      rest = line_at n text ∷ [];
      parts = refl;
      replies = [];
      middle = before;
      run = refl;
      ends = serves.goes_on;
      cut = take c.count (reply_text n reply);
      took = c.took;
      next = (reply, after, serves, c.count, refl);
    }

-- a reply couldn't be written, or memory was short
pub unwritten : (files : Option Files) (old new : Option (List ℕ)) (before after : Moment) (n : ℕ) (text : List ℕ)
    (reply : Reply) (status : Status) → (status ≡ WriteFault) ⊎ (status ≡ Memory) →
    Answers files before (reading_of text) (Some reply) after
    → (status ≡ WriteFault
    → Told old (λ taken. (count : ℕ) × (new ≡ Some (taken ++ take count (reply_text n reply)))))
    → (status ≡ Memory → Told old (λ taken. new ≡ Some taken)) →
    ReportedInPart files old new before (spoken_from n (text ∷ [])) after.misses status
unwritten files old new before after n text reply status (inl e) answers write memory =
    subst (ReportedInPart files old new before (spoken_from n (text ∷ [])) after.misses) (sym e)
    (rw answers.0 (one_unwritten files old new before after n text reply answers.1 (write e)))
unwritten files old new before after n text reply status (inr e) answers write memory =
    subst (ReportedInPart files old new before (spoken_from n (text ∷ [])) after.misses) (sym e)
    (nothing_more files old new before (spoken_from n (text ∷ [])) after.misses (memory e) answers.1.goes_on)
