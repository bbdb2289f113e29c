-- What serving some lines leaves, from whatever moment on.
use Rattle.std.specs.Prelude.{ℕ, ◌≡◌, ◌≤◌, List, [], ◌∷◌, ◌++◌, take, Bool, true, false, Option, Some, None}
use Rattle.std.specs.Str.{IsUtf8}
use Rattle.outside_model.specs.Files.{Files, Told}
use Rattle.script_report.specs.Commands.{Reading}
use Rattle.script_report.specs.Replies.{reply_text}
use Rattle.script_report.specs.declared.replies.Reply.{Reply}
use Rattle.session_model.specs.Run.{Line, IsChain, is_silent, report_text, some_refusal}
use Rattle.instance_cli.specs.Moments.{Moment}
use Rattle.instance_cli.specs.Report.{Serves, ServesLine, NextAsks}
use Rattle.instance_cli.specs.declared.outcome.Status.{Status}
use Rattle.instance_cli.specs.declared.outcome.Status.TheVariants as status

-- a line that says this is silent and changes nothing, or this reply serves it
abbrev pub Answers : Option Files → Moment → Reading → Option Reply → Moment → Type 0
Answers files before reading None after = (is_silent reading ≡ true) × (after ≡ before)
Answers files before reading (Some reply) after = (is_silent reading ≡ false) × Serves files before reading reply after

-- the lines were served, their report was taken, and some reply is a refusal or none
pub record Reported (files : Option Files) (old new : Option (List ℕ)) (first : Moment) (lines : List Line)
    (last : Moment) (refused : Bool) : Type 0 where
  pub replies : List Reply
  pub run : IsChain (ServesLine files) first lines replies last
  pub took : Told old (λ taken. new ≡ Some (taken ++ report_text lines replies))
  pub status : some_refusal replies ≡ refused
  pub text : IsUtf8 (report_text lines replies)

-- the next line was served, and the first bytes of its reply were taken
abbrev pub WritesInPart : Option Files → Moment → List Line → List ℕ → Type 0
WritesInPart files before [] cut = ⊥
WritesInPart files before (line ∷ lines) cut =
    (reply : Reply) × (after : Moment) × ServesLine files before line reply after
    × (count : ℕ) × (cut ≡ take count (reply_text line.number reply))

-- what was taken of the next reply
abbrev pub Stops : Status → Option Files → Moment → List Line → List ℕ → Type 0
Stops status.ReadFault files before lines cut = (cut ≡ []) × NextAsks lines
Stops status.WriteFault files before lines cut = WritesInPart files before lines cut
Stops status.Memory files before lines cut = cut ≡ []
Stops status.Done files before lines cut = ⊥
Stops status.DoneRefused files before lines cut = ⊥
Stops status.Usage files before lines cut = ⊥
Stops status.Missing files before lines cut = ⊥
Stops status.TooLong files before lines cut = ⊥
Stops status.NotText files before lines cut = ⊥
Stops status.Rejected files before lines cut = ⊥
Stops status.BadWeights files before lines cut = ⊥

-- the first of the lines were served and their report was taken, and this much of the next reply
pub record ReportedInPart (files : Option Files) (old new : Option (List ℕ)) (first : Moment) (lines : List Line)
    (misses : ℕ) (result : Status) : Type 0 where
  pub done : List Line
  pub rest : List Line
  pub parts : lines ≡ done ++ rest
  pub replies : List Reply
  pub middle : Moment
  pub run : IsChain (ServesLine files) first done replies middle
  pub ends : middle.misses ≤ misses
  pub cut : List ℕ
  pub took : Told old (λ taken. new ≡ Some (taken ++ (report_text done replies ++ cut)))
  pub next : Stops result files middle rest cut
