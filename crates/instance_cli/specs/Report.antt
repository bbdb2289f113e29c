-- What serving the lines of a script leaves: a run, and its report in the sink.
use Rattle.std.specs.Prelude.{ℕ, ◌≡◌, ◌≤◌, List, [], ◌∷◌, ◌++◌, take, Bool, Option, Some, None, IsSome}
use Rattle.std.specs.Str.{IsUtf8}
use Rattle.outside_model.specs.Causes.{Rose}
use Rattle.outside_model.specs.declared.TheConstants.{SCRIPT_LIMIT}
use Rattle.outside_model.specs.Files.{Files, Told}
use Rattle.outside_model.specs.Outside.{Outside}
use Rattle.script_report.specs.Commands.{Reading, reading_of}
use Rattle.script_report.specs.Replies.{reply_text}
use Rattle.script_report.specs.declared.replies.Reply.{Reply}
use Rattle.session_model.specs.Run.{Line, IsChain, spoken_lines, report_text, some_refusal}
use Rattle.session_model.specs.State.{initial_state}
use Rattle.session_model.specs.Step.{Step, asks_for, file_of}
use Rattle.session_model.specs.declared.settings.Settings.{Settings}
use Rattle.session_bound.specs.Bound.{AreBounded}
use Rattle.instance_cli.specs.Moments.{Moment, state_at}
use Rattle.instance_cli.specs.Outsides.{Took}
use Rattle.instance_cli.specs.Texts.{IsText, unmarked}
use Rattle.instance_cli.specs.declared.outcome.Status.{Status}
use Rattle.instance_cli.specs.declared.outcome.Status.TheVariants as status

-- Lines.

-- a file that a line asks for is none only where misses rose
abbrev pub IsMissed : Option (List ℕ) → Option (List ℕ) → ℕ → ℕ → Type 0
IsMissed (Some bytes) asked before after = Unit {0}
IsMissed None None before after = Unit {0}
IsMissed None (Some name) before after = Rose before after

-- a line that says this was served: the reply is its step over a file or none, which is the one of the files where they
-- are told, and is missing only where misses rose meanwhile
pub record Serves (files : Option Files) (before : Moment) (reading : Reading) (reply : Reply)
    (after : Moment) : Type 0 where
  pub file : Option (List ℕ)
  pub step : Step before.state reading file reply after.state
  pub told : Told files (λ told. file ≡ file_of told reading)
  pub missed : IsMissed file (asks_for reading) before.misses after.misses
  pub goes_on : before.misses ≤ after.misses

abbrev pub ServesLine : Option Files → Moment → Line → Reply → Moment → Type 0
ServesLine files before line reply after = Serves files before (reading_of line.text) reply after

-- Scripts.

-- the bytes of a script that is run: few enough, and a text
abbrev pub IsScript : List ℕ → Type 0
IsScript bytes = IsText SCRIPT_LIMIT bytes

-- the first state of a session with these settings, once the script was fetched
pub record Starts (settings : Settings) (before : Outside) (first : Moment) : Type 0 where
  pub state : first.state ≡ initial_state settings
  pub misses : before.misses ≤ first.misses

-- the script of these bytes was run with these settings: all of its lines were served, what was taken is their report,
-- which is a text, and some reply is a refusal or none
pub record ReportsRun (settings : Settings) (bytes : List ℕ) (before after : Outside) (refused : Bool) : Type 0 where
  pub script : IsScript bytes
  pub replies : List Reply
  pub first : Moment
  pub last : Moment
  pub starts : Starts settings before first
  pub run : IsChain (ServesLine before.files) first (spoken_lines (unmarked bytes)) replies last
  pub bound : AreBounded state_at (ServesLine before.files) [] first (spoken_lines (unmarked bytes)) replies last run
  pub ends : last.misses ≤ after.misses
  pub took : Took before after (report_text (spoken_lines (unmarked bytes)) replies)
  pub status : some_refusal replies ≡ refused
  pub text : IsUtf8 (report_text (spoken_lines (unmarked bytes)) replies)

-- Cuts.

-- the next line asks for a file
abbrev pub NextAsks : List Line → Type 0
NextAsks [] = ⊥
NextAsks (line ∷ lines) = IsSome (asks_for (reading_of line.text))

-- these are the first bytes of the next reply
abbrev pub IsOfNextReply : List Line → List Reply → List ℕ → Type 0
IsOfNextReply [] replies cut = ⊥
IsOfNextReply (line ∷ lines) [] cut = ⊥
IsOfNextReply (line ∷ lines) (reply ∷ replies) cut = (count : ℕ) × (cut ≡ take count (reply_text line.number reply))

-- what was taken of the next reply, by the status: nothing where a read failed or memory was short, and a read fails
-- only where the next line asks for a file; the first bytes, where a write failed
abbrev pub EndsWith : Status → List Line → List Reply → List ℕ → Type 0
EndsWith status.ReadFault lines replies cut = (cut ≡ []) × NextAsks lines
EndsWith status.WriteFault lines replies cut = IsOfNextReply lines replies cut
EndsWith status.Memory lines replies cut = cut ≡ []
EndsWith status.Done lines replies cut = ⊥
EndsWith status.DoneRefused lines replies cut = ⊥
EndsWith status.Usage lines replies cut = ⊥
EndsWith status.Missing lines replies cut = ⊥
EndsWith status.TooLong lines replies cut = ⊥
EndsWith status.NotText lines replies cut = ⊥
EndsWith status.Rejected lines replies cut = ⊥
EndsWith status.BadWeights lines replies cut = ⊥

-- the script of these bytes was cut short: its first lines were served and their replies taken whole, then perhaps the
-- beginning of the next one; and the run goes on from there over the other lines
pub record ReportsPrefix (settings : Settings) (bytes : List ℕ) (before after : Outside) (result : Status)
    : Type 0 where
  pub script : IsScript bytes
  pub done : List Line
  pub rest : List Line
  pub parts : spoken_lines (unmarked bytes) ≡ done ++ rest
  pub first : Moment
  pub middle : Moment
  pub last : Moment
  pub replies : List Reply
  pub others : List Reply
  pub starts : Starts settings before first
  pub run : IsChain (ServesLine before.files) first done replies middle
  pub bound : AreBounded state_at (ServesLine before.files) [] first done replies middle run
  pub ends : middle.misses ≤ after.misses
  pub goes_on : IsChain (ServesLine before.files) middle rest others last
  pub cut : List ℕ
  pub took : Took before after (report_text done replies ++ cut)
  pub next : EndsWith result rest others cut
