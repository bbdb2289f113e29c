-- A run of a script, and its report. A run takes the single step as it is, and looks into none of its cases.
use Rattle.std.specs.Prelude.{ℕ, ◌≡◌, ◌+◌, List, [], ◌∷◌, ◌++◌, Bool, true, false, if◌then◌else◌}
use Rattle.std.specs.Str.Lines.{lines}
use Rattle.outside_model.specs.Files.{Files}
use Rattle.script_report.specs.Commands.{Reading, Silent, Says, Bad, reading_of}
use Rattle.script_report.specs.Replies.{reply_text}
use Rattle.script_report.specs.declared.replies.Reply.{Reply}
use Rattle.script_report.specs.declared.replies.Reply.TheVariants as reply
use Rattle.session_model.specs.State.{State, initial_state}
use Rattle.session_model.specs.Step.{Step, file_of}
use Rattle.session_model.specs.declared.settings.Settings.{Settings}

-- a line and its number in the script
pub record Line : Type 0 where
  pub number : ℕ
  pub text : List ℕ

abbrev pub is_silent : Reading → Bool
is_silent Silent = true
is_silent (Says command) = false
is_silent Bad = false

-- the lines that are neither empty nor comments, the first of all having this number
abbrev pub spoken_from : ℕ → List (List ℕ) → List Line
spoken_from number [] = []
spoken_from number (text ∷ texts) =
    if is_silent (reading_of text) then spoken_from (number + 1) texts else
    (record { number = number; text = text }) ∷ spoken_from (number + 1) texts

-- the lines of a script that get a reply
abbrev pub spoken_lines : List ℕ → List Line
spoken_lines script = spoken_from 1 (lines script)

-- these replies to these lines lead from old to new: for each line one step of this relation, in order
abbrev pub IsChain : {A : Type 0} → (A → Line → Reply → A → Type 0) → A → List Line → List Reply → A → Type 0
IsChain Takes old [] [] new = new ≡ old
IsChain {A = A} Takes old (line ∷ lines) (reply ∷ replies) new =
    (middle : A) × Takes old line reply middle × IsChain Takes middle lines replies new
IsChain Takes old [] (reply ∷ replies) new = ⊥
IsChain Takes old (line ∷ lines) [] new = ⊥

-- the step of a line over these files
abbrev pub StepOver : Files → State → Line → Reply → State → Type 0
StepOver files old line reply new = Step old (reading_of line.text) (file_of files (reading_of line.text)) reply new

-- the texts of the replies, one after the other
abbrev pub report_text : List Line → List Reply → List ℕ
report_text [] replies = []
report_text (line ∷ lines) [] = []
report_text (line ∷ lines) (reply ∷ replies) = reply_text line.number reply ++ report_text lines replies

-- whether some reply is a refusal
abbrev pub is_refusal : Reply → Bool
is_refusal (reply.Refused refusal) = true
is_refusal (reply.Loaded table rows columns) = false
is_refusal (reply.Indexed table column) = false
is_refusal (reply.Prepared name tables predicates parameters) = false
is_refusal (reply.Ran execution rows) = false
is_refusal (reply.Opened cursor execution) = false
is_refusal (reply.Fetched cursor rows left) = false
is_refusal (reply.Closed cursor) = false
is_refusal (reply.Evicted name plan anchors) = false
is_refusal (reply.Shown name plans anchors) = false
is_refusal reply.Spent = false

abbrev pub some_refusal : List Reply → Bool
some_refusal [] = false
some_refusal (answer ∷ answers) = if is_refusal answer then true else some_refusal answers

-- a run over the whole script, from the first state of these settings
pub record Run (settings : Settings) (files : Files) (script : List ℕ) (replies : List Reply) : Type 0 where
  pub end : State
  pub steps : IsChain (StepOver files) (initial_state settings) (spoken_lines script) replies end
