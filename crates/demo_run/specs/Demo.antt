-- What the program's demo tells.
use Rattle.std.specs.Prelude.{ℕ, ◌≡◌, List}
use Rattle.demo_script.specs.Script.{demo_script, show_line}
use Rattle.demo_script.specs.Summary.{demo_text}
use Rattle.demo_script.specs.Tables.{demo_files}
use Rattle.script_report.specs.Commands.{reading_of}
use Rattle.script_report.specs.declared.replies.Reply.{Reply}
use Rattle.session_model.specs.Run.{IsChain, StepOver, spoken_from}
use Rattle.session_model.specs.State.{State, initial_state}
use Rattle.session_model.specs.Step.{Step, file_of}
use Rattle.session_model.specs.declared.settings.Settings.{Settings}

-- the step of a line over the demo's files
abbrev pub StepOfLine : State → List ℕ → Reply → State → Type 0
StepOfLine old text reply new = Step old (reading_of text) (file_of demo_files (reading_of text)) reply new

-- the demo's script with so many runs, run from the first state of these settings, and a `show` stepped behind it
pub record DemoRun (settings : Settings) (runs : ℕ) (replies : List Reply) (shown : Reply) : Type 0 where
  pub end : State
  pub steps : IsChain (StepOver demo_files) (initial_state settings) (spoken_from 1 (demo_script runs)) replies end
  pub last : State
  pub shows : StepOfLine end show_line shown last

-- the text is the summary of such a run
pub record TellsDemo (settings : Settings) (runs : ℕ) (text : List ℕ) : Type 0 where
  pub replies : List Reply
  pub shown : Reply
  pub run : DemoRun settings runs replies shown
  pub told : text ≡ demo_text replies shown
