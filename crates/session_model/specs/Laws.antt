-- The laws on sessions, each a statement that a function of `laws` carries.
use Rattle.std.specs.Prelude.{ℕ, ◌≡◌, List, false, Option}
use Rattle.std.specs.Option.{option_map}
use Rattle.outside_model.specs.declared.TheConstants.{FILE_LIMIT}
use Rattle.outside_model.specs.Files.{Files, up_to}
use Rattle.script_report.specs.Commands.{Reading, reading_of}
use Rattle.script_report.specs.declared.replies.Reply.{Reply}
use Rattle.session_model.specs.Run.{Line, IsChain, StepOver, is_silent}
use Rattle.session_model.specs.Session.{AreSettings, IsSession}
use Rattle.session_model.specs.State.{State, initial_state}
use Rattle.session_model.specs.Step.{Step, CanStep}
use Rattle.session_model.specs.declared.settings.Settings.{Settings}

abbrev pub FirstStateLaw : Type 0
FirstStateLaw = (settings : Settings) → AreSettings settings → IsSession (initial_state settings)

-- kept by every step of a line
abbrev pub KeptLaw : Type 0
KeptLaw =
    (old : State) (text : List ℕ) (file : Option (List ℕ)) (reply : Reply) (new : State) → IsSession old
    → Step old (reading_of text) file reply new → IsSession new

abbrev pub RunLaw : Type 0
RunLaw =
    (files : Files) (old : State) (lines : List Line) (replies : List Reply) (new : State) → IsSession old
    → IsChain (StepOver files) old lines replies new → IsSession new

abbrev pub ProgressLaw : Type 0
ProgressLaw =
    (old : State) (reading : Reading) (file : Option (List ℕ)) → IsSession old → is_silent reading ≡ false
    → CanStep old reading file

-- a file that was cut behind its limit gives the step of the whole one
abbrev pub WholeFileLaw : Type 0
WholeFileLaw =
    (old : State) (reading : Reading) (file : Option (List ℕ)) (reply : Reply) (new : State)
    → Step old reading (option_map (up_to FILE_LIMIT) file) reply new → Step old reading file reply new
