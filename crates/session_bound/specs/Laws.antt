-- The law of the bound.
use Rattle.std.specs.Prelude.{ℕ, List, [], Option}
use Rattle.script_report.specs.Commands.{reading_of}
use Rattle.script_report.specs.declared.replies.Reply.{Reply}
use Rattle.session_model.specs.Run.{Line, IsChain}
use Rattle.session_model.specs.Session.{AreSettings}
use Rattle.session_model.specs.State.{State, initial_state}
use Rattle.session_model.specs.Step.{Step}
use Rattle.session_model.specs.declared.settings.Settings.{Settings}
use Rattle.session_bound.specs.Bound.{AreBounded}

-- a step of a line, over whatever file
abbrev pub TakesStep : State → Line → Reply → State → Type 0
TakesStep old line reply new = (file : Option (List ℕ)) × Step old (reading_of line.text) file reply new

-- along every chain of steps from a first state each execution is within the bound
abbrev pub BoundLaw : Type 0
BoundLaw =
    (settings : Settings) → AreSettings settings → (lines : List Line) (replies : List Reply) (new : State)
    (chain : IsChain TakesStep (initial_state settings) lines replies new)
    → AreBounded (λ state. state) TakesStep [] (initial_state settings) lines replies new chain
