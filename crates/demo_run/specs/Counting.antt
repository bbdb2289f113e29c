-- What serving some lines of the demo leaves.
use Rattle.std.specs.Prelude.{ℕ, ◌≡◌, List, true, false, Option, Some, None}
use Rattle.demo_script.specs.Summary.{Counts, counts_of}
use Rattle.demo_script.specs.Tables.{demo_files}
use Rattle.script_report.specs.Commands.{Reading}
use Rattle.script_report.specs.declared.replies.Reply.{Reply}
use Rattle.session_model.specs.Run.{IsChain, StepOver, is_silent, spoken_from}
use Rattle.session_model.specs.State.{State}
use Rattle.session_model.specs.Step.{Step, file_of}

-- a line that says this is silent and changes nothing, or this reply is its step
abbrev pub Answers : State → Reading → Option Reply → State → Type 0
Answers old reading None new = (is_silent reading ≡ true) × (new ≡ old)
Answers old reading (Some reply) new =
    (is_silent reading ≡ false) × Step old reading (file_of demo_files reading) reply new

-- these lines lead from the first state to the last, and the counts are those of their replies
pub record Counted (first : State) (texts : List (List ℕ)) (last : State) (counts : Counts) : Type 0 where
  pub replies : List Reply
  pub run : IsChain (StepOver demo_files) first (spoken_from 1 texts) replies last
  pub told : counts ≡ counts_of replies
