-- The replies of a run are plain, and its lines are numbered.
use Rattle.std.proofs.Common.{ℕ, ◌≤◌, ◌<◌, ◌+◌, ◌^◌, List, [], ◌∷◌, length, Bool, true, false, cond, arith}
use Rattle.std.specs.List.{AllByRecursion}
use Rattle.std.specs.Str.Lines.{lines}
use Rattle.outside_model.specs.Files.{Files}
use Rattle.script_report.specs.Commands.{reading_of}
use Rattle.script_report.specs.declared.replies.Reply.{Reply}
use Rattle.session_model.specs.Run.{IsChain, Line, Run, StepOver, is_silent, spoken_from, spoken_lines}
use Rattle.session_model.specs.Session.{AreSettings, IsSession}
use Rattle.session_model.specs.State.{State, initial_state}
use Rattle.session_model.specs.Step.{file_of}
use Rattle.session_model.specs.declared.settings.Settings.{Settings}
use Rattle.session_model.proofs.Sessions.{first, kept}
use Rattle.reported_items.proofs.KeptNames.{AreKeptNames}
use Rattle.reported_items.proofs.LineCommands.{reads_lines}
use Rattle.reported_items.proofs.PlainReplies.{ArePlainReplies}
use Rattle.reported_items.proofs.PlainSteps.{plain_step}
use Rattle.reported_items.proofs.ScriptLines.{IsLineOne, line_count, script_count, script_one}
use Rattle.reported_items.specs.RunItems.{RunItemsLaw}
use Rattle.reported_items.proofs.PlainItems.{AreLineNumbers, plain_report}

spoken_numbers : (number : ℕ) (texts : List (List ℕ)) → 1 ≤ number → number + length texts ≤ 2 ^ 63
    → AreLineNumbers (spoken_from number texts)
spoken_numbers number [] some few = tt
spoken_numbers number (text ∷ texts) some few =
    by_test (is_silent (reading_of text))
    (spoken_numbers (number + 1) texts (omega arith) (omega (arith, few)))
  where
    by_test : (test : Bool) → AreLineNumbers (spoken_from (number + 1) texts)
        → AreLineNumbers (cond test (spoken_from (number + 1) texts)
        ((record { number = number; text = text }) ∷ spoken_from (number + 1) texts))
    by_test true later = later
    by_test false later = (record { positive = some; small = omega (arith, few) }, later)

-- the first state has no names
none_kept : (settings : Settings) → AreKeptNames (initial_state settings)
none_kept settings = record { tables = tt; statements = tt; cursors = tt }

-- along a chain
chain_is_plain : (files : Files) (old : State) (lines : List Line) (replies : List Reply) (new : State)
    → AllByRecursion IsLineOne lines → IsSession old → AreKeptNames old → old.executions + length lines < 2 ^ 63
    → IsChain (StepOver files) old lines replies new → ArePlainReplies lines replies
chain_is_plain files old [] replies new ones session names few chain = tt
chain_is_plain files old (line ∷ lines) [] new ones session names few chain = tt
chain_is_plain files old (line ∷ lines) (reply ∷ replies) new ones session names few chain =
    let step = plain_step old chain.0 (reading_of line.text) (file_of files (reading_of line.text)) reply
    (reads_lines line.text ones.0) session names (omega (arith, few)) chain.1 in
    let count : chain.0.executions ≤ old.executions + 1 = step.count in (
      step.plain,
      chain_is_plain files chain.0 lines replies new ones.1
          (kept old line.text (file_of files (reading_of line.text)) reply chain.0 session chain.1) step.kept
          (omega (arith, few, count)) chain.2,
    )

-- the replies of a run are plain
pub run_is_plain : (settings : Settings) → AreSettings settings → (files : Files) (script : List ℕ)
    (replies : List Reply) → length script < 2 ^ 62 → Run settings files script replies
    → ArePlainReplies (spoken_lines script) replies
run_is_plain settings are files script replies small run =
    let count = script_count script in
    chain_is_plain files (initial_state settings) (spoken_lines script) replies run.end (script_one script)
    (first settings are) (none_kept settings) (omega (arith, count, small)) run.steps

-- and its lines are numbered
pub run_is_numbered : (script : List ℕ) → length script < 2 ^ 62 → AreLineNumbers (spoken_lines script)
run_is_numbered script small =
    let few = line_count script in spoken_numbers 1 (lines script) (omega arith) (omega (arith, few, small))

-- the report of a run tells its executions and the lines that had too many rows
pub run_items_read : RunItemsLaw
run_items_read settings files script replies are short run =
    plain_report (spoken_lines script) replies (run_is_numbered script short)
    (run_is_plain settings are files script replies short run)
