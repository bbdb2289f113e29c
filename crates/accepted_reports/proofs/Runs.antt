-- The walk over the report of a run, line by line.
use Rattle.std.proofs.Common.{ℕ, ◌≡◌, ◌≤◌, ◌<◌, ◌+◌, ◌^◌, List, [], ◌∷◌, length, Option, Ok, ap₂}
use Rattle.std.proofs.Common.{refl, subst, arith}
use Rattle.outside_model.specs.Files.{Files}
use Rattle.script_report.specs.Commands.{Bad, Reading, Says, Silent, reading_of}
use Rattle.script_report.specs.declared.commands.Command.{Command}
use Rattle.script_report.specs.declared.commands.Command.TheVariants.{Close, Cursor, Evict, Fetch, Index, Load}
use Rattle.script_report.specs.declared.commands.Command.TheVariants.{Prepare, Run, Show}
use Rattle.script_report.specs.declared.replies.Reply.{Reply}
use Rattle.script_report.specs.declared.replies.Reply.TheVariants.{Closed, Evicted, Fetched, Indexed, Loaded}
use Rattle.script_report.specs.declared.replies.Reply.TheVariants.{Opened, Prepared, Ran, Refused, Shown, Spent}
use Rattle.report_items.specs.declared.items.ReportItem.{ReportItem}
use Rattle.reported_items.specs.RunItems.{run_items}
use Rattle.certificate_check.specs.declared.entries.Entry.{Entry}
use Rattle.session_model.specs.Run.{IsChain, Line}
use Rattle.session_model.specs.Run.{StepOver as SessionStepOver}
use Rattle.session_model.specs.Session.{IsSession}
use Rattle.session_model.specs.State.{State}
use Rattle.session_model.specs.Step.{CommandStep, Step, file_of}
use Rattle.session_model.proofs.Sessions.{kept}
use Rattle.session_bound.specs.Bound.{AreBounded, IsBoundedReply}
use Rattle.session_bound.specs.Ledger.{ledger_after}
use Rattle.report_verifier.specs.Verification.{StepOver, Verifies}
use Rattle.report_verifier.specs.Walk.{CommandStep as WalkCommandStep, Step as WalkStep}
use Rattle.report_verifier.specs.declared.rejections.Verification.{Verification}
use Rattle.report_verifier.specs.declared.rejections.Verification.TheVariants.{Verified}
use Rattle.accepted_reports.specs.Accepted.{executed, executed_by, too_large, too_large_by}
use Rattle.accepted_reports.proofs.DatedLedgers.{AreDated}
use Rattle.accepted_reports.proofs.Instances.{cursor_walked, run_walked}
use Rattle.accepted_reports.proofs.OtherLines.{close_walked, evict_walked, fetch_walked, index_walked, load_walked}
use Rattle.accepted_reports.proofs.OtherLines.{prepare_walked, show_walked}
use Rattle.accepted_reports.proofs.Walked.{IsWalked, refused, walk_in}

module _ (ledger : List Entry) (count : ℕ) (later : List ReportItem) (line : ℕ) (old new : State) (reply : Reply)
    (session : IsSession old) (dated : AreDated old.executions ledger) (small : old.executions < 2 ^ 63)
    (bounded : IsBoundedReply old ledger reply) where
  command_walked : (command : Command) (file : Option (List ℕ)) → CommandStep old command file reply new
      → IsWalked (λ walk outcome. WalkCommandStep walk line command file outcome) ledger count later line old new reply
  command_walked (Load table name) file step = load_walked ledger count later line old new reply table file step
  command_walked (Index table column) file step = index_walked ledger count later line old new reply table column step
  command_walked (Prepare name select) file step =
      prepare_walked ledger count later line old new reply name select step
  command_walked (Run name args) file step =
      run_walked ledger count later line old new reply session dated small bounded name args step
  command_walked (Cursor cursor name args) file step =
      cursor_walked ledger count later line old new reply session dated small bounded cursor name args step
  command_walked (Fetch cursor rows) file step = fetch_walked ledger count later line old new reply cursor rows step
  command_walked (Close cursor) file step = close_walked ledger count later line old new reply cursor step
  command_walked (Evict name plan) file step = evict_walked ledger count later line old new reply name plan step
  command_walked (Show name) file step = show_walked ledger count later line old new reply name step

  step_walked : (reading : Reading) (file : Option (List ℕ)) → Step old reading file reply new
      → IsWalked (λ walk outcome. WalkStep walk line reading file outcome) ledger count later line old new reply
  unfolding Step WalkStep
  step_walked Silent file step = absurd step
  step_walked (Says command) file step = command_walked command file step
  step_walked Bad file step =
      refused (λ walk outcome. outcome ≡ Ok walk) ledger count later line _ old new reply refl step refl

pub verified_as : (a b c d : ℕ) → a ≡ c → b ≡ d → (P : Verification → Type 0) → P (Verified a b) → P (Verified c d)
verified_as a b c d e f P h = subst P (ap₂ Verified e f) h

at_most_one : (reply : Reply) → executed_by reply ≤ 1
at_most_one (Ran execution rows) = omega arith
at_most_one (Opened cursor execution) = omega arith
at_most_one (Refused why) = omega arith
at_most_one (Loaded table rows columns) = omega arith
at_most_one (Indexed table column) = omega arith
at_most_one (Prepared name tables predicates parameters) = omega arith
at_most_one (Fetched cursor rows left) = omega arith
at_most_one (Closed cursor) = omega arith
at_most_one (Evicted name plan anchors) = omega arith
at_most_one (Shown name plans anchors) = omega arith
at_most_one Spent = omega arith

-- from a state of a session, with as many executions to come as there are lines at most
pub verified_from : (files : Files) (ledger : List Entry) (count : ℕ) (old : State) (lines : List Line)
    (replies : List Reply) (new : State) (chain : IsChain (SessionStepOver files) old lines replies new)
    → IsSession old → AreDated old.executions ledger → old.executions + length lines < 2 ^ 63
    → AreBounded (λ (state : State). state) (SessionStepOver files) ledger old lines replies new chain
    → Verifies (StepOver files) (walk_in old ledger count (run_items lines replies)) lines
    (Verified (old.executions + executed replies) (count + too_large replies))
verified_from files ledger count old [] [] new chain session dated small bounded =
    verified_as old.executions count (old.executions + 0) (count + 0) (omega arith) (omega arith)
    (λ result. result ≡ Verified old.executions count) refl
verified_from files ledger count old (line ∷ lines) (reply ∷ replies) new chain session dated small bounded =
    let middle : State = chain.0 in
    let reading : Reading = reading_of line.text in
    let file : Option (List ℕ) = file_of files reading in
    let few : old.executions < 2 ^ 63 = omega (arith, small) in
    let walked = step_walked ledger count (run_items lines replies) line.number old middle reply session dated few
    bounded.0 reading file chain.1 in
    let counted = walked.counted in
    let executions = walked.executions in
    let one = at_most_one reply in
    let next : middle.executions + length lines < 2 ^ 63 = omega (arith, small, executions, one) in (
      Ok (walk_in middle (ledger_after old.catalog.statements reply ledger) walked.count_then
          (run_items lines replies)),
      walked.step,
      verified_as (middle.executions + executed replies) (walked.count_then + too_large replies)
          (old.executions + (executed_by reply + executed replies)) (count + (too_large_by reply + too_large replies))
          (omega (arith, executions)) (omega (arith, counted))
          (λ result. Verifies (StepOver files)
          (walk_in middle (ledger_after old.catalog.statements reply ledger) walked.count_then
          (run_items lines replies))
          lines result)
          (verified_from files (ledger_after old.catalog.statements reply ledger) walked.count_then
          middle lines replies
          new chain.2 (kept old line.text file reply middle session chain.1)
          (walked.dated dated) next bounded.1),
    )
verified_from files ledger count old [] (reply ∷ replies) new chain session dated small bounded = absurd chain
verified_from files ledger count old (line ∷ lines) [] new chain session dated small bounded = absurd chain
