-- The report of a whole run is verified.
use Rattle.std.proofs.Common.{ℕ, ◌<◌, ◌+◌, ◌^◌, List, [], length, refl, sym, subst, arith}
use Rattle.outside_model.specs.Files.{Files}
use Rattle.script_report.specs.Commands.{reading_of}
use Rattle.script_report.specs.declared.replies.Reply.{Reply}
use Rattle.report_items.specs.declared.items.ReportItem.{ReportItem}
use Rattle.reported_items.specs.RunItems.{RunItemsLaw, run_items}
use Rattle.session_model.specs.Run.{Run, StepOver, spoken_lines}
use Rattle.session_model.specs.Session.{AreSettings}
use Rattle.session_model.specs.State.{State, initial_state}
use Rattle.session_model.specs.Step.{file_of}
use Rattle.session_model.specs.declared.settings.Settings.{Settings}
use Rattle.session_model.proofs.Sessions.{first}
use Rattle.session_bound.proofs.Bounded.{bounded_along}
use Rattle.report_verifier.specs.Verification.{Verifies}
use Rattle.report_verifier.specs.Verification.{StepOver as WalkOver}
use Rattle.report_verifier.specs.Walk.{first_walk}
use Rattle.report_verifier.specs.declared.rejections.Verification.TheVariants.{Verified}
use Rattle.accepted_reports.specs.Accepted.{AcceptedLaw, executed, too_large}
use Rattle.accepted_reports.proofs.Runs.{verified_as, verified_from}
use Rattle.accepted_reports.proofs.ScriptLines.{few_lines}

-- the walk over the run's items, from the first
walked : (settings : Settings) (files : Files) (script : List ℕ) (replies : List Reply) → AreSettings settings
    → length script < 2 ^ 62 → Run settings files script replies
    → Verifies (WalkOver files)
    (first_walk settings.lambda settings.weights (run_items (spoken_lines script) replies)) (spoken_lines script)
    (Verified (executed replies) (too_large replies))
walked settings files script replies are short run =
    let few = few_lines script in
    let old : State = initial_state settings in
    verified_as (0 + executed replies) (0 + too_large replies) (executed replies) (too_large replies) (omega arith)
    (omega arith)
    (λ result. Verifies (WalkOver files)
    (first_walk settings.lambda settings.weights (run_items (spoken_lines script) replies))
    (spoken_lines script) result)
    (verified_from files [] 0 old (spoken_lines script) replies run.end run.steps (first settings are) tt
    (omega (arith, few, short))
    (bounded_along (λ (state : State). state) (StepOver files)
    (λ before line reply next step. (file_of files (reading_of line.text), step)) settings are old
    (spoken_lines script) replies run.end run.steps refl))

-- the run's items are those of its report
pub written_accepted : RunItemsLaw → AcceptedLaw
written_accepted items settings files script replies are short run =
    subst (λ (read : List ReportItem). Verifies (WalkOver files) (first_walk settings.lambda settings.weights read)
    (spoken_lines script) (Verified (executed replies) (too_large replies)))
    (sym (items settings files script replies are short run))
    (walked settings files script replies are short run)
