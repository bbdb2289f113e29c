-- The report of a run, as the walk over reports sees it.
use Rattle.std.specs.Prelude.{ℕ, ◌<◌, ◌^◌, ◌+◌, ◌==◌, List, [], ◌∷◌, length, if◌then◌else◌}
use Rattle.outside_model.specs.Files.{Files}
use Rattle.row_values.specs.declared.refusals.TheConstants.{TOO_MANY_ROWS}
use Rattle.script_report.specs.declared.replies.Reply.{Reply}
use Rattle.script_report.specs.declared.replies.Reply.TheVariants.{Closed, Evicted, Fetched, Indexed, Loaded}
use Rattle.script_report.specs.declared.replies.Reply.TheVariants.{Opened, Prepared, Ran, Refused, Shown, Spent}
use Rattle.session_model.specs.Run.{Run, report_text, spoken_lines}
use Rattle.session_model.specs.Session.{AreSettings}
use Rattle.session_model.specs.declared.settings.Settings.{Settings}
use Rattle.report_verifier.specs.Verification.{IsVerification}
use Rattle.report_verifier.specs.declared.rejections.Verification.TheVariants.{Verified}

-- whether a reply is an execution: 1 or 0
abbrev pub executed_by : Reply → ℕ
executed_by (Ran execution rows) = 1
executed_by (Opened cursor execution) = 1
executed_by (Refused why) = 0
executed_by (Loaded table rows columns) = 0
executed_by (Indexed table column) = 0
executed_by (Prepared name tables predicates parameters) = 0
executed_by (Fetched cursor rows left) = 0
executed_by (Closed cursor) = 0
executed_by (Evicted name plan anchors) = 0
executed_by (Shown name plans anchors) = 0
executed_by Spent = 0

-- whether a reply says that there were too many rows: 1 or 0
abbrev pub too_large_by : Reply → ℕ
too_large_by (Refused why) = if why.code == TOO_MANY_ROWS then 1 else 0
too_large_by (Ran execution rows) = 0
too_large_by (Opened cursor execution) = 0
too_large_by (Loaded table rows columns) = 0
too_large_by (Indexed table column) = 0
too_large_by (Prepared name tables predicates parameters) = 0
too_large_by (Fetched cursor rows left) = 0
too_large_by (Closed cursor) = 0
too_large_by (Evicted name plan anchors) = 0
too_large_by (Shown name plans anchors) = 0
too_large_by Spent = 0

-- how many of the replies are executions
abbrev pub executed : List Reply → ℕ
executed [] = 0
executed (reply ∷ replies) = executed_by reply + executed replies

-- how many say that there were too many rows
abbrev pub too_large : List Reply → ℕ
too_large [] = 0
too_large (reply ∷ replies) = too_large_by reply + too_large replies

-- the report of a run is verified over the same script and files, with the same lambda and weights
abbrev pub AcceptedLaw : Type 0
AcceptedLaw =
    (settings : Settings) (files : Files) (script : List ℕ) (replies : List Reply) → AreSettings settings
    → length script < 2 ^ 62 → Run settings files script replies
    → IsVerification settings.lambda settings.weights files script (report_text (spoken_lines script) replies)
    (Verified (executed replies) (too_large replies))
