-- The items of the report of a run.
use Rattle.std.specs.Prelude.{ℕ, ◌≡◌, ◌<◌, ◌^◌, ◌==◌, List, [], ◌∷◌, ◌++◌, length, if◌then◌else◌}
use Rattle.outside_model.specs.Files.{Files}
use Rattle.row_values.specs.declared.refusals.Refusal.{Refusal}
use Rattle.row_values.specs.declared.refusals.TheConstants.{TOO_MANY_ROWS}
use Rattle.script_report.specs.declared.replies.Reply.{Reply}
use Rattle.script_report.specs.declared.replies.Reply.TheVariants.{Closed, Evicted, Fetched, Indexed, Loaded}
use Rattle.script_report.specs.declared.replies.Reply.TheVariants.{Opened, Prepared, Ran, Refused, Shown, Spent}
use Rattle.report_items.specs.Items.{items_of}
use Rattle.report_items.specs.declared.items.ReportItem.{ReportItem}
use Rattle.report_items.specs.declared.items.ReportItem.TheVariants.{TooLarge}
use Rattle.session_model.specs.Run.{Line, Run, report_text, spoken_lines}
use Rattle.session_model.specs.Session.{AreSettings}
use Rattle.session_model.specs.declared.settings.Settings.{Settings}
use Rattle.reported_items.specs.Reported.{block_told}

-- a refusal is an item where the line had too many rows
abbrev pub refused_items : ℕ → Refusal → List ReportItem
refused_items line why = if why.code == TOO_MANY_ROWS then TooLarge line ∷ [] else []

-- the items of a reply: an execution, or that there were too many rows
abbrev pub reply_items : ℕ → Reply → List ReportItem
reply_items line (Ran execution rows) = block_told line execution ∷ []
reply_items line (Opened cursor execution) = block_told line execution ∷ []
reply_items line (Refused why) = refused_items line why
reply_items line (Loaded table rows columns) = []
reply_items line (Indexed table column) = []
reply_items line (Prepared name tables predicates parameters) = []
reply_items line (Fetched cursor rows left) = []
reply_items line (Closed cursor) = []
reply_items line (Evicted name plan anchors) = []
reply_items line (Shown name plans anchors) = []
reply_items line Spent = []

-- the items of all replies, in order
abbrev pub run_items : List Line → List Reply → List ReportItem
run_items [] replies = []
run_items (line ∷ lines) [] = []
run_items (line ∷ lines) (reply ∷ replies) = reply_items line.number reply ++ run_items lines replies

-- the report of a run tells its executions and the lines that had too many rows, in order, and nothing else
abbrev pub RunItemsLaw : Type 0
RunItemsLaw =
    (settings : Settings) (files : Files) (script : List ℕ) (replies : List Reply) → AreSettings settings
    → length script < 2 ^ 62 → Run settings files script replies
    → items_of (report_text (spoken_lines script) replies) ≡ run_items (spoken_lines script) replies
