-- The report: how each reply is spelled.
use Rattle.std.specs.Prelude.{ℕ, List, [], ◌∷◌, ◌++◌, codes, length, ◌==◌, if◌then◌else◌, unwrap_or}
use Rattle.std.specs.Fmt.{decimal}
use Rattle.row_values.specs.Names.{canonical_name}
use Rattle.row_values.specs.Refusals.{refusal_words}
use Rattle.row_values.specs.declared.refusals.Refusal.{Refusal}
use Rattle.script_report.specs.declared.replies.Execution.{Execution}
use Rattle.script_report.specs.declared.replies.Reply.{Reply}
use Rattle.script_report.specs.declared.replies.Reply.TheVariants.{Loaded, Indexed, Prepared, Ran, Opened, Fetched}
use Rattle.script_report.specs.declared.replies.Reply.TheVariants.{Closed, Evicted, Shown, Refused, Spent}
use Rattle.script_report.specs.declared.shown.ShownAnchor.{ShownAnchor}
use Rattle.script_report.specs.declared.shown.ShownPlan.{ShownPlan}
use Rattle.script_report.specs.Executions.{execution_text}
use Rattle.script_report.specs.Shown.{plans_text, anchors_text}

-- `L loaded T rows R columns K`
abbrev pub loaded_text : ℕ → List ℕ → ℕ → ℕ → List ℕ
loaded_text line table rows columns =
    decimal line ++ (codes " loaded "
    ++ (canonical_name table ++ (codes " rows "
    ++ (decimal rows ++ (codes " columns " ++ (decimal columns ++ codes "\n"))))))

-- `L indexed T COL`
abbrev pub indexed_text : ℕ → List ℕ → List ℕ → List ℕ
indexed_text line table column =
    (((decimal line ++ codes " indexed ") ++ canonical_name table) ++ codes " ") ++ canonical_name column ++ codes "\n"

-- `L prepared NAME tables M predicates K parameters J`
abbrev pub prepared_text : ℕ → List ℕ → ℕ → ℕ → ℕ → List ℕ
prepared_text line name tables predicates parameters =
    decimal line ++ (codes " prepared "
    ++ (canonical_name name ++ (codes " tables "
    ++ (decimal tables ++ (codes " predicates "
    ++ (decimal predicates ++ (codes " parameters " ++ (decimal parameters ++ codes "\n"))))))))

-- a line for each row
abbrev pub lines_text : List (List ℕ) → List ℕ
lines_text [] = []
lines_text (row ∷ rows) = (row ++ codes "\n") ++ lines_text rows

-- `L ran NAME execution E`, the execution, the rows, `end R`
abbrev pub ran_text : ℕ → Execution → List (List ℕ) → List ℕ
ran_text line e rows =
    decimal line ++ (codes " ran "
    ++ (execution_text e ++ (lines_text rows ++ (codes "end " ++ (decimal (length rows) ++ codes "\n")))))

-- `L opened CUR NAME execution E`, the execution, `end`
abbrev pub opened_text : ℕ → List ℕ → Execution → List ℕ
opened_text line cursor e =
    decimal line ++ (codes " opened "
    ++ (canonical_name cursor ++ (codes " " ++ (execution_text e ++ codes "end\n"))))

-- `L fetched CUR`, the rows, `end R left M`
abbrev pub fetched_text : ℕ → List ℕ → List (List ℕ) → ℕ → List ℕ
fetched_text line cursor rows left =
    decimal line ++ (codes " fetched "
    ++ (canonical_name cursor ++ (codes "\n"
    ++ (lines_text rows
    ++ (codes "end " ++ (decimal (length rows) ++ (codes " left " ++ (decimal left ++ codes "\n"))))))))

-- `L closed CUR`
abbrev pub closed_text : ℕ → List ℕ → List ℕ
closed_text line cursor = decimal line ++ (codes " closed " ++ (canonical_name cursor ++ codes "\n"))

-- `L evicted NAME plan P anchors A`
abbrev pub evicted_text : ℕ → List ℕ → ℕ → ℕ → List ℕ
evicted_text line name plan anchors =
    decimal line ++ (codes " evicted "
    ++ (canonical_name name
    ++ (codes " plan " ++ (decimal plan ++ (codes " anchors " ++ (decimal anchors ++ codes "\n"))))))

-- `L shown NAME plans P anchors A`, the plans, the anchors, `end`
abbrev pub shown_text : ℕ → List ℕ → List ShownPlan → List ShownAnchor → List ℕ
shown_text line name plans anchors =
    decimal line ++ (codes " shown "
    ++ (canonical_name name
    ++ (codes " plans " ++ (decimal (length plans)
    ++ (codes " anchors " ++ (decimal (length anchors)
    ++ (codes "\n" ++ (plans_text plans ++ (anchors_text anchors ++ codes "end\n")))))))))

-- a space and what a refusal shows, where it shows something
abbrev pub shown_behind : List ℕ → List ℕ
shown_behind shown = if length shown == 0 then codes "\n" else codes " " ++ (shown ++ codes "\n")

-- `L refused C WORDS SHOWN`
abbrev pub refused_text : ℕ → Refusal → List ℕ
refused_text line refusal =
    decimal line ++ (codes " refused "
    ++ (decimal refusal.code ++ (codes " "
    ++ (unwrap_or (refusal_words refusal.code) [] ++ shown_behind refusal.shown))))

-- the lines of a reply to the line of this number
abbrev pub reply_text : ℕ → Reply → List ℕ
reply_text line (Loaded table rows columns) = loaded_text line table rows columns
reply_text line (Indexed table column) = indexed_text line table column
reply_text line (Prepared name tables predicates parameters) = prepared_text line name tables predicates parameters
reply_text line (Ran execution rows) = ran_text line execution rows
reply_text line (Opened cursor execution) = opened_text line cursor execution
reply_text line (Fetched cursor rows left) = fetched_text line cursor rows left
reply_text line (Closed cursor) = closed_text line cursor
reply_text line (Evicted name plan anchors) = evicted_text line name plan anchors
reply_text line (Shown name plans anchors) = shown_text line name plans anchors
reply_text line (Refused refusal) = refused_text line refusal
reply_text line Spent = []
