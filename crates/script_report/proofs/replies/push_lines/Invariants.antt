use Rattle.std.proofs.Common.{◌≡◌, ◌++◌, drop, string_bytes}
use Rattle.script_report.specs.Replies.{lines_text}
use Rattle.script_report.proofs.replies.push_lines.Given as goal

-- what is written, and the lines that are left
abbrev pub invariant-loop-row : goal.invariant-loop-row
invariant-loop-row l =
    string_bytes l.text ++ lines_text (drop l.row-index l.rows) ≡ string_bytes l.fn.text ++ lines_text l.rows
