use Rattle.std.proofs.Common.{◌≡◌, drop}
use Rattle.script_report.specs.Parts as parts
use Rattle.script_report.proofs.parts.after_part.Given as goal

-- no blank so far
abbrev pub invariant-loop-i : goal.invariant-loop-i
invariant-loop-i l = parts.after_part (drop l.i l.text) ≡ parts.after_part l.text
