use Rattle.std.proofs.Common.{◌≡◌, ◌++◌, drop, take}
use Rattle.script_report.specs.Parts as parts
use Rattle.script_report.proofs.parts.first_part.Given as goal

-- no blank so far
abbrev pub invariant-loop-i : goal.invariant-loop-i
invariant-loop-i l = take l.i l.text ++ parts.first_part (drop l.i l.text) ≡ parts.first_part l.text
