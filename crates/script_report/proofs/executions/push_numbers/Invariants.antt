use Rattle.std.proofs.Common.{◌≡◌, ◌++◌, drop, string_bytes}
use Rattle.script_report.specs.Executions.{numbers_text}
use Rattle.script_report.proofs.executions.push_numbers.Given as goal

-- what is written, and the numbers that are left
abbrev pub invariant-loop-number : goal.invariant-loop-number
invariant-loop-number l =
    string_bytes l.text ++ numbers_text (drop l.number-index l.numbers)
    ≡ string_bytes l.fn.text ++ numbers_text l.numbers
