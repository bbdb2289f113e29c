use Rattle.std.proofs.Common.{◌≡◌, ◌-◌}
use Rattle.plan_trees.specs.Reading as reads
use Rattle.plan_trees.proofs.reading.read_number.Given as goal

-- the numbers that are left decide
abbrev pub invariant-loop-number : goal.invariant-loop-number
invariant-loop-number l =
    reads.first_at l.end l.number (reads.number_words l.number (l.count - l.number)) l.text
    ≡ reads.first_at l.end 0 (reads.number_words 0 l.count) l.text
