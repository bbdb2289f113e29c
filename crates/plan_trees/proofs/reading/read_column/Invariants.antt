use Rattle.std.proofs.Common.{◌≡◌, drop}
use Rattle.plan_trees.specs.Reading as reads
use Rattle.plan_trees.proofs.reading.read_column.Given as goal

-- the columns that are left decide
abbrev pub invariant-loop-i : goal.invariant-loop-i
invariant-loop-i l =
    reads.first_at l.end l.i (reads.column_words (drop l.i l.columns)) l.text
    ≡ reads.first_at l.end 0 (reads.column_words l.columns) l.text
