use Rattle.std.proofs.Common.{◌≡◌, drop}
use Rattle.plan_trees.specs.Reading as reads
use Rattle.plan_trees.proofs.reading.read_place.Given as goal

-- the places that are left decide
abbrev pub invariant-loop-i : goal.invariant-loop-i
invariant-loop-i l =
    reads.first_at l.end l.i (reads.alias_words (drop l.i l.places)) l.text
    ≡ reads.first_at l.end 0 (reads.alias_words l.places) l.text
