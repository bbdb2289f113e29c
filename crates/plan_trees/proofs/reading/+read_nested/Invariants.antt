use Rattle.plan_trees.proofs.reading.+read_nested.Given as goal

-- each plan inside takes one of the room
abbrev pub decreases-read_nested : goal.decreases-read_nested
decreases-read_nested l = l.room
