use Rattle.std.proofs.Common.{length}
use Rattle.csv_tables.specs.StatementTables.{tables_in}
use Rattle.session_engine.proofs.Taking.{HasTaken}
use Rattle.session_engine.proofs.shaping.shaped.Given as goal

abbrev pub invariant-loop-shaper : goal.invariant-loop-shaper
invariant-loop-shaper l = HasTaken l.q (tables_in l.tables) l.shaper l.fn.pull l.pull

abbrev pub decreases-loop-shaper : goal.decreases-loop-shaper
decreases-loop-shaper l = length l.pull
