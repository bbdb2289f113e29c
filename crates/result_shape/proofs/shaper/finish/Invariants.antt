use Rattle.std.proofs.Common.{take}
use Rattle.csv_tables.specs.StatementTables.{tables_in}
use Rattle.result_shape.specs.Rows.{StandsFor}
use Rattle.result_shape.proofs.shaper.finish.Given as goal

-- the shaper stands for the combinations so far
abbrev pub invariant-loop-combo : goal.invariant-loop-combo
invariant-loop-combo l = StandsFor l.q (tables_in l.tables) l.shaper (take l.combo-index l.combo-items)
