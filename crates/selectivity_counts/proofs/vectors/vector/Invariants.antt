use Rattle.csv_tables.specs.StatementTables.{rows_in, tables_in}
use Rattle.selectivity_counts.proofs.Selectivities.{SoFar}
use Rattle.selectivity_counts.proofs.vectors.vector.Given as goal

abbrev pub invariant-loop-pred : goal.invariant-loop-pred
invariant-loop-pred l = SoFar (rows_in (tables_in l.tables)) l.args l.q.preds l.pred-index l.known l.numbers
