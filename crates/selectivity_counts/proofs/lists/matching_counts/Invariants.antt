use Rattle.std.proofs.Common.{◌≡◌, map, take}
use Rattle.csv_tables.specs.StatementTables.{rows_in, tables_in}
use Rattle.statement_meaning.specs.Combinations.{rows_at}
use Rattle.statement_statistics.specs.Statistics.{matching_count}
use Rattle.selectivity_counts.proofs.lists.matching_counts.Given as goal

-- the counts of the predicates so far
abbrev pub invariant-loop-pred : goal.invariant-loop-pred
invariant-loop-pred l =
    l.counts.items ≡ map (λ pred. matching_count pred (rows_at (rows_in (tables_in l.tables)) pred.at.place))
    (take l.pred-index l.pred-items)
