use Rattle.std.proofs.Common.{◌≡◌, map, take}
use Rattle.std.specs.Rc.{rc_value}
use Rattle.csv_tables.specs.StatementTables.{tables_in}
use Rattle.selectivity_counts.specs.Kept.{distinct_counts}
use Rattle.selectivity_counts.proofs.distincts.distincts_of.Given as goal

-- the counts of the tables so far
abbrev pub invariant-loop-table : goal.invariant-loop-table
invariant-loop-table l =
    map rc_value l.lists.items ≡ map distinct_counts (tables_in (take l.table-index l.tables))
