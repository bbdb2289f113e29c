-- What a probe of an index finds for a combination.
use Rattle.std.specs.Prelude.{ℕ, List, [], filter, slice_get, slice_index_or}
use Rattle.std.specs.Ordering.{is_eq}
use Rattle.row_values.specs.Orders.{compares}
use Rattle.csv_tables.specs.Tables.{cell_at}
use Rattle.row_tests.specs.Ready.{all_hold}
use Rattle.plan_operators.specs.declared.index_join.Probe.{Probe}

-- the rows, in the order of the index, whose cell equals the combination's key, those that meet the predicates
abbrev pub probed : Probe → List ℕ → List ℕ
probed probe c =
    filter (all_hold probe.args.now probe.table.now probe.ready.now)
    (filter (λ row. compares is_eq
    (slice_get (slice_index_or probe.key_table.now.rows (slice_index_or c probe.key.place 0) []) probe.key.column)
    (cell_at probe.table.now row probe.index.now.column)) probe.index.now.rows)
