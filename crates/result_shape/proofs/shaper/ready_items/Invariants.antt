use Rattle.std.proofs.Common.{◌≡◌, map, take}
use Rattle.std.specs.Prelude.{All}
use Rattle.csv_tables.specs.StatementTables.{rows_in, tables_in}
use Rattle.result_shape.specs.Tallies.{IsReadyItem}
use Rattle.result_shape.proofs.shaper.ready_items.Given as goal

-- the items so far, ready
abbrev pub invariant-loop-item : goal.invariant-loop-item
invariant-loop-item l = record {
  items : map (λ one. one.item) l.ready.items ≡ take l.item-index l.items;
  ready : All (IsReadyItem (rows_in (tables_in l.tables))) l.ready.items;
}
