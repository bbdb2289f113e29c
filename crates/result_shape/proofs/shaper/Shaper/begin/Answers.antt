use Rattle.std.proofs.Common.{refl, ◌∙◌}
use Rattle.csv_tables.specs.StatementTables.{rows_in, tables_in}
use Rattle.result_shape.proofs.shaper.Shaper.begin.Goals as goal

pub returns : goal.returns
returns c = record {
  tables_are = refl;
  ready = record {
    keys_are =
        rw (c.as_slice.ensures.value, c.in_ok-columns.ensures, c.groups.ensures.value) at c.in_ok-keys.ensures;
    items_are = c.in_ok-items.ensures.items ∙ c.items.ensures.value;
    columns = c.in_ok-items.ensures.ready;
  };
  combos = λ e. c.new.ensures.items;
  groups =
      λ l. rw c.as_slice-2.ensures.value at (c.no_groups-groups.ensures c.args.q.now
      (rows_in (tables_in c.args.tables.now)) c.in_ok-items.items.items);
}
