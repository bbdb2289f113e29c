use Rattle.std.proofs.Common.{◌∙◌, Some}
use Rattle.std.specs.Ordering.{is_eq, is_ge, is_le}
use Rattle.std.specs.Prelude.{◌&&◌}
use Rattle.std.proofs.lemmas.List.Elements.{filter_agree}
use Rattle.csv_tables.specs.Tables.{cell_at}
use Rattle.row_values.specs.Orders.{compares}
use Rattle.plan_operators.proofs.KeyOrder.{closed_within}
use Rattle.plan_operators.proofs.index_join.rows_equal.Goals as goal

pub returns : goal.returns
returns c =
    rw c.rows.ensures
    (c.within-first.ensures.rows
    ∙ filter_agree
    (λ row. compares is_ge (cell_at c.args.table.now row c.args.index.now.column) (Some c.args.value.now)
    && compares is_le (cell_at c.args.table.now row c.args.index.now.column) (Some c.args.value.now))
    (λ row. compares is_eq (Some c.args.value.now) (cell_at c.args.table.now row c.args.index.now.column))
    (λ row. closed_within c.args.value.now (cell_at c.args.table.now row c.args.index.now.column))
    c.args.index.now.rows)
