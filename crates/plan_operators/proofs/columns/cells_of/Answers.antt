use Rattle.std.proofs.Common.{sym, ◌∙◌}
use Rattle.row_tests.proofs.PackedTests.{cell_of_row}
use Rattle.plan_operators.proofs.columns.cells_of.Goals as goal

pub returns-in-Some : goal.returns-in-Some
returns-in-Some c = λ row. sym (c.in-Some.ensures.value.cells row) ∙ cell_of_row c.args.table.now.rows row c.args.column
