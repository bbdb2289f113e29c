use Rattle.std.proofs.Common.{◌∙◌, arith}
use Rattle.csv_tables.proofs.Sound.{cell_refused}
use Rattle.csv_tables.proofs.read.read_shaped.Goals as goal

pub returns-in-Some-bad_cell-clause-fault : goal.returns-in-Some-bad_cell-clause-fault
returns-in-Some-bad_cell-clause-fault c _ =
    cell_refused c.args.bytes.now c.args.headings.now c.args.row_count c.in_ok-whole.whole
    (c.in-Some-bad_cell.number, c.in-Some-bad_cell.column) c.in_ok-whole.ensures.survey
    (c.in_ok-whole.ensures.count ∙ omega arith) c.in-Some-bad_cell.is
