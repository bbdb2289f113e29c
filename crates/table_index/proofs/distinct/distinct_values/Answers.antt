use Rattle.std.proofs.Common.{◌∙◌}
use Rattle.table_index.proofs.ColumnCells.{distinct_of_numbers}
use Rattle.table_index.proofs.distinct.distinct_values.Goals as goal

pub returns-in_ok-count-in-Some : goal.returns-in_ok-count-in-Some
returns-in_ok-count-in-Some c =
    let numbers = rw c.from.ensures at c.in-Some.ensures.value in
    c.in_ok-count-in-Some.ensures ∙ distinct_of_numbers c.args.t.now c.args.column c.in-Some.numbers.now numbers
