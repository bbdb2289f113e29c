use Rattle.std.proofs.Common.{[], get_or, ◌∙◌}
use Rattle.std.specs.Prelude.{slice_get}
use Rattle.row_tests.proofs.PackedTests.{packed_meets}
use Rattle.row_tests.proofs.predicate_tests.packed_test.Goals as goal

pub returns-clause-value : goal.returns-clause-value
returns-clause-value c = λ row.
    let packed = rw c.from.ensures at c.in_ok-numbers.ensures in
    rw c.range.ensures
    (packed_meets c.in_ok-test.test c.args.table.now c.args.pred.now.at.column c.in_ok-numbers.numbers.now packed row
    ∙ c.in_ok-test.ensures.value (slice_get (get_or c.args.table.now.rows row []) c.args.pred.now.at.column))
