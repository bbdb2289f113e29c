use Rattle.std.proofs.Common.{arith}
use Rattle.csv_tables.specs.Tables.{cell_at}
use Rattle.statement_meaning.specs.Conditions.{meets}
use Rattle.index_ranges.proofs.TakenRows.{counted_more}
use Rattle.index_ranges.proofs.test_ranges.count_in_ranges.Goals as goal

pub overflow_add-count : goal.overflow_add-count
overflow_add-count c =
    let more = counted_more
    (λ row. meets c.args.args.now c.args.test.now (cell_at c.args.t.now row c.args.index.now.column))
    c.args.index.now.rows c.rows.result.now c.ranges_of-ranges.result c.as_slice-range-items.result.now
    c.loop-range.range-index c.loop-range.count (0, 0) c.rows.ensures c.as_slice-range-items.ensures
    c.ranges_of-ranges.ensures.rows c.loop-range-test.true c.loop-range.invariant in
    omega (arith, more.0, more.1)

pub loop-range-preserved : goal.loop-range-preserved
loop-range-preserved c =
    (counted_more (λ row. meets c.args.args.now c.args.test.now (cell_at c.args.t.now row c.args.index.now.column))
    c.args.index.now.rows c.rows.result.now c.ranges_of-ranges.result c.as_slice-range-items.result.now
    c.loop-range.range-index c.loop-range.count (0, 0) c.rows.ensures c.as_slice-range-items.ensures
    c.ranges_of-ranges.ensures.rows c.loop-range-test.true c.loop-range.invariant).0
