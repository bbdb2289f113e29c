use Rattle.std.proofs.Common.{◌≡◌, ◌∙◌, ap, arith, length, sym}
use Rattle.statement_statistics.specs.Statistics.{distinct_count}
use Rattle.selectivity_counts.proofs.ByPlace.{numbered_next}
use Rattle.selectivity_counts.proofs.distincts.Distincts.of.Goals as goal

pub loop-column-preserved : goal.loop-column-preserved
loop-column-preserved c =
    let more = numbered_next (distinct_count c.args.t.now.rows) c.args.t.now.schema c.loop-column.column
    (omega (
      arith,
      c.loop-column-test.true,
      ap length c.columns-items.ensures.value,
      ap length c.schema.ensures.value,
    )) in
    let count : c.in_ok-distinct_values.field-0 ≡ distinct_count c.args.t.now.rows c.loop-column.column =
    c.in_ok-distinct_values.ensures in
    c.in_ok-push.ensures.items ∙ rw (c.loop-column.invariant, count) (sym more)
