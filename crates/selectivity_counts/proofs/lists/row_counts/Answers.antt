use Rattle.std.proofs.Common.{arith, ap, sym, take_all, length, ◌≡◌, ◌≤◌, ◌∙◌}
use Rattle.std.proofs.lemmas.List.Elements.{All-more}
use Rattle.csv_tables.specs.declared.table.TheConstants.{ROW_LIMIT}
use Rattle.statement_statistics.specs.Statistics.{row_count}
use Rattle.selectivity_counts.proofs.WidePlaces.{counts_are, counts_more, counts_of}
use Rattle.selectivity_counts.proofs.lists.row_counts.Goals as goal

pub loop-table-preserved : goal.loop-table-preserved
loop-table-preserved c =
    let one : c.max.result ≡ row_count c.table-item.result.value.rows =
    rw (c.max.ensures, c.len.ensures.value, c.deref.ensures) (omega arith) in
    record {
      value =
          c.in_ok-push.ensures.items
          ∙ rw c.loop-table.invariant.value (sym (counts_more c.args.tables.now c.loop-table.table-index c.max.result
          c.table-item.result c.loop-table-test.true c.table-item.is one));
      few =
          All-more (λ table. length table.value.rows ≤ ROW_LIMIT) c.args.tables.now c.loop-table.table-index
          c.table-item.result c.loop-table-test.true c.loop-table.invariant.few
          (rw (← c.table-item.is, ← c.deref.ensures) c.len.ensures.sound.few_rows);
    }

pub returns-clause-value : goal.returns-clause-value
returns-clause-value c =
    c.loop-table.invariant.value
    ∙ (ap counts_of (take_all c.loop-table.table-index c.args.tables.now c.loop-table-test.false)
    ∙ counts_are c.args.q.now c.args.tables.now c.requires)
