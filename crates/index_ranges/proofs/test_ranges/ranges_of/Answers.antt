use Rattle.std.proofs.Common.{◌∙◌, ap, arith, length}
use Rattle.csv_tables.specs.Tables.{cell_at}
use Rattle.statement_meaning.specs.Conditions.{meets}
use Rattle.index_ranges.specs.Ranges.{rows_between}
use Rattle.index_ranges.proofs.Misfits.{none_pass}
use Rattle.index_ranges.proofs.TakenRows.{not_one_of}
use Rattle.index_ranges.proofs.test_ranges.ranges_of.Goals as goal

pub returns-in_default-ends : goal.returns-in_default-ends
returns-in_default-ends c = record {
  rows =
      ap (rows_between c.args.index.now.rows) c.none-ranges.ensures
      ∙ none_pass (λ row. meets c.args.args.now c.args.test.now (cell_at c.args.t.now row c.args.index.now.column))
      (λ row. c.in_default-ends.ensures.none (not_one_of c.args.test.now c.in_default.not-OneOf)
      (cell_at c.args.t.now row c.args.index.now.column)) c.args.index.now.rows;
  in_range = λ k d l. absurd (omega (arith, l, ap length c.none-ranges.ensures));
}
