use Rattle.std.proofs.Common.{◌∙◌, arith}
use Rattle.row_tests.specs.NumberTests.{number_holds}
use Rattle.statement_meaning.specs.Conditions.{holds}
use Rattle.selectivity_counts.proofs.Matching.{no_more, numbers_match}
use Rattle.selectivity_counts.proofs.counts.count_rows.Goals as goal

pub returns-in-Some : goal.returns-in-Some
returns-in-Some c =
    let value = c.count_numbers.ensures
    ∙ numbers_match (number_holds c.in-Some.range.test) (holds c.args.args.now c.args.pred.now)
    c.in-Some.numbers.now c.args.table.now.rows c.in-Some.ensures.one_each c.in-Some.ensures.value in
    record {
      value = value;
      bound = omega (arith, value, no_more (holds c.args.args.now c.args.pred.now) c.args.table.now.rows);
    }

pub returns-in-None-clause-bound : goal.returns-in-None-clause-bound
returns-in-None-clause-bound c =
    omega (
      arith,
      c.count_cells.ensures,
      no_more (holds c.args.args.now c.args.pred.now) c.args.table.now.rows,
    )
