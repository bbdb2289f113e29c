use Rattle.std.proofs.Common.{sym}
use Rattle.row_values.proofs.Fitting.{test_fits, front_fits, back_fits}
use Rattle.row_values.proofs.statement.is_test.Goals as goal

pub returns-then-are_operands : goal.returns-then-are_operands
returns-then-are_operands c =
    let same = c.operands.ensures.value in (
      λ yes. test_fits c.args.left c.args.test.now _ _ same c.operands.ensures.count
          (c.are_operands.ensures.0 c.if-are_operands.true) (c.are_operands-then-are_operands.ensures.0 yes),
      λ is. c.are_operands-then-are_operands.ensures.1 (back_fits c.args.left c.args.test.now _ _ same is),
    )

pub returns-else-are_operands : goal.returns-else-are_operands
returns-else-are_operands c =
    let same = c.operands.ensures.value in (
      λ yes. let no = c.if-are_operands.false in cc,
      λ is. c.are_operands.ensures.1 (front_fits c.args.left c.args.test.now _ _ same is),
    )
