use Rattle.std.proofs.Common.{◌≡◌, ◌∙◌, ◌+◌, arith, ap, sym}
use Rattle.name_binder.specs.Parameters.{operands_of, parameter_count}
use Rattle.name_binder.proofs.Operands.{count_append, few_counted}
use Rattle.name_binder.proofs.raw_operands.test_count.Goals as goal

pub returns-clause-few : goal.returns-clause-few
returns-clause-few c =
    let front = c.operands.result.0.now in
    let back = c.operands.result.1.now in
    let all : parameter_count front + parameter_count back ≡ parameter_count (operands_of c.args.test.now) =
    sym (count_append front back) ∙ ap parameter_count c.operands.ensures in
    let few = few_counted c.args.test.now c.requires in
    omega (arith, all, few, c.parameter_count-first.ensures.value, c.parameter_count-second.ensures.value)
