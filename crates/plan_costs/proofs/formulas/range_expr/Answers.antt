use Rattle.std.proofs.Common.{arith, ◌<◌, ◌∙◌, sym}
use Rattle.row_values.specs.Statements.{selectivity_count}
use Rattle.plan_costs.proofs.StepParts.{count_before}
use Rattle.plan_costs.proofs.formulas.range_expr.Goals as goal

pub overflow_cast-next : goal.overflow_cast-next
overflow_cast-next c =
    let less : c.selectivity_count-next.result < selectivity_count c.args.q.now.preds =
    rw (c.selectivity_count-next.ensures.value, c.from.ensures, c.preds.ensures.value)
    (count_before c.args.q.now.preds c.args.pred (sym c.is_selected.ensures ∙ c.if-is_selected.true)) in
    let few = c.preds.ensures.sound.few_selectivities in
    omega arith
