use Rattle.std.proofs.Common.{arith, ◌<◌, ◌∙◌, sym}
use Rattle.row_values.specs.Statements.{selectivity_count}
use Rattle.plan_costs.proofs.StepParts.{count_before}
use Rattle.plan_costs.proofs.accesses.rows_met.Goals as goal

pub offset_bounds-s-selectivity_count : goal.offset_bounds-s-selectivity_count
offset_bounds-s-selectivity_count c =
    let less : c.selectivity_count.result < selectivity_count c.args.q.now.preds =
    rw (c.selectivity_count.ensures.value, c.from.ensures, c.preds.ensures.value)
    (count_before c.args.q.now.preds c.args.pred (sym c.is_selected.ensures ∙ c.if-is_selected.true)) in
    let few = c.preds.ensures.sound.few_selectivities in
    omega arith

pub bounds-s-selectivity_count : goal.bounds-s-selectivity_count
bounds-s-selectivity_count c =
    let less : c.selectivity_count.result < selectivity_count c.args.q.now.preds =
    rw (c.selectivity_count.ensures.value, c.from.ensures, c.preds.ensures.value)
    (count_before c.args.q.now.preds c.args.pred (sym c.is_selected.ensures ∙ c.if-is_selected.true)) in
    let each = c.requires.vector.one_each in
    omega arith
