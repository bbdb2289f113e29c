use Rattle.std.proofs.Common.{◌∙◌, ap, sym, append-nil}
use Rattle.demo_script.specs.Draws.{next}
use Rattle.demo_script.proofs.Rows.{after_none, after_one, a_rows_none, a_goes_on}
use Rattle.demo_script.proofs.tables.push_a_rows.Goals as goal

pub loop-before-init : goal.loop-before-init
loop-before-init c = record { rows = rw a_rows_none (sym (append-nil _)); draws = sym (after_none _) }

pub loop-before-preserved : goal.loop-before-preserved
loop-before-preserved c = record {
  rows = a_goes_on _ _ _ c.loop-before.before _ c.loop-before.draws c.below-zone.new.self c.below-zone.result
      c.below-zone.ensures.next c.below-zone.ensures.value
      c.in_ok-push_two.ensures c.loop-before.invariant.rows c.loop-before.invariant.draws;
  draws = c.below-zone.ensures.next ∙ (ap next c.loop-before.invariant.draws ∙ sym (after_one _ _));
}
