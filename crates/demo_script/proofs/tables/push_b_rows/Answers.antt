use Rattle.std.proofs.Common.{sym, append-nil}
use Rattle.demo_script.proofs.Rows.{after_none, two_draws, b_rows_none, b_goes_on}
use Rattle.demo_script.proofs.tables.push_b_rows.Goals as goal

pub loop-before-init : goal.loop-before-init
loop-before-init c = record { rows = rw b_rows_none (sym (append-nil _)); draws = sym (after_none _) }

pub loop-before-preserved : goal.loop-before-preserved
loop-before-preserved c = record {
  rows = b_goes_on _ _ _ c.loop-before.before _ c.loop-before.draws c.below-aid.new.self c.below-day.new.self
      c.below-aid.result c.below-day.result
      c.below-aid.ensures.next c.below-aid.ensures.value c.below-day.ensures.next c.below-day.ensures.value
      c.in_ok-push_three.ensures c.loop-before.invariant.rows c.loop-before.invariant.draws;
  draws = two_draws _ _ _ c.below-aid.new.self _ c.below-aid.ensures.next c.below-day.ensures.next
      c.loop-before.invariant.draws;
}
