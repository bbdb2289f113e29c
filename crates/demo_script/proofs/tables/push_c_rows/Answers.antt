use Rattle.std.proofs.Common.{sym, append-nil}
use Rattle.demo_script.proofs.Rows.{after_none, two_draws, c_rows_none, c_goes_on}
use Rattle.demo_script.proofs.tables.push_c_rows.Goals as goal

pub loop-before-init : goal.loop-before-init
loop-before-init c = record { rows = rw c_rows_none (sym (append-nil _)); draws = sym (after_none _) }

pub loop-before-preserved : goal.loop-before-preserved
loop-before-preserved c = record {
  rows = c_goes_on _ _ _ c.loop-before.before _ c.loop-before.draws c.below-bid.new.self c.below-qty.new.self
      c.below-bid.result c.below-qty.result
      c.below-bid.ensures.next c.below-bid.ensures.value c.below-qty.ensures.next c.below-qty.ensures.value
      c.in_ok-push_two.ensures c.loop-before.invariant.rows c.loop-before.invariant.draws;
  draws = two_draws _ _ _ c.below-bid.new.self _ c.below-bid.ensures.next c.below-qty.ensures.next
      c.loop-before.invariant.draws;
}
