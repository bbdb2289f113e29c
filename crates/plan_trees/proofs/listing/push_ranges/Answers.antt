use Rattle.plan_trees.proofs.ListLaws.{gains_nothing, gains_then, range_next, no_range}
use Rattle.plan_trees.proofs.listing.push_ranges.Goals as goal

pub loop-number-init : goal.loop-number-init
loop-number-init c = gains_nothing _ _ _ (λ access wanted valid. absurd (no_range _ access wanted))

pub loop-number-preserved : goal.loop-number-preserved
loop-number-preserved c = gains_then _ _ _ _ _ _ _ c.loop-number.invariant c.in_ok-push_range.ensures (range_next _ _)
