use Rattle.plan_trees.proofs.ListLaws.{gains_nothing, gains_then, full_next, no_full}
use Rattle.plan_trees.proofs.listing.push_fulls.Goals as goal

pub loop-column-init : goal.loop-column-init
loop-column-init c = gains_nothing _ _ _ (λ access wanted valid. absurd (no_full _ access wanted))

pub loop-column-preserved : goal.loop-column-preserved
loop-column-preserved c = gains_then _ _ _ _ _ _ _ c.loop-column.invariant c.in_ok-push_access.ensures (full_next _ _)
