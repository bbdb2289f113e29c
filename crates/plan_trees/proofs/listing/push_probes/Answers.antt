use Rattle.plan_trees.proofs.ListLaws.{gains_nothing, gains_then, probe_next, no_probe}
use Rattle.plan_trees.proofs.listing.push_probes.Goals as goal

pub loop-edge-init : goal.loop-edge-init
loop-edge-init c = gains_nothing _ _ _ (λ step wanted valid. absurd (no_probe _ step wanted))

pub loop-edge-preserved : goal.loop-edge-preserved
loop-edge-preserved c = gains_then _ _ _ _ _ _ _ c.loop-edge.invariant c.in_ok-push_step.ensures (probe_next _ _)
