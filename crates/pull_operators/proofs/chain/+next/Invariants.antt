use Rattle.std.proofs.Common.{◌≡◌, ◌+◌, ◌*◌, length}
use Rattle.std.specs.Prelude.{All}
use Rattle.pull_operators.specs.StillToCome.{IsReadyJoin, IsReadyPulled, Takes, above, joins_in, pulled_to_come}
use Rattle.pull_operators.proofs.chain.+next.Given as goal

abbrev pub decreases-next_of : goal.decreases-next_of
decreases-next_of l = 2 * joins_in l.pulled.now

abbrev pub decreases-next_joined : goal.decreases-next_joined
decreases-next_joined l = 2 * joins_in l.below.now + 1

-- nothing is lost between a combination that makes no more and the next one
abbrev pub invariant-next_joined-loop-made : goal.invariant-next_joined-loop-made
invariant-next_joined-loop-made l =
    IsReadyPulled l.below × IsReadyJoin l.top × All (Takes l.top) (pulled_to_come l.below)
    × (joins_in l.below ≡ joins_in l.initial.below)
    × (above l.initial.top (pulled_to_come l.initial.below) ≡ above l.top (pulled_to_come l.below))

abbrev pub decreases-next_joined-loop-made : goal.decreases-next_joined-loop-made
decreases-next_joined-loop-made l = length (pulled_to_come l.below)
