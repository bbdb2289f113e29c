use Rattle.std.proofs.Common.{◌<◌, arith, length}
use Rattle.std.proofs.lemmas.Option.{slice_get-get_or}
use Rattle.plan_trees.proofs.ListLaws.{gains_nothing, loops_more, no_loop}
use Rattle.plan_trees.proofs.listing.push_loops.Goals as goal

pub loop-access-init : goal.loop-access-init
loop-access-init c = gains_nothing _ _ _ (λ step wanted valid. absurd (no_loop _ step wanted))

pub loop-access-preserved : goal.loop-access-preserved
loop-access-preserved c =
    let less : c.loop-access.access-index < length c.args.accesses.now = omega arith in
    loops_more c.args.q.now c.args.ix.now c.args.set c.args.place _ _ _ _ _ _ c.requires less
    (slice_get-get_or c.args.accesses.now c.loop-access.access-index _ less) c.loop-access.invariant
    c.in_ok-push_step.ensures
