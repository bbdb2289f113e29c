use Rattle.std.proofs.Common.{subst, sym}
use Rattle.plan_trees.specs.Lists.{IsAccessOf, IsListOf}
use Rattle.plan_trees.proofs.ListLaws.{gains_then, listed, step_kinds}
use Rattle.plan_trees.proofs.listing.steps.Goals as goal

pub returns : goal.returns
returns c =
    listed _ _ _ _ c.new-list.ensures.items
    (gains_then _ _ _ _ _ _ _ c.in_ok-push_loops.ensures c.in_ok-push_probes.ensures (λ step w. w))
    (step_kinds c.args.q.now c.args.ix.now _ _ _
    (subst (λ xs. IsListOf (IsAccessOf c.args.q.now c.args.ix.now c.args.place) xs) (sym c.deref.ensures.value)
    c.in_ok-accesses.ensures))
