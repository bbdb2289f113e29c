use Rattle.plan_trees.proofs.ListLaws.{access_kinds, gains_then, listed}
use Rattle.plan_trees.proofs.listing.accesses.Goals as goal

pub returns : goal.returns
returns c =
    listed _ _ _ _ c.new-list.ensures.items
    (gains_then _ _ _ _ _ _ _ (gains_then _ _ _ _ _ _ _ c.in_ok-push_access.ensures c.in_ok-push_ranges.ensures
    (λ access w. w)) c.in_ok-push_fulls.ensures (λ access w. w))
    (access_kinds c.args.q.now c.args.ix.now _ _ c.column_count.ensures)
