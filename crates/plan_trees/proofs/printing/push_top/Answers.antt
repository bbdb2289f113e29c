use Rattle.plan_trees.proofs.printing.push_top.Goals as goal

pub returns-in-SortedGroups : goal.returns-in-SortedGroups
returns-in-SortedGroups c =
    rw (c.in-SortedGroups.is, ← c.deref-in-SortedGroups.ensures) c.push_under-in-SortedGroups.ensures
