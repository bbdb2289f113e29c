use Rattle.std.proofs.Common.{◌≡◌, subst₂}
use Rattle.std.specs.Prelude.{IsTrue, ◌↔◌}
use Rattle.plan_trees.specs.Trees.{tree}
use Rattle.plan_trees.proofs.SameTrees.{same_told}
use Rattle.plan_trees.proofs.plans.same.Goals as goal

pub returns-in-Rows-Rows : goal.returns-in-Rows-Rows
returns-in-Rows-Rows c =
    rw (c.in-Rows-Rows.is-0, c.in-Rows-Rows.is-1)
    (same_told _ _ _ (subst₂ (λ p q. IsTrue c.same_plan.result
    ↔ (tree p ≡ tree q)) c.deref.ensures c.deref-in-Rows-Rows.ensures c.same_plan.ensures))

pub returns-in-SortedGroups-SortedGroups : goal.returns-in-SortedGroups-SortedGroups
returns-in-SortedGroups-SortedGroups c =
    rw (c.in-SortedGroups-SortedGroups.is-0, c.in-SortedGroups-SortedGroups.is-1)
    (same_told _ _ _ (subst₂ (λ p q. IsTrue c.same_plan-in-SortedGroups-SortedGroups.result
    ↔ (tree p ≡ tree q)) c.deref-in-SortedGroups-SortedGroups.ensures c.deref-in-SortedGroups-SortedGroups-2.ensures
    c.same_plan-in-SortedGroups-SortedGroups.ensures))

pub returns-in-HashGroups-HashGroups : goal.returns-in-HashGroups-HashGroups
returns-in-HashGroups-HashGroups c =
    rw (c.in-HashGroups-HashGroups.is-0, c.in-HashGroups-HashGroups.is-1)
    (same_told _ _ _ (subst₂ (λ p q. IsTrue c.same_plan-in-HashGroups-HashGroups.result
    ↔ (tree p ≡ tree q)) c.deref-in-HashGroups-HashGroups.ensures c.deref-in-HashGroups-HashGroups-2.ensures
    c.same_plan-in-HashGroups-HashGroups.ensures))
