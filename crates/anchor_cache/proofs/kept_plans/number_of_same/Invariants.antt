use Rattle.std.proofs.Common.{◌≡◌, drop, map}
use Rattle.std.specs.List.{find}
use Rattle.plan_trees.specs.Trees.{same_top, top_tree}
use Rattle.anchor_cache.specs.Contents.{cached}
use Rattle.anchor_cache.proofs.kept_plans.number_of_same.Given as goal

-- none of the plans so far is the same
abbrev pub invariant-loop-kept : goal.invariant-loop-kept
invariant-loop-kept l =
    find (λ plan. same_top plan.top (top_tree l.p)) (map cached l.plans)
    ≡ find (λ plan. same_top plan.top (top_tree l.p)) (map cached (drop l.kept-index l.plans))
