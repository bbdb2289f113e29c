-- What the laws of plans say.
use Rattle.std.specs.Prelude.{ℕ, ◌≡◌, ◌≤◌, ◌+◌, ◌↔◌, ◌||◌, IsTrue, List}
use Rattle.row_values.specs.Statements.{Statement, IsSoundQuery}
use Rattle.plan_trees.specs.PlaceSets.{has, are_apart}
use Rattle.plan_trees.specs.PlanSpace.{IsValidPlan, IsSortedPlan, has_all_keys, wanted_order}
use Rattle.plan_trees.specs.Spelling.{nesting}
use Rattle.plan_trees.specs.Trees.{Tree, TopTree, places_of, same_top, same_tree}

-- the test of trees says that they are the same exactly of equal ones
abbrev pub SameTreeLaw : Type 0
SameTreeLaw = (a b : Tree) → IsTrue (same_tree a b) ↔ (a ≡ b)

abbrev pub SameTopLaw : Type 0
SameTopLaw = (a b : TopTree) → IsTrue (same_top a b) ↔ (a ≡ b)

-- where two sets are apart, a place is in their sum exactly where it is in one of them
abbrev pub UnionLaw : Type 0
UnionLaw =
    (left right place : ℕ) → IsTrue (are_apart left right)
    → has (left + right) place ≡ (has left place || has right place)

-- what comes in the wanted order has the place of each wanted key
abbrev pub SortedPlanLaw : Type 0
SortedPlanLaw =
    (q : Statement) (indexed : List ℕ) (plan : Tree) → IsValidPlan q indexed plan → IsSortedPlan q plan
    → IsTrue (has_all_keys (places_of plan) (wanted_order q))

-- a valid plan has two plans for each of its places at most on its longest way down: one reads or joins it, one sorts
abbrev pub NestingLaw : Type 0
NestingLaw =
    (q : Statement) (indexed : List ℕ) (plan : Tree) → IsSoundQuery q → IsValidPlan q indexed plan → nesting plan ≤ 10
