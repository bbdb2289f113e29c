-- Plans as trees without pointers, and the places of a tree.
use Rattle.std.specs.Prelude.{ℕ, ◌+◌, ◌==◌, ◌&&◌, Bool, false}
use Rattle.plan_trees.specs.PlaceSets.{one}
use Rattle.plan_trees.specs.declared.plans.Access.{Access}
use Rattle.plan_trees.specs.declared.plans.Access.TheVariants.{Seq, Range, Full}
use Rattle.plan_trees.specs.declared.plans.StepKind.{StepKind}
use Rattle.plan_trees.specs.declared.plans.StepKind.TheVariants.{Loop, Probe}
use Rattle.plan_trees.specs.declared.plans.Plan as declared
use Rattle.plan_trees.specs.declared.plans.Top as top

-- a plan: an access, a plan with one more place, a hash join of two plans on an edge, or a sorted plan
pub data Tree : Type 0 where
  Base : (access : Access) → Tree
  Join : (outer : Tree) (step : StepKind) → Tree
  HashJoin : (outer inner : Tree) (edge : ℕ) → Tree
  Sort : (outer : Tree) → Tree

-- a plan and how its rows become the result
pub data TopTree : Type 0 where
  Rows : (plan : Tree) → TopTree
  SortedGroups : (plan : Tree) → TopTree
  HashGroups : (plan : Tree) → TopTree

-- the tree that a plan stands for; what the pointers are makes no difference
abbrev pub tree : declared.Plan → Tree
tree (declared.Base access) = Base access
tree (declared.Loop' pointer outer access) = Join (tree outer) (Loop access)
tree (declared.Probe' pointer outer place edge) = Join (tree outer) (Probe place edge)
tree (declared.Hash' pointer outer inner_pointer inner edge) = HashJoin (tree outer) (tree inner) edge
tree (declared.Sort' pointer outer) = Sort (tree outer)

abbrev pub top_tree : top.Top → TopTree
top_tree (top.TheVariants.Rows plan) = Rows (tree plan.value)
top_tree (top.TheVariants.SortedGroups plan) = SortedGroups (tree plan.value)
top_tree (top.TheVariants.HashGroups plan) = HashGroups (tree plan.value)

abbrev pub plan_below : TopTree → Tree
plan_below (Rows plan) = plan
plan_below (SortedGroups plan) = plan
plan_below (HashGroups plan) = plan

-- the place that an access reads, and the one that a step takes in
abbrev pub place_of : Access → ℕ
place_of (Seq place) = place
place_of (Range place column pred) = place
place_of (Full place column) = place

abbrev pub place_entering : StepKind → ℕ
place_entering (Loop access) = place_of access
place_entering (Probe place edge) = place

-- the set of a plan's places
abbrev pub places_of : Tree → ℕ
places_of (Base access) = one (place_of access)
places_of (Join outer step) = places_of outer + one (place_entering step)
places_of (HashJoin outer inner edge) = places_of outer + places_of inner
places_of (Sort outer) = places_of outer

-- The same plan: form by form, and number by number.

abbrev pub same_access : Access → Access → Bool
same_access (Seq t) (Seq u) = t == u
same_access (Range t c j) (Range u d k) = t == u && c == d && j == k
same_access (Full t c) (Full u d) = t == u && c == d
same_access a b = false

abbrev pub same_step : StepKind → StepKind → Bool
same_step (Loop a) (Loop b) = same_access a b
same_step (Probe t e) (Probe u f) = t == u && e == f
same_step a b = false

abbrev pub same_tree : Tree → Tree → Bool
same_tree (Base a) (Base b) = same_access a b
same_tree (Join p x) (Join q y) = same_step x y && same_tree p q
same_tree (HashJoin p r e) (HashJoin q s f) = e == f && same_tree p q && same_tree r s
same_tree (Sort p) (Sort q) = same_tree p q
same_tree p q = false

abbrev pub same_top : TopTree → TopTree → Bool
same_top (Rows p) (Rows q) = same_tree p q
same_top (SortedGroups p) (SortedGroups q) = same_tree p q
same_top (HashGroups p) (HashGroups q) = same_tree p q
same_top p q = false
