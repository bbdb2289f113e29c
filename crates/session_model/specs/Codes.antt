-- Codes of plans without pointers, by which proofs tell the states that hold them apart: a tree is stored as a plan whose
-- pointers point nowhere.
use Rattle.std.specs.Prelude.{◌≡◌}
use Rattle.std.specs.Coded.{Coded, code_by}
use Rattle.std.specs.Ptr.{null_ptr}
use Rattle.std.specs.declared.alloc.Global.{Global}
use Rattle.std.specs.declared.rc.Rc.{Rc}
use Rattle.std.proofs.Common.{ap, ap₂, refl}
use Rattle.plan_trees.specs.Trees.{Base, HashJoin, Join, Sort, Tree, tree}
use Rattle.plan_trees.specs.contracts.plans.Plan as plan
use Rattle.plan_trees.specs.declared.plans.Plan as declared
use Rattle.plan_trees.specs.declared.plans.StepKind.TheVariants.{Loop, Probe}

abbrev pub nowhere : Rc (Unit {0}) Global
nowhere = record { ptr = null_ptr; value = tt }

abbrev pub pointed : Tree → declared.Plan
pointed (Base access) = declared.Base access
pointed (Join outer (Loop access)) = declared.Loop' nowhere (pointed outer) access
pointed (Join outer (Probe place edge)) = declared.Probe' nowhere (pointed outer) place edge
pointed (HashJoin outer inner edge) = declared.Hash' nowhere (pointed outer) nowhere (pointed inner) edge
pointed (Sort outer) = declared.Sort' nowhere (pointed outer)

pub same_tree : (t : Tree) → tree (pointed t) ≡ t
same_tree (Base access) = refl
same_tree (Join outer (Loop access)) = ap (λ p. Join p (Loop access)) (same_tree outer)
same_tree (Join outer (Probe place edge)) = ap (λ p. Join p (Probe place edge)) (same_tree outer)
same_tree (HashJoin outer inner edge) = ap₂ (λ p r. HashJoin p r edge) (same_tree outer) (same_tree inner)
same_tree (Sort outer) = ap Sort (same_tree outer)

abbrev pub tree_code : Coded Tree
tree_code = code_by declared.Plan plan.the_row.coded pointed tree same_tree
