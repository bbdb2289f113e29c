use Rattle.plan_trees.proofs.SameTrees.{same_trees}
use Rattle.plan_trees.proofs.laws.same_tree_tells.Goals as goal

pub returns : goal.returns
returns c = λ a b. same_trees a b
