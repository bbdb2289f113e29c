use Rattle.plan_trees.proofs.SameTrees.{same_tops}
use Rattle.plan_trees.proofs.laws.same_top_tells.Goals as goal

pub returns : goal.returns
returns c = λ a b. same_tops a b
