use Rattle.std.proofs.Common.{arith}
use Rattle.plan_trees.proofs.Bits.{both_below}
use Rattle.plan_trees.proofs.place_sets.with_places.Goals as goal

pub overflow_add-result : goal.overflow_add-result
overflow_add-result c =
    let small = both_below c.args.left c.args.right 5 c.requires.apart c.requires.left c.requires.right in
    omega arith

pub returns-clause-small : goal.returns-clause-small
returns-clause-small c =
    let small = both_below c.args.left c.args.right 5 c.requires.apart c.requires.left c.requires.right in
    omega arith
