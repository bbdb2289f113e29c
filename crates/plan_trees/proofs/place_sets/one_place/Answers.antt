use Rattle.std.proofs.Common.{arith}
use Rattle.plan_trees.proofs.Bits.{one_small}
use Rattle.plan_trees.proofs.place_sets.one_place.Goals as goal

pub returns-clause-small : goal.returns-clause-small
returns-clause-small c = omega (arith, one_small c.args.place c.requires)
