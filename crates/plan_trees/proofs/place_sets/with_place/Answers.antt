use Rattle.std.proofs.Common.{arith}
use Rattle.plan_trees.proofs.Bits.{with_one_small}
use Rattle.plan_trees.proofs.place_sets.with_place.Goals as goal

pub returns-clause-small : goal.returns-clause-small
returns-clause-small c =
    omega (
      arith,
      with_one_small c.args.set c.args.place c.requires.small c.requires.in_range c.requires.absent,
      c.one_place.ensures.value,
    )
