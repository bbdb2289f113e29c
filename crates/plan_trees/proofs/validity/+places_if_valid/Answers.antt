use Rattle.std.proofs.Common.{arith, refl}
use Rattle.plan_trees.proofs.SoundParts.{access_in_range}
use Rattle.plan_trees.proofs.validity.+places_if_valid.Goals as goal

pub one_place-requires : goal.one_place-requires
one_place-requires t c =
    omega (
      arith,
      c.place_read.ensures,
      c.requires,
      access_in_range c.args.q.now c.args.ix.now c.in-Base.access
          (c.if-is_valid_access.ensures.0 refl),
    )
