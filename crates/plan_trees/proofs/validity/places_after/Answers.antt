use Rattle.std.proofs.Common.{arith, refl}
use Rattle.plan_trees.proofs.SoundParts.{step_in_range}
use Rattle.plan_trees.proofs.validity.places_after.Goals as goal

pub with_place-requires-clause-in_range : goal.with_place-requires-clause-in_range
with_place-requires-clause-in_range c =
    omega (
      arith,
      c.step_place.ensures,
      c.requires.few,
      step_in_range c.args.q.now c.args.ix.now c.args.set c.args.step
          (c.if-is_valid_step.ensures.0 refl),
    )
