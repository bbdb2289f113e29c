use Rattle.std.proofs.Common.{rules, sym, subst}
use Rattle.plan_trees.specs.Statistics.{IsSoundStats}
use Rattle.worked_statements.proofs.Fits.{numbers_counted, numbers_sound}
use Rattle.worked_statements.proofs.numbers.with_numbers.Goals as goal

pub of-requires-2-clause-fans : goal.of-requires-2-clause-fans
of-requires-2-clause-fans c = numbers_counted _ _ _ _ _ _ _ (c.are_sound.ensures (search rules))

pub of-requires-2-clause-sound : goal.of-requires-2-clause-sound
of-requires-2-clause-sound c = numbers_sound _ _ _ _ _ _ _ _ (c.are_sound.ensures (search rules))

pub invariant_of-result : goal.invariant_of-result
invariant_of-result c = record {
  sound = subst (λ s. IsSoundStats c.args.query s) (sym c.in_ok-stats.ensures)
      (numbers_sound _ _ _ _ _ _ _ _ (c.are_sound.ensures (search rules)));
}
