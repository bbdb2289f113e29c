use Rattle.std.proofs.Common.{subst, sym}
use Rattle.plan_trees.specs.PlaceSets.{has}
use Rattle.statement_meaning.specs.PartialCombinations.{Once}
use Rattle.statement_meaning.proofs.Keeping.{once_permuted}
use Rattle.plan_operators.specs.Sources.{world_read}
use Rattle.pull_operators.specs.StillToCome.{sorted_to_come}
use Rattle.pull_operators.proofs.chain.sorted.Goals as goal

pub returns-clause-each_once : goal.returns-clause-each_once
returns-clause-each_once c =
    once_permuted (world_read c.args.source.now) (has c.args.input.places) c.in_ok-combos.combos.items
    (sorted_to_come c.in_ok-sorted.sorted) c.in_ok-sorted.ensures.permutation
    (subst (Once (world_read c.args.source.now) (has c.args.input.places)) (sym c.in_ok-combos.ensures)
    c.requires.each_once)
