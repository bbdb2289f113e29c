use Rattle.std.proofs.Common.{◌∙◌}
use Rattle.plan_trees.specs.PlaceSets.{one}
use Rattle.plan_trees.specs.Trees.{place_of}
use Rattle.pull_operators.specs.Pieces.{loop_piece}
use Rattle.pull_operators.specs.StillToCome.{chain_to_come}
use Rattle.pull_operators.proofs.Chained.{joined_once, joined_rises}
use Rattle.pull_operators.proofs.Nothing.{no_partner}
use Rattle.pull_operators.proofs.chain.loop_above.Goals as goal

pub with-requires-clause-takes : goal.with-requires-clause-takes
with-requires-clause-takes c = no_partner (chain_to_come c.args.outer)

pub returns-clause-each_once : goal.returns-clause-each_once
returns-clause-each_once c =
    joined_once c.args.source.now c.args.outer.places (one (place_of c.args.access)) c.in_ok-chain.chain.places
    (loop_piece c.in_ok-join.join) (chain_to_come c.args.outer) (chain_to_come c.in_ok-chain.chain)
    c.in_ok-join.ensures.joins c.requires.each_once
    (c.in_ok-chain.ensures.places ∙ (rw c.place_read.ensures at c.with_place-places.ensures.value))
    c.in_ok-chain.ensures.to_come

pub returns-clause-in_order : goal.returns-clause-in_order
returns-clause-in_order c = λ wanted rises.
    joined_rises c.args.source.now c.args.outer.places (one (place_of c.args.access)) (loop_piece c.in_ok-join.join)
    (chain_to_come c.args.outer) (chain_to_come c.in_ok-chain.chain) c.in_ok-join.ensures.joins c.requires.each_once
    wanted rises c.in_ok-chain.ensures.to_come
