use Rattle.std.proofs.Common.{◌∙◌, subst, sym}
use Rattle.plan_trees.specs.PlaceSets.{has}
use Rattle.statement_meaning.specs.PartialCombinations.{Once}
use Rattle.plan_operators.specs.Sources.{world_read}
use Rattle.pull_operators.specs.Pieces.{hash_piece}
use Rattle.pull_operators.specs.StillToCome.{chain_to_come}
use Rattle.pull_operators.proofs.Chained.{all_take, joined_once, joined_rises}
use Rattle.pull_operators.proofs.chain.hash_above.Goals as goal

pub open-requires-clause-inner_once : goal.open-requires-clause-inner_once
open-requires-clause-inner_once c =
    subst (Once (world_read c.args.source.now) (has c.args.inner.places)) (sym c.in_ok-combos.ensures)
    c.requires.inner_once

pub with-requires-clause-takes : goal.with-requires-clause-takes
with-requires-clause-takes c =
    all_take c.args.source.now c.args.outer.places (chain_to_come c.args.outer) c.in_ok-join.join.side.combos.items
    c.requires.each_once c.in_ok-join.ensures.long

pub returns-clause-each_once : goal.returns-clause-each_once
returns-clause-each_once c =
    joined_once c.args.source.now c.args.outer.places c.args.inner.places c.in_ok-chain.chain.places
    (hash_piece c.in_ok-join.join) (chain_to_come c.args.outer) (chain_to_come c.in_ok-chain.chain)
    c.in_ok-join.ensures.joins c.requires.each_once
    (c.in_ok-chain.ensures.places ∙ c.with_places-places.ensures.value)
    c.in_ok-chain.ensures.to_come

pub returns-clause-in_order : goal.returns-clause-in_order
returns-clause-in_order c = λ wanted rises.
    joined_rises c.args.source.now c.args.outer.places c.args.inner.places (hash_piece c.in_ok-join.join)
    (chain_to_come c.args.outer) (chain_to_come c.in_ok-chain.chain) c.in_ok-join.ensures.joins c.requires.each_once
    wanted rises c.in_ok-chain.ensures.to_come
