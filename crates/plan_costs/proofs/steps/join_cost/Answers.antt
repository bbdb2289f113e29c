use Rattle.std.proofs.Common.{ap, ◌∙◌}
use Rattle.plan_trees.proofs.Bits.{both_below}
use Rattle.cost_model.specs.Cardinalities.{card_of}
use Rattle.plan_costs.proofs.StepParts.{join_by_parts, join_parts_fit, sides_fit, small_set}
use Rattle.plan_costs.proofs.steps.join_cost.Goals as goal

pub with_places-requires-clause-left : goal.with_places-requires-clause-left
with_places-requires-clause-left c = small_set c.args.q.now c.args.left c.sound.ensures.value c.requires.left.there

pub with_places-requires-clause-right : goal.with_places-requires-clause-right
with_places-requires-clause-right c = small_set c.args.q.now c.args.right c.sound.ensures.value c.requires.right.there

pub card-after-requires-clause-there : goal.card-after-requires-clause-there
card-after-requires-clause-there c = rw c.with_places.ensures.value
    (both_below c.args.left c.args.right _ c.requires.apart c.requires.left.there c.requires.right.there)

pub join_cost_of-requires-clause-sides : goal.join_cost_of-requires-clause-sides
join_cost_of-requires-clause-sides c =
    sides_fit c.args.q.now c.args.stats.now c.args.s.now c.args.left c.args.right _ _ c.sound.ensures.value
    c.requires.sound c.requires.vector c.card.ensures.value c.card-2.ensures.value

pub join_cost_of-requires-clause-fits : goal.join_cost_of-requires-clause-fits
join_cost_of-requires-clause-fits c =
    let after = c.card-after.ensures.value ∙ ap
    (card_of c.args.q.now c.args.stats.now c.args.s.now) c.with_places.ensures.value in
    join_parts_fit c.args.q.now c.args.stats.now c.args.s.now c.args.left c.args.right _ _ _ c.sound.ensures.value
    c.requires.sound c.requires.vector
    c.card.ensures.value c.card-2.ensures.value after

pub returns : goal.returns
returns c =
    let after = c.card-after.ensures.value ∙ ap
    (card_of c.args.q.now c.args.stats.now c.args.s.now) c.with_places.ensures.value in
    record {
      value = c.join_cost_of.ensures.value
          ∙ join_by_parts c.args.q.now c.args.stats.now c.args.s.now c.args.left c.args.right _ _ _ c.card.ensures.value
          c.card-2.ensures.value after;
    }
