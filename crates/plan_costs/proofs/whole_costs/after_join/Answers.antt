use Rattle.std.proofs.Common.{◌+◌, ◌∙◌, ap, arith}
use Rattle.plan_trees.proofs.Bits.{both_below}
use Rattle.cost_model.specs.Cardinalities.{card_of}
use Rattle.plan_costs.proofs.StepParts.{join_by_parts, join_parts_fit, sides_fit, small_set}
use Rattle.plan_costs.proofs.whole_costs.after_join.Goals as goal

pub with_places-places-requires-clause-left : goal.with_places-places-requires-clause-left
with_places-places-requires-clause-left c =
    small_set c.args.q.now c.args.outer.places c.sound.ensures.value c.requires.left.there

pub with_places-places-requires-clause-right : goal.with_places-places-requires-clause-right
with_places-places-requires-clause-right c =
    small_set c.args.q.now c.args.inner.places c.sound.ensures.value c.requires.right.there

pub card-after-requires-clause-there : goal.card-after-requires-clause-there
card-after-requires-clause-there c = rw c.with_places-places.ensures.value
    (both_below c.args.outer.places c.args.inner.places _ c.requires.apart c.requires.left.there c.requires.right.there)

pub join_cost_of-requires-clause-sides : goal.join_cost_of-requires-clause-sides
join_cost_of-requires-clause-sides c =
    sides_fit c.args.q.now c.args.stats.now c.args.s.now c.args.outer.places c.args.inner.places _ _
    c.sound.ensures.value c.requires.sound c.requires.vector c.requires.left_card c.requires.right_card

pub join_cost_of-requires-clause-fits : goal.join_cost_of-requires-clause-fits
join_cost_of-requires-clause-fits c =
    let after = c.card-after.ensures.value
    ∙ ap (card_of c.args.q.now c.args.stats.now c.args.s.now) c.with_places-places.ensures.value in
    join_parts_fit c.args.q.now c.args.stats.now c.args.s.now c.args.outer.places c.args.inner.places _ _ _
    c.sound.ensures.value c.requires.sound c.requires.vector c.requires.left_card c.requires.right_card after

pub overflow_add-cost-2 : goal.overflow_add-cost-2
overflow_add-cost-2 c =
    let after = c.card-after.ensures.value
    ∙ ap (card_of c.args.q.now c.args.stats.now c.args.s.now) c.with_places-places.ensures.value in
    let same = c.join_cost_of.ensures.value
    ∙ join_by_parts c.args.q.now c.args.stats.now c.args.s.now c.args.outer.places c.args.inner.places _ _ _
    c.requires.left_card c.requires.right_card after in
    let few = c.requires.fits in
    omega arith

pub returns : goal.returns
returns c =
    let after = c.card-after.ensures.value
    ∙ ap (card_of c.args.q.now c.args.stats.now c.args.s.now) c.with_places-places.ensures.value in
    record {
      cost = ap (λ n. c.args.outer.cost + c.args.inner.cost + n) (c.join_cost_of.ensures.value
          ∙ join_by_parts c.args.q.now c.args.stats.now c.args.s.now c.args.outer.places c.args.inner.places _ _ _
          c.requires.left_card c.requires.right_card after);
      places = c.with_places-places.ensures.value;
      card = after;
    }
