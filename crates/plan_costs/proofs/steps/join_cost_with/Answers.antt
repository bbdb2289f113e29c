use Rattle.std.proofs.Common.{◌∙◌, ◌+◌}
use Rattle.plan_trees.proofs.Bits.{both_below}
use Rattle.plan_costs.proofs.StepParts.{card_read, card_there, join_by_parts, join_parts_fit, sides_fit, small_set}
use Rattle.plan_costs.proofs.steps.join_cost_with.Goals as goal

pub with_places-requires-clause-left : goal.with_places-requires-clause-left
with_places-requires-clause-left c = small_set c.args.q.now c.args.left c.sound.ensures.value c.requires.left.there

pub with_places-requires-clause-right : goal.with_places-requires-clause-right
with_places-requires-clause-right c = small_set c.args.q.now c.args.right c.sound.ensures.value c.requires.right.there

pub card_at-after-requires : goal.card_at-after-requires
card_at-after-requires c =
    card_there _ _ _ _ _ c.requires.cards
    (rw c.with_places.ensures.value
    (both_below c.args.left c.args.right _ c.requires.apart c.requires.left.there c.requires.right.there))

pub card_at-requires : goal.card_at-requires
card_at-requires c = card_there _ _ _ _ _ c.requires.cards c.requires.left.there

pub card_at-requires-2 : goal.card_at-requires-2
card_at-requires-2 c = card_there _ _ _ _ _ c.requires.cards c.requires.right.there

pub join_cost_of-requires-clause-sides : goal.join_cost_of-requires-clause-sides
join_cost_of-requires-clause-sides c =
    sides_fit c.args.q.now c.args.stats.now c.args.s.now c.args.left c.args.right _ _ c.sound.ensures.value
    c.requires.sound c.requires.vector
    (card_read c.args.q.now c.args.stats.now c.args.s.now c.args.cards.now c.args.left c.args.left _ c.requires.cards
    c.requires.left.there (cc) c.card_at.ensures)
    (card_read c.args.q.now c.args.stats.now c.args.s.now c.args.cards.now c.args.right c.args.right _ c.requires.cards
    c.requires.right.there (cc) c.card_at-2.ensures)

pub join_cost_of-requires-clause-fits : goal.join_cost_of-requires-clause-fits
join_cost_of-requires-clause-fits c =
    let there = both_below c.args.left c.args.right _ c.requires.apart c.requires.left.there c.requires.right.there in
    join_parts_fit c.args.q.now c.args.stats.now c.args.s.now c.args.left c.args.right _ _ _ c.sound.ensures.value
    c.requires.sound c.requires.vector
    (card_read c.args.q.now c.args.stats.now c.args.s.now c.args.cards.now c.args.left c.args.left _ c.requires.cards
    c.requires.left.there (cc) c.card_at.ensures)
    (card_read c.args.q.now c.args.stats.now c.args.s.now c.args.cards.now c.args.right c.args.right _ c.requires.cards
    c.requires.right.there (cc) c.card_at-2.ensures)
    (card_read c.args.q.now c.args.stats.now c.args.s.now c.args.cards.now
    (c.args.left + c.args.right) _ _ c.requires.cards there c.with_places.ensures.value c.card_at-after.ensures)

pub returns : goal.returns
returns c =
    let there = both_below c.args.left c.args.right _ c.requires.apart c.requires.left.there c.requires.right.there in
    record {
      value = c.join_cost_of.ensures.value ∙ join_by_parts c.args.q.now c.args.stats.now c.args.s.now c.args.left
          c.args.right _ _ _
          (card_read c.args.q.now c.args.stats.now c.args.s.now c.args.cards.now c.args.left c.args.left _
          c.requires.cards c.requires.left.there (cc) c.card_at.ensures)
          (card_read c.args.q.now c.args.stats.now c.args.s.now c.args.cards.now c.args.right c.args.right _
          c.requires.cards c.requires.right.there (cc) c.card_at-2.ensures)
          (card_read c.args.q.now c.args.stats.now c.args.s.now c.args.cards.now
          (c.args.left + c.args.right) _ _ c.requires.cards there c.with_places.ensures.value c.card_at-after.ensures);
    }
