use Rattle.std.proofs.Common.{◌+◌, ◌∙◌, ap, arith, length}
use Rattle.plan_trees.specs.PlaceSets.{one}
use Rattle.plan_trees.specs.Trees.{place_entering}
use Rattle.plan_trees.proofs.SoundParts.{step_in_range}
use Rattle.plan_trees.proofs.ValidPlans.{entering_new}
use Rattle.cost_model.proofs.Sets.{stays_below}
use Rattle.plan_costs.proofs.StepParts.{card_read, card_there, small_set, step_by_parts, step_parts_fit}
use Rattle.plan_costs.proofs.steps.step_cost_with.Goals as goal

pub step_unit-unit-requires-clause-valid : goal.step_unit-unit-requires-clause-valid
step_unit-unit-requires-clause-valid c = (c.args.set, c.requires.valid)

pub card_at-before-requires : goal.card_at-before-requires
card_at-before-requires c = card_there _ _ _ _ _ c.requires.cards c.requires.there

pub with_place-requires-clause-small : goal.with_place-requires-clause-small
with_place-requires-clause-small c = small_set c.args.q.now c.args.set c.sound.ensures.value c.requires.there

pub with_place-requires-clause-in_range : goal.with_place-requires-clause-in_range
with_place-requires-clause-in_range c =
    let less = step_in_range c.args.q.now c.args.stats.now.indexed c.args.set c.args.step c.requires.valid in
    let few = c.sound.ensures.value.few_places in
    let same = c.step_place.ensures in
    omega arith

pub with_place-requires-clause-absent : goal.with_place-requires-clause-absent
with_place-requires-clause-absent c =
    rw c.step_place.ensures (entering_new c.args.q.now c.args.stats.now.indexed c.args.set c.args.step c.requires.valid)

pub card_at-after-requires : goal.card_at-after-requires
card_at-after-requires c =
    card_there _ _ _ _ _ c.requires.cards
    (rw (c.with_place.ensures.value, c.step_place.ensures)
    (stays_below c.args.set (place_entering c.args.step) (length c.args.q.now.places)
    (entering_new c.args.q.now c.args.stats.now.indexed c.args.set c.args.step c.requires.valid) c.requires.there
    (step_in_range c.args.q.now c.args.stats.now.indexed c.args.set c.args.step c.requires.valid)))

pub step_cost_of-requires : goal.step_cost_of-requires
step_cost_of-requires c =
    let there = stays_below c.args.set (place_entering c.args.step) (length c.args.q.now.places)
    (entering_new c.args.q.now c.args.stats.now.indexed c.args.set c.args.step c.requires.valid) c.requires.there
    (step_in_range c.args.q.now c.args.stats.now.indexed c.args.set c.args.step c.requires.valid) in
    let before = card_read c.args.q.now c.args.stats.now c.args.s.now c.args.cards.now c.args.set c.args.set _
    c.requires.cards c.requires.there (cc) c.card_at-before.ensures in
    let after = card_read c.args.q.now c.args.stats.now c.args.s.now c.args.cards.now
    (c.args.set + one (place_entering c.args.step)) _ _ c.requires.cards there
    (c.with_place.ensures.value ∙ ap (λ p. c.args.set + one p) c.step_place.ensures) c.card_at-after.ensures in
    record {
      fits = step_parts_fit c.args.q.now c.args.stats.now c.args.s.now c.args.set c.args.step _ _ _
          c.sound.ensures.value c.requires.sound c.requires.vector c.requires.valid
          c.step_unit-unit.ensures.value before after;
    }

pub returns : goal.returns
returns c =
    let there = stays_below c.args.set (place_entering c.args.step) (length c.args.q.now.places)
    (entering_new c.args.q.now c.args.stats.now.indexed c.args.set c.args.step c.requires.valid) c.requires.there
    (step_in_range c.args.q.now c.args.stats.now.indexed c.args.set c.args.step c.requires.valid) in
    let before = card_read c.args.q.now c.args.stats.now c.args.s.now c.args.cards.now c.args.set c.args.set _
    c.requires.cards c.requires.there (cc) c.card_at-before.ensures in
    let after = card_read c.args.q.now c.args.stats.now c.args.s.now c.args.cards.now
    (c.args.set + one (place_entering c.args.step)) _ _ c.requires.cards there
    (c.with_place.ensures.value ∙ ap (λ p. c.args.set + one p) c.step_place.ensures) c.card_at-after.ensures in
    record {
      value = c.step_cost_of.ensures.value
          ∙ step_by_parts c.args.q.now c.args.stats.now c.args.s.now c.args.set c.args.step _ _ _
          c.step_unit-unit.ensures.value before after;
    }
