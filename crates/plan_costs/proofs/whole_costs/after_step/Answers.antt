use Rattle.std.proofs.Common.{◌+◌, ◌∙◌, ap, arith, length}
use Rattle.plan_trees.specs.PlaceSets.{one}
use Rattle.plan_trees.specs.Trees.{place_entering}
use Rattle.plan_trees.proofs.SoundParts.{step_in_range}
use Rattle.plan_trees.proofs.ValidPlans.{entering_new}
use Rattle.cost_model.specs.Cardinalities.{card_of}
use Rattle.cost_model.proofs.Sets.{stays_below}
use Rattle.plan_costs.proofs.StepParts.{small_set, step_by_parts, step_parts_fit}
use Rattle.plan_costs.proofs.whole_costs.after_step.Goals as goal

pub with_place-places-requires-clause-small : goal.with_place-places-requires-clause-small
with_place-places-requires-clause-small c =
    small_set c.args.q.now c.args.outer.places c.sound.ensures.value c.requires.there

pub with_place-places-requires-clause-in_range : goal.with_place-places-requires-clause-in_range
with_place-places-requires-clause-in_range c =
    let less = step_in_range c.args.q.now c.args.stats.now.indexed c.args.outer.places c.args.step c.requires.valid in
    let few = c.sound.ensures.value.few_places in
    let same = c.step_place.ensures in
    omega arith

pub card-after-requires-clause-there : goal.card-after-requires-clause-there
card-after-requires-clause-there c =
    rw (c.with_place-places.ensures.value, c.step_place.ensures)
    (stays_below c.args.outer.places (place_entering c.args.step) (length c.args.q.now.places)
    (entering_new c.args.q.now c.args.stats.now.indexed c.args.outer.places c.args.step c.requires.valid)
    c.requires.there
    (step_in_range c.args.q.now c.args.stats.now.indexed c.args.outer.places c.args.step c.requires.valid))

pub step_unit-unit-requires-clause-valid : goal.step_unit-unit-requires-clause-valid
step_unit-unit-requires-clause-valid c = (c.args.outer.places, c.requires.valid)

pub step_cost_of-requires : goal.step_cost_of-requires
step_cost_of-requires c =
    let after = c.card-after.ensures.value ∙ ap (card_of c.args.q.now c.args.stats.now c.args.s.now)
    (c.with_place-places.ensures.value ∙ ap (λ p. c.args.outer.places + one p) c.step_place.ensures) in
    record {
      fits = step_parts_fit c.args.q.now c.args.stats.now c.args.s.now c.args.outer.places c.args.step _ _ _
          c.sound.ensures.value c.requires.sound c.requires.vector c.requires.valid
          c.step_unit-unit.ensures.value c.requires.card after;
    }

pub overflow_add-cost : goal.overflow_add-cost
overflow_add-cost c =
    let after = c.card-after.ensures.value ∙ ap (card_of c.args.q.now c.args.stats.now c.args.s.now)
    (c.with_place-places.ensures.value ∙ ap (λ p. c.args.outer.places + one p) c.step_place.ensures) in
    let same = c.step_cost_of.ensures.value
    ∙ step_by_parts c.args.q.now c.args.stats.now c.args.s.now c.args.outer.places c.args.step _ _ _
    c.step_unit-unit.ensures.value c.requires.card after in
    let few = c.requires.fits in
    omega arith

pub returns : goal.returns
returns c =
    let places = c.with_place-places.ensures.value ∙ ap (λ p. c.args.outer.places + one p) c.step_place.ensures in
    let after = c.card-after.ensures.value ∙ ap (card_of c.args.q.now c.args.stats.now c.args.s.now) places in
    record {
      cost = ap (λ n. c.args.outer.cost + n) (c.step_cost_of.ensures.value
          ∙ step_by_parts c.args.q.now c.args.stats.now c.args.s.now c.args.outer.places c.args.step _ _ _
          c.step_unit-unit.ensures.value c.requires.card after);
      places = places;
      card = after;
    }
