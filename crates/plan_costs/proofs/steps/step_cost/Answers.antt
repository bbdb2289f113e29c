use Rattle.std.proofs.Common.{◌+◌, ◌∙◌, ap, arith, length}
use Rattle.plan_trees.specs.PlaceSets.{one}
use Rattle.plan_trees.specs.Trees.{place_entering}
use Rattle.plan_trees.proofs.SoundParts.{step_in_range}
use Rattle.plan_trees.proofs.ValidPlans.{entering_new}
use Rattle.cost_model.specs.Cardinalities.{card_of}
use Rattle.cost_model.proofs.Sets.{stays_below}
use Rattle.plan_costs.proofs.StepParts.{small_set, step_by_parts, step_parts_fit}
use Rattle.plan_costs.proofs.steps.step_cost.Goals as goal

pub step_unit-unit-requires-clause-valid : goal.step_unit-unit-requires-clause-valid
step_unit-unit-requires-clause-valid c = (c.args.set, c.requires.valid)

pub with_place-requires-clause-small : goal.with_place-requires-clause-small
with_place-requires-clause-small c = small_set c.args.q.now c.args.set c.sound.ensures.value c.requires.there

pub with_place-requires-clause-in_range : goal.with_place-requires-clause-in_range
with_place-requires-clause-in_range c =
    let less = step_in_range c.args.q.now c.args.stats.now.indexed c.args.set c.args.step.now c.requires.valid in
    let few = c.sound.ensures.value.few_places in
    let same = c.step_place.ensures in
    omega arith

pub with_place-requires-clause-absent : goal.with_place-requires-clause-absent
with_place-requires-clause-absent c =
    rw c.step_place.ensures
    (entering_new c.args.q.now c.args.stats.now.indexed c.args.set c.args.step.now c.requires.valid)

pub card-after-requires-clause-there : goal.card-after-requires-clause-there
card-after-requires-clause-there c =
    rw (c.with_place.ensures.value, c.step_place.ensures)
    (stays_below c.args.set (place_entering c.args.step.now) (length c.args.q.now.places)
    (entering_new c.args.q.now c.args.stats.now.indexed c.args.set c.args.step.now c.requires.valid) c.requires.there
    (step_in_range c.args.q.now c.args.stats.now.indexed c.args.set c.args.step.now c.requires.valid))

pub step_cost_of-requires : goal.step_cost_of-requires
step_cost_of-requires c =
    let after = c.card-after.ensures.value ∙ ap (card_of c.args.q.now c.args.stats.now c.args.s.now)
    (c.with_place.ensures.value ∙ ap (λ p. c.args.set + one p) c.step_place.ensures) in
    record {
      fits = step_parts_fit c.args.q.now c.args.stats.now c.args.s.now c.args.set c.args.step.now _ _ _
          c.sound.ensures.value c.requires.sound c.requires.vector c.requires.valid
          c.step_unit-unit.ensures.value c.card-before.ensures.value after;
    }

pub returns : goal.returns
returns c =
    let after = c.card-after.ensures.value ∙ ap (card_of c.args.q.now c.args.stats.now c.args.s.now)
    (c.with_place.ensures.value ∙ ap (λ p. c.args.set + one p) c.step_place.ensures) in
    record {
      value = c.step_cost_of.ensures.value
          ∙ step_by_parts c.args.q.now c.args.stats.now c.args.s.now c.args.set c.args.step.now _ _ _
          c.step_unit-unit.ensures.value c.card-before.ensures.value after;
    }
