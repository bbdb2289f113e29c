-- Each part of a valid plan is valid, and each sum on the way to its cost fits.
use Rattle.std.proofs.Common.{◌<◌, ◌+◌, ◌^◌, ◌∙◌, ap, arith, sym}
use Rattle.plan_trees.specs.declared.plans.StepKind.TheVariants.{Loop, Probe}
use Rattle.plan_trees.specs.Trees.{tree}
use Rattle.cost_model.specs.Cardinalities.{card_of}
use Rattle.plan_costs.proofs.StepParts.{sort_by_parts, sort_parts_fit}
use Rattle.plan_costs.proofs.Wholes.{plan_there, sort_fits, takes_join, takes_step}
use Rattle.plan_costs.proofs.whole_costs.+whole_of.Goals as goal

pub after_step-requires-clause-there : goal.after_step-requires-clause-there
after_step-requires-clause-there t c =
    let valid = rw c.in-Loop.is at c.requires.valid in
    let places = rw c.deref.ensures at c.whole_of-below.ensures.places in
    plan_there c.args.q.now c.args.stats.now.indexed (tree c.in-Loop.outer.value) _ valid.0 places

pub after_step-requires-clause-fits : goal.after_step-requires-clause-fits
after_step-requires-clause-fits t c =
    let valid = rw c.in-Loop.is at c.requires.valid in
    let places = rw c.deref.ensures at c.whole_of-below.ensures.places in
    let cost = rw c.deref.ensures at c.whole_of-below.ensures.cost in
    (takes_step c.args.q.now c.args.stats.now c.args.s.now (tree c.in-Loop.outer.value) (Loop c.in-Loop.access) _ _
    c.requires.query c.requires.sound c.requires.vector valid places cost).fits

pub after_step-requires-in-Probe-clause-there : goal.after_step-requires-in-Probe-clause-there
after_step-requires-in-Probe-clause-there t c =
    let valid = rw c.in-Probe.is at c.requires.valid in
    let places = rw c.deref-in-Probe.ensures at c.whole_of-below-in-Probe.ensures.places in
    plan_there c.args.q.now c.args.stats.now.indexed (tree c.in-Probe.outer.value) _ valid.0 places

pub after_step-requires-in-Probe-clause-fits : goal.after_step-requires-in-Probe-clause-fits
after_step-requires-in-Probe-clause-fits t c =
    let valid = rw c.in-Probe.is at c.requires.valid in
    let places = rw c.deref-in-Probe.ensures at c.whole_of-below-in-Probe.ensures.places in
    let cost = rw c.deref-in-Probe.ensures at c.whole_of-below-in-Probe.ensures.cost in
    (takes_step c.args.q.now c.args.stats.now c.args.s.now (tree c.in-Probe.outer.value)
    (Probe c.in-Probe.place c.in-Probe.edge) _ _ c.requires.query c.requires.sound c.requires.vector valid places
    cost).fits

pub after_join-requires-clause-left : goal.after_join-requires-clause-left
after_join-requires-clause-left t c =
    let valid = rw c.in-Hash.is at c.requires.valid in
    let left = rw c.deref-in-Hash.ensures at c.whole_of-left.ensures in
    let right = rw c.deref-in-Hash-2.ensures at c.whole_of-right.ensures in
    (takes_join c.args.q.now c.args.stats.now c.args.s.now (tree c.in-Hash.outer.value) (tree c.in-Hash.inner.value) _ _
    _ _ _ c.requires.query c.requires.sound c.requires.vector valid left.places right.places left.cost
    right.cost).outer

pub after_join-requires-clause-right : goal.after_join-requires-clause-right
after_join-requires-clause-right t c =
    let valid = rw c.in-Hash.is at c.requires.valid in
    let left = rw c.deref-in-Hash.ensures at c.whole_of-left.ensures in
    let right = rw c.deref-in-Hash-2.ensures at c.whole_of-right.ensures in
    (takes_join c.args.q.now c.args.stats.now c.args.s.now (tree c.in-Hash.outer.value) (tree c.in-Hash.inner.value) _ _
    _ _ _ c.requires.query c.requires.sound c.requires.vector valid left.places right.places left.cost
    right.cost).inner

pub after_join-requires-clause-fits : goal.after_join-requires-clause-fits
after_join-requires-clause-fits t c =
    let valid = rw c.in-Hash.is at c.requires.valid in
    let left = rw c.deref-in-Hash.ensures at c.whole_of-left.ensures in
    let right = rw c.deref-in-Hash-2.ensures at c.whole_of-right.ensures in
    (takes_join c.args.q.now c.args.stats.now c.args.s.now (tree c.in-Hash.outer.value) (tree c.in-Hash.inner.value) _ _
    _ _ _ c.requires.query c.requires.sound c.requires.vector valid left.places right.places left.cost
    right.cost).fits

pub sort_cost_of-requires-clause-fits : goal.sort_cost_of-requires-clause-fits
sort_cost_of-requires-clause-fits t c =
    let below = rw c.deref-in-Sort.ensures at c.whole_of-below-in-Sort.ensures in
    sort_parts_fit c.args.q.now c.args.stats.now c.args.s.now c.whole_of-below-in-Sort.result.places _
    c.requires.query c.requires.sound c.requires.vector
    (below.card ∙ ap (card_of c.args.q.now c.args.stats.now c.args.s.now) (sym below.places))

pub overflow_add-cost : goal.overflow_add-cost
overflow_add-cost t c =
    let valid = rw c.in-Sort.is at c.requires.valid in
    let below = rw c.deref-in-Sort.ensures at c.whole_of-below-in-Sort.ensures in
    let fits = sort_fits c.args.q.now c.args.stats.now c.args.s.now (tree c.in-Sort.outer.value) _ _ c.requires.query
    c.requires.sound c.requires.vector valid below.places below.cost in
    let same = sort_by_parts c.args.q.now c.args.stats.now c.args.s.now c.whole_of-below-in-Sort.result.places _ _
    (below.card ∙ ap (card_of c.args.q.now c.args.stats.now c.args.s.now) (sym below.places))
    c.sort_cost_of.ensures.value in
    let less : c.whole_of-below-in-Sort.result.cost + c.sort_cost_of.result < 2 ^ 128 = rw same fits in
    omega arith
