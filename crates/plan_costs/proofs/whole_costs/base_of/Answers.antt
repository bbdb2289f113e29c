use Rattle.std.proofs.Common.{◌≡◌, ◌<◌, ◌*◌, ◌^◌, ◌∙◌, ap, arith}
use Rattle.plan_trees.specs.declared.scale.TheConstants.{COST_SCALE}
use Rattle.plan_trees.specs.PlaceSets.{one}
use Rattle.plan_trees.specs.Trees.{Base}
use Rattle.plan_trees.proofs.SoundParts.{access_in_range}
use Rattle.cost_model.specs.Costs.{access_unit}
use Rattle.cost_model.proofs.CostBounds.{costs_fit}
use Rattle.plan_costs.proofs.Wholes.{plan_there}
use Rattle.plan_costs.proofs.whole_costs.base_of.Goals as goal

pub overflow_mul-result : goal.overflow_mul-result
overflow_mul-result c =
    let fits : COST_SCALE * access_unit c.args.q.now c.args.stats.now c.args.s.now c.args.access < 2 ^ 124 =
    ((costs_fit c.args.q.now c.args.stats.now c.args.s.now c.requires.query c.requires.sound c.requires.vector).plans
    (Base c.args.access) c.requires.valid).high in
    let same : COST_SCALE * c.access_unit.result
    ≡ COST_SCALE * access_unit c.args.q.now c.args.stats.now c.args.s.now c.args.access =
    ap (λ n. COST_SCALE * n) c.access_unit.ensures.value in
    omega arith

pub one_place-places-requires : goal.one_place-places-requires
one_place-places-requires c =
    let less = access_in_range c.args.q.now c.args.stats.now.indexed c.args.access c.requires.valid in
    let few = c.requires.query.few_places in
    let same = c.place_read.ensures in
    omega arith

pub card-requires-clause-there : goal.card-requires-clause-there
card-requires-clause-there c =
    plan_there c.args.q.now c.args.stats.now.indexed (Base c.args.access) _ c.requires.valid
    (c.one_place-places.ensures.value ∙ ap one c.place_read.ensures)
