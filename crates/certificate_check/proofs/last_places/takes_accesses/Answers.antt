use Rattle.std.proofs.Common.{◌<◌, ◌*◌, ◌^◌, arith, slice_index_or}
use Rattle.std.proofs.lemmas.Option.{slice_get-get_or}
use Rattle.plan_trees.specs.declared.plans.Access.{Access}
use Rattle.plan_trees.specs.declared.plans.Access.TheVariants.{Seq}
use Rattle.plan_trees.specs.declared.scale.TheConstants.{COST_SCALE}
use Rattle.plan_trees.specs.Lists.{IsAccessOf}
use Rattle.cost_model.specs.Costs.{access_unit}
use Rattle.plan_costs.proofs.Listed.{item_listed, same_list}
use Rattle.certificate_check.specs.Bounds.{TakesAccess, costs_of}
use Rattle.certificate_check.proofs.Answering.{each_all, each_more, holds}
use Rattle.certificate_check.proofs.LastPlaces.{access_below, taken_here}
use Rattle.certificate_check.proofs.last_places.takes_accesses.Goals as goal

pub overflow_mul-cost : goal.overflow_mul-cost
overflow_mul-cost c =
    let all = same_list (λ indexed. IsAccessOf c.args.q.now indexed c.args.place) _ _ _ _ c.indexed.ensures
    c.deref-access-items.ensures.value c.in_ok-list.ensures in
    let valid = item_listed (IsAccessOf c.args.q.now c.args.stats.now.indexed c.args.place)
    c.deref-access-items.result.now c.loop-access.access-index _ all c.loop-access-test.true in
    let less : COST_SCALE * c.access_unit-cost.result < 2 ^ 124 =
    access_below c.args.q.now c.args.stats.now c.args.s.now _ _ c.requires.query c.requires.sound
    c.requires.vector valid.0 c.access_unit-cost.ensures.value in
    omega arith

pub loop-access-preserved : goal.loop-access-preserved
loop-access-preserved c =
    let here = slice_index_or c.deref-access-items.result.now c.loop-access.access-index (Seq 0) in
    each_more (λ (access : Access). TakesAccess c.args.q.now access
    (COST_SCALE * access_unit c.args.q.now c.args.stats.now c.args.s.now access) (costs_of c.args.cell))
    c.deref-access-items.result.now c.loop-access.access-index here c.loop-access.invariant
    (slice_get-get_or c.deref-access-items.result.now c.loop-access.access-index (Seq 0) c.loop-access-test.true)
    (taken_here c.args.q.now c.args.stats.now c.args.s.now here c.access_unit-cost.result (costs_of c.args.cell)
    c.takes_access.result c.access_unit-cost.ensures.value c.takes_access.ensures (cc))

pub returns : goal.returns
returns c =
    let all = same_list (λ indexed. IsAccessOf c.args.q.now indexed c.args.place) _ _ _ _ c.indexed.ensures
    c.deref-access-items.ensures.value c.in_ok-list.ensures in
    holds (each_all (λ (access : Access). TakesAccess c.args.q.now access
    (COST_SCALE * access_unit c.args.q.now c.args.stats.now c.args.s.now access) (costs_of c.args.cell))
    (IsAccessOf c.args.q.now c.args.stats.now.indexed c.args.place) c.deref-access-items.result.now
    c.loop-access.access-index all c.loop-access-test.false c.loop-access.invariant)
