use Rattle.std.proofs.Common.{◌≤◌, arith}
use Rattle.plan_trees.specs.PlaceSets.{one}
use Rattle.plan_costs.specs.BestPlans.{table_of_cells}
use Rattle.certificate_check.specs.Bounds.{costs_of}
use Rattle.certificate_check.proofs.LastPlaces.{lost, place_absent, place_alone, within}
use Rattle.certificate_check.proofs.last_places.takes_place.Goals as goal

pub returns-then-not-has_place : goal.returns-then-not-has_place
returns-then-not-has_place c = place_absent c.args.q.now c.args.stats.now c.args.s.now
    (table_of_cells c.args.cells.now) c.args.set c.args.place (costs_of c.args.cell) (cc)

pub returns-then-from-eq0 : goal.returns-then-from-eq0
returns-then-from-eq0 c =
    let inside : one c.args.place ≤ c.args.set = within c.args.set c.args.place (cc) in
    place_alone c.args.q.now c.args.stats.now c.args.s.now (table_of_cells c.args.cells.now) c.args.set c.args.place
    (costs_of c.args.cell) _ (omega arith) c.in_ok-holds.ensures

pub takes_steps-requires-clause-absent : goal.takes_steps-requires-clause-absent
takes_steps-requires-clause-absent c = lost _ c.args.place c.args.set (omega arith) (cc)
