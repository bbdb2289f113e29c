use Rattle.std.proofs.Common.{◌≡◌, ◌<◌, ◌≤◌, ◌^◌, length, ap, arith, pow_pos}
use Rattle.plan_costs.specs.BestPlans.{table_of_cells}
use Rattle.certificate_check.proofs.Answering.{refused, told}
use Rattle.certificate_check.proofs.Feasible.{all_feasible, least_failing, sets_more}
use Rattle.certificate_check.proofs.tables.least_failing.Goals as goal

pub returns-then-not-holds : goal.returns-then-not-holds
returns-then-not-holds c =
    let same : length c.places.result.now ≡ length c.args.q.now.places = ap length c.places.ensures.value in
    let some : 0 < 2 ^ length c.places.result.now = pow_pos (length c.places.result.now) in
    let less : c.loop-set.set < 2 ^ length c.places.result.now = omega arith in
    least_failing c.args.q.now c.args.stats.now c.args.s.now (table_of_cells c.args.cells.now) c.loop-set.set
    (record { some = omega arith; there = rw (← same) less }) c.loop-set.invariant
    (refused c.in_ok-holds.holds c.in_ok-holds.ensures (cc))

pub loop-set-preserved : goal.loop-set-preserved
loop-set-preserved c =
    sets_more c.args.q.now c.args.stats.now c.args.s.now (table_of_cells c.args.cells.now) c.loop-set.set
    c.loop-set.invariant (told c.in_ok-holds.holds c.in_ok-holds.ensures (cc))

pub returns : goal.returns
returns c =
    let same : length c.places.result.now ≡ length c.args.q.now.places = ap length c.places.ensures.value in
    let some : 0 < 2 ^ length c.places.result.now = pow_pos (length c.places.result.now) in
    let whole : 2 ^ length c.places.result.now ≤ c.loop-set.set = omega arith in
    all_feasible c.args.q.now c.args.stats.now c.args.s.now (table_of_cells c.args.cells.now) c.loop-set.set
    c.loop-set.invariant (rw (← same) whole)
