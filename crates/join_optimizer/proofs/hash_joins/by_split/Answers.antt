use Rattle.std.proofs.Common.{◌-◌, arith, false}
use Rattle.join_optimizer.specs.Found.{table_of}
use Rattle.join_optimizer.proofs.CostSums.{any_fits, join_below, read_cost, read_found, sorted_fits, two_more_fit}
use Rattle.join_optimizer.proofs.Parts.{join_offered}
use Rattle.join_optimizer.proofs.hash_joins.by_split.Goals as goal

pub take_hash_join-requires : goal.take_hash_join-requires
take_hash_join-requires c =
    let outer = read_found c.args.q.now c.args.stats.now c.args.s.now _ _ _ _ c.requires.cells
    c.cell_at-outer.ensures in
    let inner = read_found c.args.q.now c.args.stats.now c.args.s.now _ _ _ _ c.requires.cells
    c.cell_at-inner.ensures in
    two_more_fit _ _ _
    (join_below c.args.q.now c.args.stats.now c.args.s.now _ _ _ c.requires.query c.requires.sound c.requires.vector
    c.join_cost_with-cost.ensures.value)
    (any_fits c.args.q.now c.args.stats.now c.args.s.now _ _ c.requires.query c.requires.sound c.requires.vector outer)
    (any_fits c.args.q.now c.args.stats.now c.args.s.now _ _ c.requires.query c.requires.sound c.requires.vector inner)

pub take_hash_join-requires-2 : goal.take_hash_join-requires-2
take_hash_join-requires-2 c =
    let outer = read_found c.args.q.now c.args.stats.now c.args.s.now _ _ _ _ c.requires.cells
    c.cell_at-outer.ensures in
    let inner = read_found c.args.q.now c.args.stats.now c.args.s.now _ _ _ _ c.requires.cells
    c.cell_at-inner.ensures in
    two_more_fit _ _ _
    (join_below c.args.q.now c.args.stats.now c.args.s.now _ _ _ c.requires.query c.requires.sound c.requires.vector
    c.join_cost_with-cost.ensures.value)
    (sorted_fits c.args.q.now c.args.stats.now c.args.s.now _ _ c.requires.query c.requires.sound c.requires.vector
    outer)
    (any_fits c.args.q.now c.args.stats.now c.args.s.now _ _ c.requires.query c.requires.sound c.requires.vector inner)

pub returns : goal.returns
returns c =
    let outer = read_found c.args.q.now c.args.stats.now c.args.s.now _ _ _ _ c.requires.cells
    c.cell_at-outer.ensures in
    let inner = read_found c.args.q.now c.args.stats.now c.args.s.now _ _ _ _ c.requires.cells
    c.cell_at-inner.ensures in
    join_offered c.args.q.now c.args.stats.now c.args.s.now
    (table_of c.args.cells.now) _ _ _ _ _ _ _ c.args.best _ c.in-Some.ensures c.join_cost_with-cost.ensures.value
    (omega arith)
    (read_cost c.args.cells.now (c.args.set - c.args.right) _ c.cell_at-outer.ensures)
    (read_cost c.args.cells.now c.args.right _ c.cell_at-inner.ensures false) outer inner c.requires.best
    c.in_ok-sorted.ensures c.in_ok-any.ensures
