use Rattle.std.proofs.Common.{◌<◌, ◌+◌, ◌*◌, ◌^◌, arith}
use Rattle.plan_trees.specs.Trees.{tree}
use Rattle.plan_costs.proofs.Wholes.{grouped_fits}
use Rattle.plan_costs.proofs.whole_costs.grouped_cost.Goals as goal

pub overflow_mul-result : goal.overflow_mul-result
overflow_mul-result c =
    let both = grouped_fits c.args.q.now c.args.stats.now c.args.s.now (tree c.args.p.now) c.args.weight _ _ _
    c.requires.query c.requires.sound c.requires.vector c.requires.valid c.requires.light c.whole_of-below.ensures.cost
    c.whole_of-below.ensures.card in
    let less : c.from.result * c.whole_of-below.result.card < 2 ^ 128 = rw c.from.ensures both.0 in
    omega arith

pub overflow_add-result : goal.overflow_add-result
overflow_add-result c =
    let both = grouped_fits c.args.q.now c.args.stats.now c.args.s.now (tree c.args.p.now) c.args.weight _ _ _
    c.requires.query c.requires.sound c.requires.vector c.requires.valid c.requires.light c.whole_of-below.ensures.cost
    c.whole_of-below.ensures.card in
    let less : c.whole_of-below.result.cost + c.from.result * c.whole_of-below.result.card < 2 ^ 128 = rw c.from.ensures both.1 in
    omega arith
