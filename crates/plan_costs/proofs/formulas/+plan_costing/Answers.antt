-- A valid plan's places are below 32.
use Rattle.std.proofs.Common.{arith}
use Rattle.plan_trees.specs.Trees.{tree}
use Rattle.plan_costs.proofs.StepParts.{plan_small}
use Rattle.plan_costs.proofs.formulas.+plan_costing.Goals as goal

pub after_step-requires-clause-small : goal.after_step-requires-clause-small
after_step-requires-clause-small t c =
    let valid = rw c.in-Loop.is at c.requires.valid in
    let small = plan_small c.args.q.now c.args.stats.now.indexed
    (tree c.in-Loop.outer.value) c.requires.query valid.0 in
    let same = rw c.deref.ensures at c.in_ok-below-in-Loop.ensures.places in
    omega arith

pub after_step-requires-in-Probe-clause-small : goal.after_step-requires-in-Probe-clause-small
after_step-requires-in-Probe-clause-small t c =
    let valid = rw c.in-Probe.is at c.requires.valid in
    let small = plan_small c.args.q.now c.args.stats.now.indexed
    (tree c.in-Probe.outer.value) c.requires.query valid.0 in
    let same = rw c.deref-in-Probe.ensures at c.in_ok-below-in-Probe.ensures.places in
    omega arith

pub after_join-requires-clause-left : goal.after_join-requires-clause-left
after_join-requires-clause-left t c =
    let valid = rw c.in-Hash.is at c.requires.valid in
    let small = plan_small c.args.q.now c.args.stats.now.indexed
    (tree c.in-Hash.outer.value) c.requires.query valid.0 in
    let same = rw c.deref-in-Hash.ensures at c.in_ok-left-in-Hash.ensures.places in
    omega arith

pub after_join-requires-clause-right : goal.after_join-requires-clause-right
after_join-requires-clause-right t c =
    let valid = rw c.in-Hash.is at c.requires.valid in
    let small = plan_small c.args.q.now c.args.stats.now.indexed
    (tree c.in-Hash.inner.value) c.requires.query valid.1 in
    let same = rw c.deref-in-Hash-2.ensures at c.in_ok-right-in-Hash.ensures.places in
    omega arith
