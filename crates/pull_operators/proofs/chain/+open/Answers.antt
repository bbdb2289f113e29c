use Rattle.plan_trees.specs.Trees.{tree}
use Rattle.plan_trees.proofs.WantedKeys.{sorted_has_keys}
use Rattle.plan_operators.specs.Sources.{masks_read}
use Rattle.pull_operators.proofs.chain.+open.Goals as goal

pub returns-in_ok-outer-in-Loop-clause-in_order :
    goal.returns-in_ok-outer-in-Loop-clause-in_order
returns-in_ok-outer-in-Loop-clause-in_order t c = λ sorted.
    let s = rw c.in-Loop.is at sorted in
    let valid = rw c.in-Loop.is at c.requires.valid in
    let places = rw c.deref.ensures at c.in_ok-outer-in-Loop.ensures.places in
    let rises = rw c.deref.ensures at c.in_ok-outer-in-Loop.ensures.in_order in
    c.loop_above.ensures.in_order
    (rw places
    (sorted_has_keys c.args.source.now.q.now (masks_read c.args.source.now) (tree c.in-Loop.outer.value) valid.0 s))
    (rises s)

pub returns-in_ok-outer-in-Probe-clause-in_order :
    goal.returns-in_ok-outer-in-Probe-clause-in_order
returns-in_ok-outer-in-Probe-clause-in_order t c = λ sorted.
    let s = rw c.in-Probe.is at sorted in
    let valid = rw c.in-Probe.is at c.requires.valid in
    let places = rw c.deref-in-Probe.ensures at c.in_ok-outer-in-Probe.ensures.places in
    let rises = rw c.deref-in-Probe.ensures at c.in_ok-outer-in-Probe.ensures.in_order in
    c.index_above.ensures.in_order
    (rw places
    (sorted_has_keys c.args.source.now.q.now (masks_read c.args.source.now) (tree c.in-Probe.outer.value) valid.0 s))
    (rises s)

pub returns-in_ok-inner-in-Hash-clause-in_order :
    goal.returns-in_ok-inner-in-Hash-clause-in_order
returns-in_ok-inner-in-Hash-clause-in_order t c = λ sorted.
    let s = rw c.in-Hash.is at sorted in
    let valid = rw c.in-Hash.is at c.requires.valid in
    let places = rw c.deref-in-Hash.ensures at c.in_ok-outer-in-Hash.ensures.places in
    let rises = rw c.deref-in-Hash.ensures at c.in_ok-outer-in-Hash.ensures.in_order in
    c.hash_above.ensures.in_order
    (rw places
    (sorted_has_keys c.args.source.now.q.now (masks_read c.args.source.now) (tree c.in-Hash.outer.value) valid.0 s))
    (rises s)
