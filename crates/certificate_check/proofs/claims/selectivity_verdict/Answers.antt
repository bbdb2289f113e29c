use Rattle.plan_trees.specs.Trees.{top_tree}
use Rattle.cache_model.proofs.Counts.{counts_some}
use Rattle.certificate_check.specs.Ledgers.{entry_of}
use Rattle.certificate_check.specs.Verdicts.{PassesBySelectivity}
use Rattle.certificate_check.proofs.Comparing.{comparable, cost_some, entry_there, reuse_failed, reuse_passed}
use Rattle.certificate_check.proofs.Comparing.{selectivity_failed, selectivity_passed}
use Rattle.certificate_check.proofs.claims.selectivity_verdict.Goals as goal

pub cost_of-cost_there-requires-clause-vector : goal.cost_of-cost_there-requires-clause-vector
cost_of-cost_there-requires-clause-vector c =
    let there = entry_there c.args.q.now c.args.stats.now c.args.entries.now c.args.statement c.args.execution
    c.in-Some.anchor.now c.requires.entries c.in-Some.ensures in
    rw c.as_slice.ensures there.vector

pub passes_by_selectivity-requires : goal.passes_by_selectivity-requires
passes_by_selectivity-requires c =
    let there = entry_there c.args.q.now c.args.stats.now c.args.entries.now c.args.statement c.args.execution
    c.in-Some.anchor.now c.requires.entries c.in-Some.ensures in
    let near = comparable c.args.q.now c.args.stats.now c.args.s.now c.in-Some.anchor.now c.requires.query
    c.requires.sound c.requires.vector there in
    record {
      numbers = counts_some c.args.q.now c.args.stats.now c.args.s.now c.requires.vector;
      entry_numbers = near.numbers;
      least = near.least;
      cost = cost_some c.args.q.now c.args.stats.now c.in-Some.anchor.now.at (top_tree c.args.plan.now)
          c.cost_of-cost_there.result c.requires.query c.requires.sound there.vector c.requires.valid
          (rw c.as_slice.ensures at c.cost_of-cost_there.ensures.value);
      near = near.near;
    }

pub returns-then-passes_by_selectivity : goal.returns-then-passes_by_selectivity
returns-then-passes_by_selectivity c =
    reuse_passed (PassesBySelectivity c.args.q.now c.args.stats.now c.args.s.now c.args.lambda
    (top_tree c.args.plan.now)) c.args.execution
    (entry_of c.args.entries.now c.args.statement c.args.execution) c.in-Some.anchor.now c.in-Some.ensures
    (selectivity_passed c.args.lambda c.args.s.now c.in-Some.anchor.now c.cost_of-cost_there.result _
    c.passes_by_selectivity.result c.passes_by_selectivity.ensures
    (rw c.as_slice.ensures at c.cost_of-cost_there.ensures.value) (cc))

pub returns-else-passes_by_selectivity : goal.returns-else-passes_by_selectivity
returns-else-passes_by_selectivity c =
    reuse_failed (PassesBySelectivity c.args.q.now c.args.stats.now c.args.s.now c.args.lambda
    (top_tree c.args.plan.now)) c.args.execution
    (entry_of c.args.entries.now c.args.statement c.args.execution) c.in-Some.anchor.now c.in-Some.ensures
    (selectivity_failed c.args.lambda c.args.s.now c.in-Some.anchor.now c.cost_of-cost_there.result _
    c.passes_by_selectivity.result c.passes_by_selectivity.ensures
    (rw c.as_slice.ensures at c.cost_of-cost_there.ensures.value) (cc))
