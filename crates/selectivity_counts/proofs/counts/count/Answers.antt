use Rattle.std.proofs.Common.{◌∙◌}
use Rattle.selectivity_counts.proofs.IndexCounts.{counted_by_index, index_bound, own_built}
use Rattle.selectivity_counts.proofs.counts.count.Goals as goal

pub count_in-requires : goal.count_in-requires
count_in-requires c =
    own_built c.args.table.now c.args.pred.now.at.column c.in-Some.index.now (rw c.in-Some.is at c.requires)

pub returns-in-Some-clause-value : goal.returns-in-Some-clause-value
returns-in-Some-clause-value c =
    c.count_in.ensures
    ∙ counted_by_index c.args.args.now c.args.table.now c.args.pred.now c.in-Some.index.now
    (rw c.in-Some.is at c.requires)

pub returns-in-Some-clause-bound : goal.returns-in-Some-clause-bound
returns-in-Some-clause-bound c =
    index_bound c.args.args.now c.args.table.now c.args.pred.now c.in-Some.index.now c.count_in.result
    (rw c.in-Some.is at c.requires) c.count_in.ensures
