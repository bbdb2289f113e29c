use Rattle.plan_operators.proofs.IndexThere.{index_found, some_before}
use Rattle.plan_operators.proofs.index_scan.index_there.Goals as goal

pub unwrap-requires : goal.unwrap-requires
unwrap-requires c =
    some_before (λ index. index.now) c.index_of.result
    (rw c.index_of.ensures
    (index_found c.args.source.now.q.now.places c.args.source.now.indexes.now c.args.place c.args.column c.requires))
