use Rattle.std.proofs.Common.{refl, rules}
use Rattle.std.proofs.lemmas.List.Sorted.{IsPartitionPoint-from_clause}
use Rattle.table_index.specs.Bounds.{lies_up_to}
use Rattle.table_index.proofs.Cuts.{cut_from_point, cut_all}
use Rattle.table_index.proofs.Partitions.{up_to_first, rise}
use Rattle.table_index.proofs.index.count_up_to.Goals as goal

pub returns-in-Free-clause-cut : goal.returns-in-Free-clause-cut
returns-in-Free-clause-cut c = rw c.in-Free.is (cut_all _ _ (λ row. refl))

pub returns-clause-cut : goal.returns-clause-cut
returns-clause-cut c =
    cut_from_point _ _ _ c.partition_point.ensures.bound
    (IsPartitionPoint-from_clause (lies_up_to c.args.t.now c.args.column c.args.high) c.args.rows.now
    c.partition_point.result
    c.partition_point.ensures.partitioned
    (up_to_first c.args.t.now c.numbers-numbers.ensures.sound c.args.column c.args.rows.now
    (rise _ _ _ c.requires.ordered) c.args.high c.requires.fits)
    (λ a r f k. (search rules, search rules)))
