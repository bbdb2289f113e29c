use Rattle.std.proofs.Common.{◌≡◌, take}
use Rattle.statement_statistics.specs.Statistics.{distinct_count, numbered}
use Rattle.selectivity_counts.proofs.distincts.Distincts.of.Given as goal

-- the counts of the columns so far
abbrev pub invariant-loop-column : goal.invariant-loop-column
invariant-loop-column l =
    l.counts.items ≡ numbered (λ column _. distinct_count l.t.rows column) 0 (take l.column l.t.schema)
