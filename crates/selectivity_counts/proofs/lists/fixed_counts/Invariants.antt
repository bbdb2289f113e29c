use Rattle.std.proofs.Common.{◌≡◌, take}
use Rattle.statement_statistics.specs.Statistics.{fixed_count, numbered}
use Rattle.selectivity_counts.proofs.lists.fixed_counts.Given as goal

-- the counts of the tables so far
abbrev pub invariant-loop-place : goal.invariant-loop-place
invariant-loop-place l =
    l.counts.items ≡ numbered (λ number table. fixed_count l.q.preds number table.value.rows) 0 (take l.place l.tables)
