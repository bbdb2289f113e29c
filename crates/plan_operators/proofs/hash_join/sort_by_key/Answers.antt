use Rattle.std.proofs.Common.{rules}
use Rattle.std.proofs.lemmas.Fn.{always_returns_same}
use Rattle.std.proofs.lemmas.List.Sorted.{ranks_by}
use Rattle.row_values.proofs.TotalOrders.{cell_order_total}
use Rattle.plan_operators.specs.BuildSides.{has_lower_key}
use Rattle.plan_operators.specs.Columns.{cell_seen}
use Rattle.plan_operators.proofs.hash_join.sort_by_key.Goals as goal

pub returns-clause-in_order : goal.returns-clause-in_order
returns-clause-in_order c =
    c.sort_unstable_by.ensures.sorted (has_lower_key c.args.column.now)
    (ranks_by cell_order_total (cell_seen c.args.column.now))
    (always_returns_same _ _ _ (λ a r g h. (search rules, search rules)))
