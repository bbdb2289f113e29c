use Rattle.std.proofs.Common.{rules}
use Rattle.std.proofs.lemmas.Fn.{always_returns_same}
use Rattle.table_index.specs.Indexes.{is_before}
use Rattle.table_index.proofs.Orders.{rows_ranked}
use Rattle.table_index.proofs.sorting.sorted_by_cell.Goals as goal

pub returns : goal.returns
returns c = record {
  each_once = rw (← c.len.ensures.value, ← c.in_ok-rows.ensures) c.sort_unstable_by.ensures.permutation;
  in_order =
      c.sort_unstable_by.ensures.sorted (is_before c.args.t.now c.args.column) (rows_ranked c.args.t.now c.args.column)
      (always_returns_same _ _ _ (λ a r g h. (search rules, search rules)));
}
