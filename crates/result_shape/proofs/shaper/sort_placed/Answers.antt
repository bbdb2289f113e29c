use Rattle.std.proofs.Common.{◌≡◌, ◌++◌, ℕ, List, rules, subst, sym}
use Rattle.std.specs.Cmp.{IsStrictWeakOrder}
use Rattle.std.specs.Prelude.{IsSortedBy}
use Rattle.std.specs.Ordering.{is_lt}
use Rattle.std.specs.declared.cmp.Ordering.{Ordering}
use Rattle.std.proofs.lemmas.Fn.{always_returns_same}
use Rattle.std.proofs.lemmas.List.Sorted.{ranks_by}
use Rattle.row_values.proofs.InOrder.{rises_from_sorted}
use Rattle.row_values.specs.declared.statement.OrderKey.{OrderKey}
use Rattle.csv_tables.specs.StatementTables.{rows_in, tables_in}
use Rattle.plan_operators.specs.Keys.{keys_rank}
use Rattle.statement_meaning.specs.Meaning.{group_keys, is_before, keys_order}
use Rattle.statement_meaning.proofs.FullOrders.{keys_total}
use Rattle.statement_meaning.proofs.JoinOrder.{rises_map}
use Rattle.result_shape.specs.declared.numbered.Placed.{Placed}
use Rattle.result_shape.proofs.shaper.sort_placed.Goals as goal

pub returns-clause-in_order : goal.returns-clause-in_order
returns-clause-in_order c =
    let all : List OrderKey = c.args.q.now.order ++ group_keys c.args.q.now.groups in
    let keys = rw (c.as_slice.ensures.value, c.in_ok-all.ensures) at c.in_ok-keys.ensures in
    let same : keys_rank c.in_ok-keys.keys.items ≡ keys_order (rows_in (tables_in c.args.tables.now)) all =
    λ i a b. keys a b i in
    let by_first : IsStrictWeakOrder (λ (a : Placed) (b : Placed). is_before (rows_in (tables_in c.args.tables.now)) all
    a.first b.first) = ranks_by (keys_total (rows_in (tables_in c.args.tables.now)) all) (λ (g : Placed). g.first) in
    let ranked = subst (λ (o : List ℕ → List ℕ → Ordering). IsStrictWeakOrder
    (λ (a : Placed) (b : Placed). is_lt (o a.first b.first))) (sym same) by_first in
    let sorted = c.sort_unstable_by.ensures.sorted
    (λ (a : Placed) (b : Placed). is_lt (keys_rank c.in_ok-keys.keys.items a.first b.first)) ranked
    (always_returns_same _ _ _ (λ a r g h. (search rules, search rules))) in
    rises_map (is_before (rows_in (tables_in c.args.tables.now)) all) (λ (g : Placed). g.first)
    c.sort_unstable_by.new.self.items
    (rises_from_sorted (λ (a : Placed) (b : Placed). is_before (rows_in (tables_in c.args.tables.now)) all a.first b.first)
    by_first c.sort_unstable_by.new.self.items
    (subst (λ (o : List ℕ → List ℕ → Ordering). IsSortedBy (λ (a : Placed) (b : Placed). is_lt (o a.first b.first))
    c.sort_unstable_by.new.self.items) same sorted))
