use Rattle.std.proofs.Common.{◌≡◌, ℕ, List, rules, subst, sym}
use Rattle.std.specs.Cmp.{IsStrictWeakOrder}
use Rattle.std.specs.Cmp.Lexicographic.{slice_cmp}
use Rattle.std.specs.Prelude.{IsSortedBy}
use Rattle.std.specs.Ordering.{is_lt, nat_cmp, ordering_then}
use Rattle.std.specs.declared.cmp.Ordering.{Ordering}
use Rattle.std.proofs.lemmas.Fn.{always_returns_same}
use Rattle.std.proofs.lemmas.List.Sorted.{IsPermutation-trans}
use Rattle.row_values.proofs.InOrder.{rises_from_sorted}
use Rattle.csv_tables.specs.StatementTables.{rows_in, tables_in}
use Rattle.plan_operators.specs.Keys.{keys_rank}
use Rattle.statement_meaning.specs.FullOrder.{is_earlier}
use Rattle.statement_meaning.specs.Meaning.{keys_order}
use Rattle.statement_meaning.proofs.FullOrders.{earlier_full}
use Rattle.result_shape.proofs.shaper.sort_rows.Goals as goal

pub returns-clause-in_order : goal.returns-clause-in_order
returns-clause-in_order c =
    let keys = rw c.order.ensures.value at c.in_ok-keys.ensures in
    let same : keys_rank c.in_ok-keys.keys.items
    ≡ keys_order (rows_in (tables_in c.args.tables.now)) c.args.q.now.order = λ i a b. keys a b i in
    let ranked = subst (λ (o : List ℕ → List ℕ → Ordering). IsStrictWeakOrder
    (λ (a : List ℕ) (b : List ℕ). is_lt (ordering_then (o a b) (slice_cmp nat_cmp a b)))) (sym same)
    (earlier_full (rows_in (tables_in c.args.tables.now)) c.args.q.now.order).ranks in
    let sorted = c.sort_unstable_by.ensures.sorted
    (λ (a : List ℕ) (b : List ℕ). is_lt (ordering_then (keys_rank c.in_ok-keys.keys.items a b) (slice_cmp nat_cmp a b)))
    ranked (always_returns_same _ _ _ (λ a r g h. (search rules, search rules))) in
    rises_from_sorted (is_earlier (rows_in (tables_in c.args.tables.now)) c.args.q.now.order)
    (earlier_full (rows_in (tables_in c.args.tables.now)) c.args.q.now.order).ranks c.sort_unstable_by.new.self.items
    (subst (λ (o : List ℕ → List ℕ → Ordering). IsSortedBy
    (λ (a : List ℕ) (b : List ℕ). is_lt (ordering_then (o a b) (slice_cmp nat_cmp a b)))
    c.sort_unstable_by.new.self.items) same sorted)

pub returns-clause-permutation : goal.returns-clause-permutation
returns-clause-permutation c =
    IsPermutation-trans c.args.combos.items c.in_ok-sorted.sorted.items c.sort_unstable_by.new.self.items
    c.in_ok-sorted.ensures c.sort_unstable_by.ensures.permutation
