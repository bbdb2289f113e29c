use Rattle.std.proofs.Common.{◌≡◌, ℕ, List, rules, subst, sym}
use Rattle.std.specs.Cmp.{IsStrictWeakOrder}
use Rattle.std.specs.Prelude.{IsSortedBy}
use Rattle.std.specs.Ordering.{is_lt}
use Rattle.std.specs.declared.cmp.Ordering.{Ordering}
use Rattle.std.proofs.lemmas.Fn.{always_returns_same}
use Rattle.row_values.proofs.InOrder.{rises_from_sorted}
use Rattle.plan_trees.specs.PlanSpace.{wanted_order}
use Rattle.statement_meaning.specs.Meaning.{is_before, keys_order}
use Rattle.statement_meaning.proofs.FullOrders.{keys_ranked}
use Rattle.plan_operators.specs.Keys.{keys_rank}
use Rattle.plan_operators.specs.Sources.{rows_read}
use Rattle.pull_operators.proofs.sort.Sorted.open.Goals as goal

pub returns-clause-in_order : goal.returns-clause-in_order
returns-clause-in_order c =
    let same : keys_rank c.in_ok-keys.keys.items ≡ keys_order (rows_read c.args.source.now) (wanted_order c.args.source.now.q.now) =
    λ i a b. c.in_ok-keys.ensures a b i in
    let ranked = subst (λ (o : List ℕ → List ℕ → Ordering). IsStrictWeakOrder (λ a b. is_lt (o a b))) (sym same)
    (keys_ranked (rows_read c.args.source.now) (wanted_order c.args.source.now.q.now)) in
    let sorted = c.sort_unstable_by.ensures.sorted (λ a b. is_lt (keys_rank c.in_ok-keys.keys.items a b)) ranked
    (always_returns_same _ _ _ (λ a r g h. (search rules, search rules))) in
    rises_from_sorted (is_before (rows_read c.args.source.now) (wanted_order c.args.source.now.q.now))
    (keys_ranked (rows_read c.args.source.now) (wanted_order c.args.source.now.q.now))
    c.sort_unstable_by.new.self.items
    (subst (λ (o : List ℕ → List ℕ → Ordering). IsSortedBy (λ a b. is_lt (o a b)) c.sort_unstable_by.new.self.items)
    same sorted)
