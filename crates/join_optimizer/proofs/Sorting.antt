-- A sort as an offer to the cheapest plan in the wanted order.
use Rattle.std.proofs.Common.{ℕ, ◌≡◌, ◌≤◌, ◌+◌, Bool, true, false, IsTrue, List, Option, Some, None, IfSome, refl, ap}
use Rattle.std.proofs.Common.{sym, ◌∙◌, subst, arith, true≢false, if◌then◌else◌}
use Rattle.row_values.specs.Statements.{Statement}
use Rattle.plan_trees.specs.PlanSpace.{has_all_keys, is_sorted_plan, wanted_order, wants_order}
use Rattle.plan_trees.specs.Statistics.{Statistics}
use Rattle.plan_trees.specs.Trees.{Sort}
use Rattle.cost_model.specs.Costs.{sort_cost}
use Rattle.cost_model.specs.LeastCost.{AtMost, TakesSort}
use Rattle.join_optimizer.specs.declared.found.Cheapest.{Cheapest}
use Rattle.join_optimizer.specs.Found.{Priced, AreFound, IsFound, cheaper, cost_in, cost_of, ordered, plan_in, priced}
use Rattle.join_optimizer.specs.Found.{seen}
use Rattle.join_optimizer.specs.Search.{Offered}
use Rattle.join_optimizer.proofs.Offers.{in_both, offered, unchanged}

ordered_only : Statement → ℕ → Option Priced → Bool → Option Priced
ordered_only q cost any true = ordered q cost any
ordered_only q cost any false = None

ordered_by : (q : Statement) (s : Statistics) (vector : List ℕ) (set : ℕ) (found : Priced) (b : Bool)
    → IsTrue (wants_order q) → IsTrue (has_all_keys set (wanted_order q)) → is_sorted_plan q found.plan ≡ b
    → IsFound q s vector false set found
    → IfSome (if b then Some found else priced (Sort found.plan) (found.cost + sort_cost q s vector set))
    (IsFound q s vector true set)
ordered_by q s vector set found true wants keys e h =
    record { fits = record { valid = h.fits.valid; whole = h.fits.whole; in_order = λ sorted. e }; costs = h.costs }
ordered_by q s vector set found false wants keys e h = record {
  fits = record {
    valid = (h.fits.valid, wants, subst (λ n. IsTrue (has_all_keys n (wanted_order q))) (sym h.fits.whole) keys, e);
    whole = h.fits.whole;
    in_order = λ sorted. wants;
  };
  costs = rw (h.costs, h.fits.whole) refl;
}

ordered_found : (q : Statement) (s : Statistics) (vector : List ℕ) (set : ℕ) (o : Option Priced)
    → IsTrue (wants_order q) → IsTrue (has_all_keys set (wanted_order q)) → IfSome o (IsFound q s vector false set)
    → IfSome (ordered q (sort_cost q s vector set) o) (IsFound q s vector true set)
ordered_found q s vector set None wants keys h = h
ordered_found q s vector set (Some found) wants keys h =
    ordered_by q s vector set found (is_sorted_plan q found.plan) wants keys refl h

priced_by : (found : Priced) (cost n : ℕ) (b : Bool) → found.cost ≤ n
    → AtMost (cost_of (if b then Some found else priced (Sort found.plan) (found.cost + cost))) (n + cost)
priced_by found cost n true h = omega arith
priced_by found cost n false h = omega arith

ordered_priced : (q : Statement) (cost n : ℕ) (o : Option Priced) → AtMost (cost_of o) n
    → AtMost (cost_of (ordered q cost o)) (n + cost)
ordered_priced q cost n None h = h
ordered_priced q cost n (Some found) h = priced_by found cost n (is_sorted_plan q found.plan) h

pub sort_offered : (q : Statement) (s : Statistics) (vector : List ℕ) (set cost : ℕ) (before after : Cheapest)
    → IsTrue (wants_order q) → IsTrue (has_all_keys set (wanted_order q)) → cost ≡ sort_cost q s vector set
    → AreFound q s vector set (plan_in before)
    → seen after.sorted ≡ cheaper (seen before.sorted) (ordered q cost (seen before.any)) → after.any ≡ before.any
    → Offered q s vector set (TakesSort q s vector set) before after
unfolding ordered_only
sort_offered q s vector set cost before after wants keys e found sorted any =
    let here : AreFound q s vector set (ordered_only q cost (plan_in before false)) =
    in_both (λ b. IfSome (ordered_only q cost (plan_in before false) b) (IsFound q s vector b set))
    (subst (λ n. IfSome (ordered q n (plan_in before false)) (IsFound q s vector true set)) (sym e)
    (ordered_found q s vector set (plan_in before false) wants keys (found false))) tt in
    offered q s vector set (TakesSort q s vector set) before after
    (ordered_only q cost (plan_in before false)) found here
    (in_both (λ b. plan_in after b ≡ cheaper (plan_in before b) (ordered_only q cost (plan_in before false) b)) sorted
    (ap seen any))
    (λ under n w k h.
    let below : AtMost (cost_in before false) n = subst (λ o. AtMost (cost_of (seen o)) n) any h in
    subst (λ c. AtMost (cost_in after true) (n + c)) e
    (under true (n + cost) (ordered_priced q cost n (plan_in before false) below)))

pub order_unwanted : (q : Statement) (s : Statistics) (vector : List ℕ) (set : ℕ) (cell : Cheapest)
    → wants_order q ≡ false → AreFound q s vector set (plan_in cell)
    → Offered q s vector set (TakesSort q s vector set) cell cell
order_unwanted q s vector set cell none found =
    unchanged q s vector set (TakesSort q s vector set) cell found
    (λ cost wants keys h. absurd (true≢false (sym wants ∙ none)))

pub order_unseen : (q : Statement) (s : Statistics) (vector : List ℕ) (set : ℕ) (cell : Cheapest)
    → has_all_keys set (wanted_order q) ≡ false → AreFound q s vector set (plan_in cell)
    → Offered q s vector set (TakesSort q s vector set) cell cell
order_unseen q s vector set cell none found =
    unchanged q s vector set (TakesSort q s vector set) cell found
    (λ cost wants keys h. absurd (true≢false (sym keys ∙ none)))
