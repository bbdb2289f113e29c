-- The cheaper of two plans is neither of both undercut, and is one of them.
use Rattle.std.proofs.Common.{ℕ, ◌≡◌, ◌≤◌, Bool, true, false, Option, Some, None, IfSome, refl, arith, true≢false}
use Rattle.std.proofs.Common.{if◌then◌else◌}
use Rattle.std.proofs.lemmas.Bool.Decides.{nat_tests}
use Rattle.cost_model.specs.LeastCost.{AtMost}
use Rattle.cost_model.proofs.LowerBounds.{at_most_more}
use Rattle.join_optimizer.specs.Found.{Priced, cheaper, cost_of, is_less}

less_kept : (n m : ℕ) (o : Option ℕ) → is_less n o ≡ true → AtMost o m → n ≤ m
less_kept n m None h k = absurd k
less_kept n m (Some x) h k = grind (arith, nat_tests)

not_less : (n : ℕ) (o : Option ℕ) → is_less n o ≡ false → AtMost o n
not_less n None h = absurd (true≢false h)
not_less n (Some x) h = grind (arith, nat_tests)

first_by : (b : Bool) (other : Priced) (best : Option Priced) (n : ℕ) → is_less other.cost (cost_of best) ≡ b
    → AtMost (cost_of best) n → AtMost (cost_of (if b then Some other else best)) n
first_by true other best n e h = less_kept other.cost n (cost_of best) e h
first_by false other best n e h = h

pub at_most_first : (best other : Option Priced) (n : ℕ) → AtMost (cost_of best) n
    → AtMost (cost_of (cheaper best other)) n
at_most_first best None n h = h
at_most_first best (Some other) n h = first_by (is_less other.cost (cost_of best)) other best n refl h

second_by : (b : Bool) (other : Priced) (best : Option Priced) (n : ℕ) → is_less other.cost (cost_of best) ≡ b
    → other.cost ≤ n → AtMost (cost_of (if b then Some other else best)) n
second_by true other best n e h = h
second_by false other best n e h = at_most_more (cost_of best) other.cost n (not_less other.cost (cost_of best) e) h

pub at_most_second : (best other : Option Priced) (n : ℕ) → AtMost (cost_of other) n
    → AtMost (cost_of (cheaper best other)) n
at_most_second best None n h = absurd h
at_most_second best (Some other) n h = second_by (is_less other.cost (cost_of best)) other best n refl h

one_by : (P : Priced → Type 0) (b : Bool) (other : Priced) (best : Option Priced) → IfSome best P → P other
    → IfSome (if b then Some other else best) P
one_by P true other best h k = k
one_by P false other best h k = h

pub one_of_both : (P : Priced → Type 0) (best other : Option Priced) → IfSome best P → IfSome other P
    → IfSome (cheaper best other) P
one_of_both P best None h k = h
one_of_both P best (Some other) h k = one_by P (is_less other.cost (cost_of best)) other best h k
