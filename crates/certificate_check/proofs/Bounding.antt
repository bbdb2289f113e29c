-- What the comparisons of a cell's numbers tell.
use Rattle.std.proofs.Common.{ℕ, ◌≡◌, ◌≤◌, ◌<◌, ◌+◌, Bool, true, false, IsTrue, Option, Some, None}
use Rattle.std.proofs.Common.{sym, subst₂, arith, le_refl}
use Rattle.std.specs.Prelude.{◌↔◌}
use Rattle.row_values.specs.Statements.{Statement}
use Rattle.plan_trees.specs.declared.plans.Access.{Access}
use Rattle.plan_trees.specs.PlanSpace.{is_sorted_access}
use Rattle.cost_model.specs.LeastCost.{AtMost}
use Rattle.cost_model.proofs.LowerBounds.{not_sorted}
use Rattle.plan_costs.specs.declared.potentials.Cell.{Cell}
use Rattle.certificate_check.specs.Bounds.{TakesAccess, TakesBoth, TakesOver, costs_of}
use Rattle.certificate_check.proofs.Answering.{fails, retold}

-- One number.

number_by : (r : Bool) (number cost more : ℕ) → (IsTrue r ↔ (number ≤ cost + more))
    → IsTrue r ↔ ((n : ℕ) → cost ≤ n → number ≤ n + more)
number_by r number cost more h = retold r h (λ k n less. omega arith) (λ f. f cost (le_refl cost))

-- over a base that is there
pub over_number : (r : Bool) (base bound : Option ℕ) (number cost more : ℕ) → base ≡ Some cost → bound ≡ Some number
    → (IsTrue r ↔ (number ≤ cost + more))
    → IsTrue r ↔ ((n : ℕ) → AtMost base n → AtMost bound (n + more))
over_number r base bound number cost more e f h =
    subst₂ (λ b o. IsTrue r ↔ ((n : ℕ) → AtMost b n → AtMost o (n + more))) (sym e) (sym f)
    (number_by r number cost more h)

pub no_bound : (base bound : Option ℕ) (cost more : ℕ) → base ≡ Some cost → bound ≡ None
    → IsTrue false ↔ ((n : ℕ) → AtMost base n → AtMost bound (n + more))
no_bound base bound cost more e f =
    subst₂ (λ b o. IsTrue false ↔ ((n : ℕ) → AtMost b n → AtMost o (n + more))) (sym e) (sym f)
    (fails (λ k. k cost (le_refl cost)))

both_by_numbers : (r : Bool) (number cost inner more : ℕ) → (IsTrue r ↔ (number ≤ cost + inner + more))
    → IsTrue r ↔ ((outer_cost inner_cost : ℕ) → cost ≤ outer_cost → inner ≤ inner_cost
    → number ≤ outer_cost + inner_cost + more)
both_by_numbers r number cost inner more h =
    retold r h (λ k m n a b. omega arith) (λ f. f cost inner (le_refl cost) (le_refl inner))

-- over two sides that are there
pub both_numbers : (r : Bool) (outer bound : Option ℕ) (number cost inner more : ℕ) → outer ≡ Some cost
    → bound ≡ Some number → (IsTrue r ↔ (number ≤ cost + inner + more))
    → IsTrue r ↔ ((outer_cost inner_cost : ℕ) → AtMost outer outer_cost → inner ≤ inner_cost
    → AtMost bound (outer_cost + inner_cost + more))
both_numbers r outer bound number cost inner more e f h =
    subst₂ (λ b o. IsTrue r ↔ ((outer_cost inner_cost : ℕ) → AtMost b outer_cost → inner ≤ inner_cost
    → AtMost o (outer_cost + inner_cost + more))) (sym e) (sym f)
    (both_by_numbers r number cost inner more h)

pub both_no_bound : (outer bound : Option ℕ) (cost inner more : ℕ) → outer ≡ Some cost → bound ≡ None
    → IsTrue false ↔ ((outer_cost inner_cost : ℕ) → AtMost outer outer_cost → inner ≤ inner_cost
    → AtMost bound (outer_cost + inner_cost + more))
both_no_bound outer bound cost inner more e f =
    subst₂ (λ b o. IsTrue false ↔ ((outer_cost inner_cost : ℕ) → AtMost b outer_cost → inner ≤ inner_cost
    → AtMost o (outer_cost + inner_cost + more))) (sym e) (sym f)
    (fails (λ k. k cost inner (le_refl cost) (le_refl inner)))

-- Accesses.

pub access_refused : (q : Statement) (access : Access) (cost : ℕ) (cell : Cell) → cost < cell.any
    → IsTrue false ↔ TakesAccess q access cost (costs_of cell)
access_refused q access cost cell less = fails (λ t. let h : cell.any ≤ cost = t false not_sorted in omega arith)

sorted_by : (q : Statement) (access : Access) (cost : ℕ) (cell : Cell) → cell.any ≤ cost → AtMost cell.sorted cost
    → TakesAccess q access cost (costs_of cell)
sorted_by q access cost cell h k true e = k
sorted_by q access cost cell h k false e = h

pub access_sorted : (q : Statement) (access : Access) (cost : ℕ) (cell : Cell) (r : Bool) → cell.any ≤ cost
    → is_sorted_access q access ≡ true → (IsTrue r ↔ AtMost cell.sorted cost)
    → IsTrue r ↔ TakesAccess q access cost (costs_of cell)
access_sorted q access cost cell r h e k =
    retold r k (sorted_by q access cost cell h) (λ t. t true (λ u. e))

-- Steps.

pub over_refused : (outer cell : Cell) (more : ℕ) → ¬ (cell.any ≤ outer.any + more)
    → IsTrue false ↔ TakesOver (costs_of outer) more (costs_of cell)
over_refused outer cell more never = fails (λ t. never (t false outer.any (le_refl outer.any)))

over_by : (outer cell : Cell) (more : ℕ) → cell.any ≤ outer.any + more
    → ((cost : ℕ) → AtMost outer.sorted cost → AtMost cell.sorted (cost + more))
    → TakesOver (costs_of outer) more (costs_of cell)
over_by outer cell more h k true cost below = k cost below
over_by outer cell more h k false cost below = omega arith

pub over_sorted : (outer cell : Cell) (more : ℕ) (r : Bool) → cell.any ≤ outer.any + more
    → (IsTrue r ↔ ((cost : ℕ) → AtMost outer.sorted cost → AtMost cell.sorted (cost + more)))
    → IsTrue r ↔ TakesOver (costs_of outer) more (costs_of cell)
over_sorted outer cell more r h k = retold r k (over_by outer cell more h) (λ t. t true)

-- Hash joins.

pub both_refused : (outer inner cell : Cell) (more : ℕ)
    → ¬ ((outer_cost inner_cost : ℕ) → outer.any ≤ outer_cost → inner.any ≤ inner_cost
    → cell.any ≤ outer_cost + inner_cost + more)
    → IsTrue false ↔ TakesBoth (costs_of outer) (costs_of inner) more (costs_of cell)
both_refused outer inner cell more never = fails (λ t. never (t false))

both_by : (outer inner cell : Cell) (more : ℕ)
    → ((outer_cost inner_cost : ℕ) → outer.any ≤ outer_cost → inner.any ≤ inner_cost
    → cell.any ≤ outer_cost + inner_cost + more)
    → ((outer_cost inner_cost : ℕ) → AtMost outer.sorted outer_cost → inner.any ≤ inner_cost
    → AtMost cell.sorted (outer_cost + inner_cost + more))
    → TakesBoth (costs_of outer) (costs_of inner) more (costs_of cell)
both_by outer inner cell more h k true = k
both_by outer inner cell more h k false = h

pub both_sorted : (outer inner cell : Cell) (more : ℕ) (r : Bool)
    → ((outer_cost inner_cost : ℕ) → outer.any ≤ outer_cost → inner.any ≤ inner_cost
    → cell.any ≤ outer_cost + inner_cost + more)
    → (IsTrue r ↔ ((outer_cost inner_cost : ℕ) → AtMost outer.sorted outer_cost → inner.any ≤ inner_cost
    → AtMost cell.sorted (outer_cost + inner_cost + more)))
    → IsTrue r ↔ TakesBoth (costs_of outer) (costs_of inner) more (costs_of cell)
both_sorted outer inner cell more r h k = retold r k (both_by outer inner cell more h) (λ t. t true)
