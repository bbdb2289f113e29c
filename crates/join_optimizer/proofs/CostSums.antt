-- No sum of costs of the search passes 128 bits.
use Rattle.std.proofs.Common.{ℕ, ◌≡◌, ◌≤◌, ◌<◌, ◌+◌, ◌*◌, ◌^◌, Bool, true, false, List, slice_index_or, Option, Some}
use Rattle.std.proofs.Common.{None, IfSome, ap, sym, subst, arith}
use Rattle.row_values.specs.Statements.{Statement, IsSoundQuery}
use Rattle.plan_trees.specs.declared.plans.Access.{Access}
use Rattle.plan_trees.specs.declared.plans.StepKind.{StepKind}
use Rattle.plan_trees.specs.PlanSpace.{IsValidAccess, IsValidStep}
use Rattle.plan_trees.specs.Statistics.{Statistics, IsSoundStats, IsSoundVector}
use Rattle.plan_trees.specs.Trees.{Base}
use Rattle.cost_model.specs.Costs.{access_unit, step_cost, join_cost, sort_cost}
use Rattle.plan_trees.specs.declared.scale.TheConstants.{COST_SCALE}
use Rattle.cost_model.proofs.CostBounds.{costs_fit, join_below_limit, sort_below_limit, step_below_limit}
use Rattle.cost_model.proofs.CostBounds.{weighed_below_limit}
use Rattle.cost_model.specs.Cardinalities.{card_of}
use Rattle.cost_model.proofs.SoundNumbers.{are_sized}
use Rattle.join_optimizer.specs.declared.found.Cheapest.{Cheapest}
use Rattle.join_optimizer.specs.declared.found.Found.{Found}
use Rattle.join_optimizer.specs.Found.{AreFound, IsFound, cost_in, nothing, plan_in, seen, table_of}
use Rattle.join_optimizer.specs.Search.{AreCheapest}

fits_by : (q : Statement) (s : Statistics) (vector : List ℕ) (sorted : Bool) (set : ℕ) (o : Option Found)
    → IsSoundQuery q → IsSoundStats q s → IsSoundVector q s vector → IfSome (seen o) (IsFound q s vector sorted set)
    → IfSome o (λ found. found.cost < 2 ^ 124)
fits_by q s vector sorted set None query sound numbers h = h
fits_by q s vector sorted set (Some found) query sound numbers h =
    let fits = (costs_fit q s vector query sound numbers).plans _ h.fits.valid in
    let less = fits.high in
    let same = h.costs in
    omega arith

-- the cost of what was found fits, in any order and in the wanted one
pub any_fits : (q : Statement) (s : Statistics) (vector : List ℕ) (set : ℕ) (cell : Cheapest) → IsSoundQuery q
    → IsSoundStats q s → IsSoundVector q s vector → AreFound q s vector set (plan_in cell)
    → IfSome cell.any (λ found. found.cost < 2 ^ 124)
any_fits q s vector set cell query sound numbers found =
    fits_by q s vector false set cell.any query sound numbers (found false)

pub sorted_fits : (q : Statement) (s : Statistics) (vector : List ℕ) (set : ℕ) (cell : Cheapest) → IsSoundQuery q
    → IsSoundStats q s → IsSoundVector q s vector → AreFound q s vector set (plan_in cell)
    → IfSome cell.sorted (λ found. found.cost < 2 ^ 124)
sorted_fits q s vector set cell query sound numbers found =
    fits_by q s vector true set cell.sorted query sound numbers (found true)

pub one_more_fits : (o : Option Found) (cost : ℕ) → cost < 2 ^ 124 → IfSome o (λ found. found.cost < 2 ^ 124)
    → IfSome o (λ found. found.cost + cost < 2 ^ 128)
one_more_fits None cost less h = h
one_more_fits (Some found) cost less h = omega arith

pub two_more_fit : (o i : Option Found) (cost : ℕ) → cost < 2 ^ 124 → IfSome o (λ found. found.cost < 2 ^ 124)
    → IfSome i (λ found. found.cost < 2 ^ 124)
    → IfSome o (λ left. IfSome i (λ right. left.cost + right.cost + cost < 2 ^ 128))
two_more_fit None i cost less h k = h
two_more_fit (Some left) None cost less h k = k
two_more_fit (Some left) (Some right) cost less h k = omega arith

pub access_below : (q : Statement) (s : Statistics) (vector : List ℕ) (access : Access) (unit : ℕ) → IsSoundQuery q
    → IsSoundStats q s → IsSoundVector q s vector → IsValidAccess q s.indexed access
    → unit ≡ access_unit q s vector access → COST_SCALE * unit < 2 ^ 124
access_below q s vector access unit query sound numbers valid e =
    rw e (((costs_fit q s vector query sound numbers).plans (Base access) valid).high)

pub step_below : (q : Statement) (s : Statistics) (vector : List ℕ) (set : ℕ) (step : StepKind) (cost : ℕ)
    → IsSoundQuery q → IsSoundStats q s → IsSoundVector q s vector → IsValidStep q s.indexed set step
    → cost ≡ step_cost q s vector set step → cost < 2 ^ 124
step_below q s vector set step cost query sound numbers valid e =
    rw e (step_below_limit q s vector set step (are_sized q s vector query sound numbers) valid)

pub join_below : (q : Statement) (s : Statistics) (vector : List ℕ) (left right cost : ℕ) → IsSoundQuery q
    → IsSoundStats q s → IsSoundVector q s vector → cost ≡ join_cost q s vector left right → cost < 2 ^ 124
join_below q s vector left right cost query sound numbers e =
    rw e (join_below_limit q s vector left right (are_sized q s vector query sound numbers))

pub sort_below : (q : Statement) (s : Statistics) (vector : List ℕ) (set cost : ℕ) → IsSoundQuery q → IsSoundStats q s
    → IsSoundVector q s vector → cost ≡ sort_cost q s vector set → cost < 2 ^ 124
sort_below q s vector set cost query sound numbers e =
    rw e (sort_below_limit q s vector set (are_sized q s vector query sound numbers))

-- What is read of the cells.

pub read_found : (q : Statement) (s : Statistics) (vector : List ℕ) (cells : List Cheapest) (count set : ℕ)
    (cell : Cheapest) → AreCheapest q s vector cells count → cell ≡ slice_index_or cells set nothing
    → AreFound q s vector set (plan_in cell)
read_found q s vector cells count set cell h e = subst (λ x. AreFound q s vector set (plan_in x)) (sym e) (h.found set)

pub read_cost : (cells : List Cheapest) (set : ℕ) (cell : Cheapest) → cell ≡ slice_index_or cells set nothing
    → (sorted : Bool) → table_of cells sorted set ≡ cost_in cell sorted
read_cost cells set cell e sorted = ap (λ (x : Cheapest). cost_in x sorted) (sym e)

pub weighed_below : (q : Statement) (s : Statistics) (vector : List ℕ) (set weight given card : ℕ) → IsSoundQuery q
    → IsSoundStats q s → IsSoundVector q s vector → weight ≤ 1000 → given ≡ weight → card ≡ card_of q s vector set
    → given * card < 2 ^ 124
weighed_below q s vector set weight given card query sound numbers light e f =
    rw (e, f) (weighed_below_limit q s vector set weight (are_sized q s vector query sound numbers) light)
