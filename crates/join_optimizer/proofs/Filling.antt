-- The cells of all sets: no plan undercuts them.
use Rattle.std.proofs.Common.{ℕ, zero, suc, ◌≡◌, ◌<◌, ◌+◌, ◌*◌, ◌^◌, ◌⊎◌, inl, inr, Bool, true, false, List, [], ◌∷◌}
use Rattle.std.proofs.Common.{◌++◌, length, slice_index_or, Option, Some, None, IfSome, ap, sym, ◌∙◌, subst}
use Rattle.std.proofs.Common.{arith, pow_pos}
use Rattle.std.proofs.lemmas.List.{get_or_append_left, get_or_push, length_push}
use Rattle.row_values.specs.Statements.{Statement}
use Rattle.plan_trees.specs.PlaceSets.{one}
use Rattle.plan_trees.specs.Statistics.{Statistics}
use Rattle.plan_trees.specs.Trees.{Tree}
use Rattle.cost_model.specs.Costs.{access_unit, join_cost, plan_cost, sort_cost, step_cost}
use Rattle.plan_trees.specs.declared.scale.TheConstants.{COST_SCALE}
use Rattle.cost_model.specs.LeastCost.{AtMost, Costs, Table, IsFeasible, IsFeasiblePotential, IsPlanOf, IsTightCell}
use Rattle.cost_model.specs.LeastCost.{TakesPlace, TakesSort, TakesSplit}
use Rattle.cost_model.proofs.LowerBounds.{below_plan}
use Rattle.join_optimizer.specs.declared.found.Cheapest.{Cheapest}
use Rattle.join_optimizer.specs.Found.{Priced, AreFound, IsFound, cost_in, cost_of, nothing, plan_in, table_of}
use Rattle.join_optimizer.specs.Search.{AreCheapest, Offered, TakesBetween}
use Rattle.plan_trees.proofs.ListLaws.{below_next}
use Rattle.join_optimizer.proofs.Parts.{place_stays, split_stays}

-- One set.

pub cell_feasible : (q : Statement) (s : Statistics) (vector : List ℕ) (table : Table) (set : ℕ)
    (first placed joined best : Cheapest) → Offered q s vector
    set (TakesBetween (TakesPlace q s vector table set) 0 (length q.places)) first placed
    → Offered q s vector set (TakesBetween (TakesSplit q s vector table set) 1 set) placed joined
    → Offered q s vector set (TakesSort q s vector set) joined best
    → IsFeasiblePotential q s vector table set (cost_in best)
cell_feasible q s vector table set first placed joined best f g h = record {
  places = λ place less. place_stays q s vector table set place (cost_in joined) (cost_in best) h.keeps
      (place_stays q s vector table set place (cost_in placed) (cost_in joined) g.keeps
      (f.taken place (omega arith) less));
  splits = λ right some less. split_stays q s vector table set right (cost_in joined) (cost_in best) h.keeps
      (g.taken right (omega arith) less);
  sort = h.taken;
}

smaller : (from place set : ℕ) → from + one place ≡ set → from < set
smaller from place set e = let p = pow_pos place in omega arith

-- the inequalities of a set look at smaller sets alone
feasible_same : (q : Statement) (s : Statistics) (vector : List ℕ) (old new : Table) (set : ℕ) (before after : Costs)
    → ((sorted : Bool) (j : ℕ) → j < set → new sorted j ≡ old sorted j)
    → ((sorted : Bool) → before sorted ≡ after sorted)
    → IsFeasiblePotential q s vector old set before → IsFeasiblePotential q s vector new set after
feasible_same q s vector old new set before after e same f = record {
  places = λ place less. record {
    access = λ sorted access valid at alone ordered. subst (λ o. AtMost o (COST_SCALE * access_unit q s vector access))
        (same sorted) ((f.places place less).access sorted access valid at alone ordered);
    step = λ sorted from cost step some sum valid enters h.
        subst (λ o. AtMost o (cost + step_cost q s vector from step)) (same sorted)
        ((f.places place less).step sorted from cost step some sum valid enters
        (subst (λ o. AtMost o cost) (e sorted from (smaller from place set sum)) h));
  };
  splits = λ right some less sorted left edge m n sum valid h k.
      subst (λ o. AtMost o (m + n + join_cost q s vector left right)) (same sorted)
      (f.splits right some less sorted left edge m n sum valid
      (subst (λ o. AtMost o m) (e sorted left (omega arith)) h) (subst (λ o. AtMost o n) (e false right less) k));
  sort = λ cost wants keys h. subst (λ o. AtMost o (cost + sort_cost q s vector set)) (same true)
      (f.sort cost wants keys (subst (λ o. AtMost o cost) (sym (same false)) h));
}

-- One more cell.

pushed : (P : ℕ → Cheapest → Type 0) (cells : List Cheapest) (best : Cheapest)
    → ((set : ℕ) → P set (slice_index_or cells set nothing)) → P (length cells) best → (set : ℕ)
    → P set (slice_index_or (cells ++ best ∷ []) set nothing)
pushed P [] best h p zero = p
pushed P [] best h p (suc set) = h (suc set)
pushed P (cell ∷ cells) best h p zero = h 0
pushed P (cell ∷ cells) best h p (suc set) = pushed (λ i. P (suc i)) cells best (λ i. h (suc i)) p set

kept : (cells : List Cheapest) (best : Cheapest) (sorted : Bool) (set : ℕ) → set < length cells
    → table_of (cells ++ best ∷ []) sorted set ≡ table_of cells sorted set
kept cells best sorted set less = ap (λ (x : Cheapest). cost_in x sorted)
    (get_or_append_left cells (best ∷ []) nothing set less)

added : (cells : List Cheapest) (best : Cheapest) (count : ℕ) (sorted : Bool) → length cells ≡ count
    → cost_in best sorted ≡ table_of (cells ++ best ∷ []) sorted count
added cells best count sorted e = ap (λ (x : Cheapest). cost_in x sorted) (sym (get_or_push cells best nothing count e))

feasible_by : (q : Statement) (s : Statistics) (vector : List ℕ) (cells : List Cheapest) (count : ℕ) (best : Cheapest)
    → AreCheapest q s vector cells count → IsFeasiblePotential q s vector (table_of cells) count (cost_in best)
    → (set : ℕ) → 0 < set → (set < count) ⊎ (set ≡ count)
    → IsFeasiblePotential q s vector (table_of (cells ++ best ∷ [])) set
    (λ sorted. table_of (cells ++ best ∷ []) sorted set)
feasible_by q s vector cells count best h f set some (inl less) =
    let e = h.counted in
    feasible_same q s vector (table_of cells) (table_of (cells ++ best ∷ [])) set (λ sorted. table_of cells sorted set)
    (λ sorted. table_of (cells ++ best ∷ []) sorted set)
    (λ sorted j lower. kept cells best sorted j (omega arith))
    (λ sorted. sym (kept cells best sorted set (omega arith))) (h.feasible set some less)
feasible_by q s vector cells count best h f set some (inr same) =
    let e = h.counted in
    subst (λ n. IsFeasiblePotential q s vector (table_of (cells ++ best ∷ [])) n
    (λ sorted. table_of (cells ++ best ∷ []) sorted n)) (sym same)
    (feasible_same q s vector (table_of cells) (table_of (cells ++ best ∷ [])) count (cost_in best)
    (λ sorted. table_of (cells ++ best ∷ []) sorted count)
    (λ sorted j lower. kept cells best sorted j (omega arith)) (λ sorted. added cells best count sorted e) f)

pub cheapest_more : (q : Statement) (s : Statistics) (vector : List ℕ) (cells read after : List Cheapest) (count : ℕ)
    (best : Cheapest) → AreCheapest q s vector cells count → 0 < count → AreFound q s vector count (plan_in best)
    → read ≡ cells
    → IsFeasiblePotential q s vector (table_of read) count (cost_in best) → after ≡ cells ++ best ∷ []
    → AreCheapest q s vector after (count + 1)
cheapest_more q s vector cells read after count best h some found r f e =
    let here : IsFeasiblePotential q s vector (table_of cells) count (cost_in best) =
    subst (λ xs. IsFeasiblePotential q s vector (table_of xs) count (cost_in best)) r f in
    let few = h.counted in
    subst (λ xs. AreCheapest q s vector xs (count + 1)) (sym e) (record {
      counted = length_push cells best ∙ ap (λ n. n + 1) h.counted;
      none_of_none = λ sorted. kept cells best sorted 0 (omega arith) ∙ h.none_of_none sorted;
      found = pushed (λ set cell. AreFound q s vector set (plan_in cell)) cells best h.found
          (subst (λ n. AreFound q s vector n (plan_in best)) (sym h.counted) found);
      feasible = λ set above less. feasible_by q s vector cells count best h here set above (below_next set count less);
    })

-- All sets.

pub feasible_all : (q : Statement) (s : Statistics) (vector : List ℕ) (cells : List Cheapest)
    → AreCheapest q s vector cells (2 ^ length q.places) → IsFeasible q s vector (table_of cells)
feasible_all q s vector cells h = λ set p. h.feasible set p.some p.there

-- no plan of a set undercuts its cell
undercut_by_none : (q : Statement) (s : Statistics) (vector : List ℕ) (cells : List Cheapest) (sorted : Bool) (set : ℕ)
    (plan : Tree) → AreCheapest q s vector cells (2 ^ length q.places) → IsPlanOf q s sorted set plan
    → AtMost (table_of cells sorted set) (plan_cost q s vector plan)
undercut_by_none q s vector cells sorted set plan h fits =
    subst (λ n. AtMost (table_of cells sorted n) (plan_cost q s vector plan)) fits.whole
    (below_plan {q = q} {s = s} {vector = vector} {table = table_of cells} sorted plan
    (feasible_all q s vector cells h) fits.valid fits.in_order)

tight_by : (q : Statement) (s : Statistics) (vector : List ℕ) (sorted : Bool) (set : ℕ) (o : Option Priced)
    → IfSome o (IsFound q s vector sorted set)
    → ((plan : Tree) → IsPlanOf q s sorted set plan → AtMost (cost_of o) (plan_cost q s vector plan))
    → IsTightCell q s vector sorted set (cost_of o)
tight_by q s vector sorted set None h below = λ plan fits. below plan fits
tight_by q s vector sorted set (Some found) h below =
    record { plan = found.plan; fits = h.fits; costs = h.costs; below_all = below }

pub tight_at : (q : Statement) (s : Statistics) (vector : List ℕ) (cells : List Cheapest)
    → AreCheapest q s vector cells (2 ^ length q.places) → (sorted : Bool) (set : ℕ)
    → IsTightCell q s vector sorted set (table_of cells sorted set)
tight_at q s vector cells h sorted set = tight_by q s vector sorted set
    (plan_in (slice_index_or cells set nothing) sorted) (h.found set sorted)
    (λ plan fits. undercut_by_none q s vector cells sorted set plan h fits)
