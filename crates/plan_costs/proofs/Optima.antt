-- A tight table as a list of cells, and so an optimum of every sound statement.
use Rattle.std.proofs.Common.{ℕ, zero, suc, ◌≡◌, ◌≤◌, ◌<◌, ◌+◌, ◌-◌, ◌^◌, Bool, true, false, List, length, map}
use Rattle.std.proofs.Common.{slice_get, Option, Some, None, IsSome, option_and_then, refl, ap, sym, ◌∙◌, subst, arith}
use Rattle.std.proofs.Common.{pow_pos}
use Rattle.std.specs.List.{range_with_len}
use Rattle.std.specs.Prelude.{unwrap_or}
use Rattle.std.proofs.lemmas.List.FromFn.{get_or-map-range_with_len, length-map-range_with_len}
use Rattle.std.proofs.lemmas.Option.{slice_get-get_or}
use Rattle.row_values.specs.Statements.{Statement, IsSoundQuery}
use Rattle.plan_trees.specs.Statistics.{Statistics}
use Rattle.cost_model.specs.Laws.{HasTightTable}
use Rattle.cost_model.specs.LeastCost.{Table, IsTight, IsTightCell}
use Rattle.cost_model.proofs.TightExists.{tight_exists}
use Rattle.plan_costs.specs.BestPlans.{in_cell, table_of_cells}
use Rattle.plan_costs.specs.Laws.{HasOptimum}
use Rattle.plan_costs.specs.declared.potentials.Cell.{Cell}

-- The cells of a table: those of the sets from 1 on, of so many sets.

cell_of : Table → ℕ → Cell
cell_of table set = record { any = unwrap_or (table false set) 0; sorted = table true set }

cells_of : Table → ℕ → List Cell
cells_of table count = map (cell_of table) (range_with_len 1 count)

one_for_each : (table : Table) (count : ℕ) → length (cells_of table count) ≡ count
unfolding cells_of
one_for_each table count = length-map-range_with_len (cell_of table) 1 count

cell_at : (table : Table) (count position : ℕ) → position < count
    → slice_get (cells_of table count) position ≡ Some (cell_of table (suc position))
unfolding cells_of
cell_at table count position less =
    let long = length-map-range_with_len (cell_of table) 1 count in
    slice_get-get_or (map (cell_of table) (range_with_len 1 count)) position (cell_of table 0)
    (omega (arith, long, less))
    ∙ ap Some (get_or-map-range_with_len (cell_of table) 1 count position (suc position) (cell_of table 0) less
    (omega arith))

some_kept : (number : Option ℕ) → IsSome number → Some (unwrap_or number 0) ≡ number
some_kept None h = absurd (cc)
some_kept (Some n) h = refl

same_in_cell : (table : Table) (sorted : Bool) (set : ℕ) → IsSome (table false set)
    → in_cell sorted (cell_of table set) ≡ table sorted set
unfolding cell_of
same_in_cell table true set h = refl
same_in_cell table false set h = some_kept (table false set) h

-- the list has the numbers of the table, where a set has one
same_number : (table : Table) (count : ℕ) (sorted : Bool) (set : ℕ) → 0 < set → set ≤ count
    → IsSome (table false set) → table_of_cells (cells_of table count) sorted set ≡ table sorted set
same_number table count sorted zero some few h = absurd (omega arith)
same_number table count sorted (suc position) some few h =
    ap (option_and_then (in_cell sorted)) (cell_at table count position (omega arith))
    ∙ same_in_cell table sorted (suc position) h

-- The optimum.

count_of : Statement → ℕ
count_of q = 2 ^ length q.places - 1

tight_cells : (q : Statement) (s : Statistics) (vector : List ℕ) (t : HasTightTable q s vector)
    → IsTight q s vector (table_of_cells (cells_of t.table (count_of q))) t.least
unfolding count_of
tight_cells q s vector t = record {
  cells = λ sorted set there. subst (λ number. IsTightCell q s vector sorted set number)
      (sym (same_number t.table (2 ^ length q.places - 1) sorted set there.some (let less = there.there in omega arith)
      (t.each_reached set there))) (t.is_tight.cells sorted set there);
  least_cost = t.is_tight.least_cost;
}

one_more : (q : Statement) (table : Table) → length (cells_of table (count_of q)) + 1 ≡ 2 ^ length q.places
unfolding count_of
one_more q table =
    let long = one_for_each table (2 ^ length q.places - 1) in
    let some = pow_pos (length q.places) in
    omega arith

optimum_of : (q : Statement) (s : Statistics) (vector : List ℕ) → HasTightTable q s vector → HasOptimum q s vector
optimum_of q s vector t =
    let least = t.is_tight.least_cost in
    record {
      top = least.reached.top;
      cost = t.least;
      bounds = record { cells = cells_of t.table (count_of q); least = t.least };
      is_optimum = record {
        valid = least.reached.valid;
        costs = least.reached.costs;
        least = least;
        one_each = one_more q t.table;
        tight = tight_cells q s vector t;
        same = refl;
      };
    }

pub optimum_exists : (q : Statement) (s : Statistics) (vector : List ℕ) → IsSoundQuery q → HasOptimum q s vector
optimum_exists q s vector h = optimum_of q s vector (tight_exists q s vector h)
