-- An end of another kind than the column leaves no row in.
use Rattle.std.proofs.Common.{ℕ, ◌≡◌, ◌<◌, ◌≤◌, ◌⊎◌, inl, inr, Bool, true, false, subst, ◌&&◌, List, [], ◌∷◌, length, map, get_or, ap, sym, ◌∙◌, refl}
use Rattle.std.specs.Prelude.{filter, slice_get, Option, Some, None}
use Rattle.std.specs.Option.{option_map}
use Rattle.std.specs.declared.cmp.Ordering.{Ordering}
use Rattle.std.proofs.Math.Bool.{and-false}
use Rattle.std.proofs.lemmas.Bool.{false≢true}
use Rattle.std.proofs.lemmas.Option.{slice_get_cases, slice_get-map}
use Rattle.row_values.specs.Orders.{compares}
use Rattle.row_values.specs.Values.{kind_of}
use Rattle.row_values.specs.declared.values.Kind.{Kind}
use Rattle.row_values.specs.declared.values.Value.{Value}
use Rattle.row_values.specs.declared.values.Value.TheVariants.{Int, Text}
use Rattle.csv_tables.specs.Tables.{IsTable, TableValue, cell_at, column_kinds, value_in}
use Rattle.table_index.specs.Bounds.{FitsColumn, lies_within, meets_high, meets_low}
use Rattle.table_index.specs.declared.bounds.Bound.{Bound}
use Rattle.table_index.specs.declared.bounds.Bound.TheVariants.{Free, Closed, Strict}

pub none_pass : {X : Type 0} (p : X → Bool) → ((x : X) → p x ≡ false) → (xs : List X) → [] ≡ filter p xs
none_pass p h [] = refl
none_pass p h (x ∷ xs) = rw (h x) (none_pass p h xs)

-- a cell is of its column's kind
kind_here : (table : TableValue) → IsTable table → (row column : ℕ) (w : Value) → cell_at table row column ≡ Some w
    → slice_get (column_kinds table.schema) column ≡ Some (kind_of w)
kind_here table t row column w at = by_row (slice_get_cases table.rows row).1
  where
    by_row : ((x : List Value) × (row < length table.rows) × (slice_get table.rows row ≡ Some x)
        × (get_or table.rows row x ≡ x)) ⊎ ((length table.rows ≤ row) × (slice_get table.rows row ≡ None))
        → slice_get (column_kinds table.schema) column ≡ Some (kind_of w)
    by_row (inl (x, inside, there, is)) =
        let cell : slice_get x column ≡ Some w = ap (λ (r : Option (List Value)). value_in r column) (sym there) ∙ at in
        let kinds : map kind_of x ≡ column_kinds table.schema =
        ap (map kind_of) (sym is) ∙ t.fits row x inside in
        ap (λ (ks : List Kind). slice_get ks column) (sym kinds)
        ∙ (slice_get-map kind_of x column ∙ ap (option_map kind_of) cell)
    by_row (inr (past, none)) =
        let bad : None ≡ Some w = ap (λ (r : Option (List Value)). value_in r column) (sym none) ∙ at in absurd cc

not_compared : (passes : Ordering → Bool) (w v : Value) → (kind_of w ≡ kind_of v → ⊥)
    → compares passes (Some w) (Some v) ≡ false
not_compared passes (Int a) (Int b) h = absurd (h refl)
not_compared passes (Text a) (Text b) h = absurd (h refl)
not_compared passes (Int a) (Text b) h = refl
not_compared passes (Text a) (Int b) h = refl

misfit : (passes : Ordering → Bool) (table : TableValue) → IsTable table → (column row : ℕ) (v : Value)
    → (slice_get (column_kinds table.schema) column ≡ Some (kind_of v) → ⊥)
    → compares passes (cell_at table row column) (Some v) ≡ false
misfit passes table t column row v h = go (cell_at table row column) refl
  where
    go : (cell : Option Value) → cell_at table row column ≡ cell → compares passes cell (Some v) ≡ false
    go None at = refl
    go (Some w) at =
        not_compared passes w v (λ same. h (kind_here table t row column w at ∙ ap Some same))

low_misfits : (table : TableValue) → IsTable table → (column row : ℕ) (low : Bound) → (FitsColumn table column low → ⊥)
    → meets_low low (cell_at table row column) ≡ false
low_misfits table t column row Free h = absurd (h tt)
low_misfits table t column row (Closed end) h = misfit _ table t column row end.now h
low_misfits table t column row (Strict end) h = misfit _ table t column row end.now h

high_misfits : (table : TableValue) → IsTable table → (column row : ℕ) (high : Bound)
    → (FitsColumn table column high → ⊥) → meets_high high (cell_at table row column) ≡ false
high_misfits table t column row Free h = absurd (h tt)
high_misfits table t column row (Closed end) h = misfit _ table t column row end.now h
high_misfits table t column row (Strict end) h = misfit _ table t column row end.now h

so_not : (b : Bool) → b ≡ true → b ≡ false → ⊥
so_not b e h = false≢true (sym h ∙ e)

-- so no row lies between two ends of which one doesn't fit; the column is named twice, as code and clauses do
pub none_by_low : (table : TableValue) → IsTable table → (column at : ℕ) → at ≡ column → (low high : Bound)
    (rows : List ℕ) (fits : Bool) → (FitsColumn table at low → fits ≡ true) → fits ≡ false
    → [] ≡ filter (lies_within table column low high) rows
none_by_low table t column at same low high rows fits told not_so =
    none_pass (lies_within table column low high)
    (λ row. ap (λ (b : Bool). b && meets_high high (cell_at table row column))
    (low_misfits table t column row low (λ f. so_not fits (told (subst (λ (k : ℕ). FitsColumn table k low) (sym same) f)) not_so)))
    rows

pub none_by_high : (table : TableValue) → IsTable table → (column at : ℕ) → at ≡ column → (low high : Bound)
    (rows : List ℕ) (fits : Bool) → (FitsColumn table at high → fits ≡ true) → fits ≡ false
    → [] ≡ filter (lies_within table column low high) rows
none_by_high table t column at same low high rows fits told not_so =
    none_pass (lies_within table column low high)
    (λ row. ap (λ (b : Bool). meets_low low (cell_at table row column) && b)
    (high_misfits table t column row high
    (λ f. so_not fits (told (subst (λ (k : ℕ). FitsColumn table k high) (sym same) f)) not_so))
    ∙ and-false (meets_low low (cell_at table row column))) rows
