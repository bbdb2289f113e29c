-- The items of a table, one by one.
use Rattle.std.proofs.Common.{ℕ, zero, suc, ◌≡◌, ◌<◌, ◌+◌, List, [], ◌∷◌, ◌++◌, length, map, take, slice_index_or, refl}
use Rattle.std.proofs.Common.{ap, sym, ◌∙◌, subst, arith, All, Option, Some, None}
use Rattle.std.proofs.lemmas.List.{length-map, map-append, take_more}
use Rattle.serde_json.specs.Data.{Data, item}
use Rattle.serde_json.specs.View.{items_of, items_view, view}
use Rattle.serde_json.specs.declared.value.Value.{Value}
use Rattle.plan_costs.specs.declared.potentials.Cell.{Cell}
use Rattle.bound_certificate.specs.Certificates.{IsCell, cell_data, cells_data}

-- The values that are written.

-- the values of the cells of the sets from this one on, as a list
abbrev pub cell_list : ℕ → List Cell → List Data
cell_list set [] = []
cell_list set (cell ∷ cells) = cell_data set cell ∷ cell_list (set + 1) cells

pub items_same : (set : ℕ) (cells : List Cell) → items_of (cell_list set cells) ≡ cells_data set cells
items_same set [] = refl
items_same set (cell ∷ cells) = ap (item (cell_data set cell)) (items_same (set + 1) cells)

pub list_counted : (set : ℕ) (cells : List Cell) → length (cell_list set cells) ≡ length cells
list_counted set [] = refl
list_counted set (cell ∷ cells) = let same = list_counted (set + 1) cells in omega arith

list_pushed : (set : ℕ) (cells : List Cell) (cell : Cell)
    → cell_list set (cells ++ cell ∷ []) ≡ cell_list set cells ++ cell_data (set + length cells) cell ∷ []
list_pushed set [] cell = let same : set + 0 ≡ set = omega arith in rw same refl
list_pushed set (c ∷ cells) cell =
    let same : set + 1 + length cells ≡ set + length (c ∷ cells) = omega arith in
    ap (λ ds. cell_data set c ∷ ds)
    (subst (λ n. cell_list (set + 1) (cells ++ cell ∷ []) ≡ cell_list (set + 1) cells ++ cell_data n cell ∷ []) same
    (list_pushed (set + 1) cells cell))

-- one more value
pub list_more : (values : List Value) (value : Value) (cells : List Cell) (position set : ℕ) (cell : Cell)
    → map view values ≡ cell_list 1 (take position cells) → position < length cells
    → cell ≡ slice_index_or cells position cell → set ≡ length values + 1 → view value ≡ cell_data set cell
    → map view (values ++ value ∷ []) ≡ cell_list 1 (take (position + 1) cells)
list_more values value cells position set cell same less here e f =
    let more : take (position + 1) cells ≡ take position cells ++ cell ∷ [] =
    take_more cells position cell less ∙ ap (λ x. take position cells ++ x ∷ []) (sym here) in
    let counted : length values ≡ length (take position cells) =
    sym (length-map values view) ∙ ap length same ∙ list_counted 1 (take position cells) in
    let number : set ≡ 1 + length (take position cells) = omega arith in
    rw (more, list_pushed 1 (take position cells) cell, map-append view values (value ∷ []), same, f, number) refl

-- The values that are read.

-- as many values as cells
pub one_each : (values : List Value) (set : ℕ) (cells : List Cell) → items_view values ≡ cells_data set cells
    → length values ≡ length cells
one_each [] set [] e = refl
one_each [] set (cell ∷ cells) e = cc
one_each (value ∷ values) set [] e = cc
one_each (value ∷ values) set (cell ∷ cells) e =
    let rest : items_view values ≡ cells_data (set + 1) cells = cc in
    let same = one_each values (set + 1) cells rest in
    omega arith

-- and each value is that of its cell
pub value_of : (values : List Value) (set : ℕ) (cells : List Cell) (position : ℕ) (value : Value) (cell : Cell)
    → items_view values ≡ cells_data set cells → position < length values
    → view (slice_index_or values position value) ≡ cell_data (set + position) (slice_index_or cells position cell)
value_of [] set cells position value cell e less = absurd (omega arith)
value_of (v ∷ values) set [] position value cell e less = cc
value_of (v ∷ values) set (c ∷ cells) zero value cell e less =
    let first : view v ≡ cell_data set c = cc in
    let same : set + 0 ≡ set = omega arith in
    rw same first
value_of (v ∷ values) set (c ∷ cells) (suc position) value cell e less =
    let rest : items_view values ≡ cells_data (set + 1) cells = cc in
    let same : set + suc position ≡ set + 1 + position = omega arith in
    rw same (value_of values (set + 1) cells position value cell rest (omega arith))

-- what is found of a value is the cell
pub cell_found : (values : List Value) (set : ℕ) (cells : List Cell) (position : ℕ) (value : Value) (cell : Cell)
    (found : Option Cell) → All IsCell cells → items_view values ≡ cells_data set cells → position < length values
    → value ≡ slice_index_or values position value
    → ((set : ℕ) (cell : Cell) → IsCell cell → view value ≡ cell_data set cell → found ≡ Some cell)
    → found ≡ Some (slice_index_or cells position cell)
cell_found values set cells position value cell found all e less here f =
    let same = one_each values set cells e in
    f (set + position) (slice_index_or cells position cell) (all position cell (omega arith))
    (ap view here ∙ value_of values set cells position value cell e less)

-- and the cells so far are one more
pub cells_pushed : (values : List Value) (set : ℕ) (cells list : List Cell) (position : ℕ) (value : Value) (cell : Cell)
    → All IsCell cells → items_view values ≡ cells_data set cells → position < length values
    → value ≡ slice_index_or values position value → list ≡ take position cells
    → ((set : ℕ) (wanted : Cell) → IsCell wanted → view value ≡ cell_data set wanted → Some cell ≡ Some wanted)
    → list ++ cell ∷ [] ≡ take (position + 1) cells
cells_pushed values set cells list position value cell all e less here so_far f =
    let same = one_each values set cells e in
    let found : Some cell ≡ Some (slice_index_or cells position cell) =
    cell_found values set cells position value cell (Some cell) all e less here f in
    let one : slice_index_or cells position cell ≡ cell = cc in
    let more : take (position + 1) cells ≡ take position cells ++ slice_index_or cells position cell ∷ [] =
    take_more cells position cell (omega arith) in
    rw (so_far, more, one) refl

-- a cell to ask for one with
pub no_cell : Cell
no_cell = record { any = 0; sorted = None }
