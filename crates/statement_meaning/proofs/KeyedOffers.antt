-- What is offered by a look-up: of the combinations of the inner side, or of the rows of the place that enters, those
-- whose cell in the column of one edge equals the cell of the outer side's combination there.
use Rattle.std.proofs.Common.{ℕ, ◌≡◌, ◌<◌, Bool, true, false, ◌&&◌, ◌||◌, List, set, cond, ap, sym, ◌∙◌, refl}
use Rattle.std.specs.Prelude.{filter, slice_get, Option, Some, nat_eq}
use Rattle.std.specs.Ordering.{is_eq}
use Rattle.std.proofs.lemmas.Bool.{false≢true, eqb-true, and_parts}
use Rattle.row_values.specs.Statements.{Statement}
use Rattle.row_values.specs.declared.values.Value.{Value}
use Rattle.row_values.specs.declared.statement.ColRef.{ColRef}
use Rattle.row_values.specs.declared.statement.Edge.{Edge}
use Rattle.row_values.specs.declared.statement.Pred.{Pred}
use Rattle.row_values.specs.RowNumbers.{row_numbers}
use Rattle.statement_meaning.specs.Combinations.{edges_hold, row_at, world_of}
use Rattle.row_values.specs.Orders.{compares}
use Rattle.statement_meaning.specs.Conditions.{holds}
use Rattle.statement_meaning.specs.Meaning.{cell_of}
use Rattle.statement_meaning.specs.PartialCombinations.{single, AreApart, is_between, end_in, edges_between, Fits, Once}
use Rattle.statement_meaning.specs.PartialCombinations.{merged, Offers, RowsOnce, OffersRows}
use Rattle.statement_meaning.proofs.Asking.{edge_asks, edge_asks_back, row_asks, row_asks_back, pred_asks}
use Rattle.row_values.proofs.Counting.{HaveSame}
use Rattle.statement_meaning.proofs.Entering.{single_apart, passing_rows_offered, tested_rows_once, tested_rows_offered}
use Rattle.statement_meaning.proofs.EqualCells.{equal_cells, cells_equal}
use Rattle.statement_meaning.proofs.Joining.{passing_offered}

-- Cells that compare as equal.

pub equal_back : (left right : Option Value) → compares is_eq left right ≡ true → compares is_eq right left ≡ true
equal_back left right h =
    let e = equal_cells left right h in cells_equal right left (record {
      value = e.value;
      first = e.second;
      second =
          e.first;
    })

-- The two ends of an edge between two sets.

-- the ends of an edge in two sets with no place in common, by which way round it lies
record Ends (outer : ℕ → Bool) (inner : ℕ → Bool) (edge : Edge) (mine : ColRef) (other : ColRef) : Type 0 where
  in_outer : outer mine.place ≡ true
  in_inner : inner other.place ≡ true
  first : end_in outer edge ≡ mine
  second : end_in inner edge ≡ other

straight : (outer inner : ℕ → Bool) → AreApart outer inner → (edge : Edge) → outer edge.left.place ≡ true
    → is_between outer inner edge ≡ true → Ends outer inner edge edge.left edge.right
straight outer inner apart edge l h = record {
  in_outer = l;
  in_inner = by_test (inner edge.right.place) refl;
  first = ap (λ (b : Bool). cond b edge.left edge.right) l;
  second = ap (λ (b : Bool). cond b edge.left edge.right) (apart edge.left.place l);
}
  where
    no_and : (b : Bool) → (b && false) ≡ false
    no_and true = refl
    no_and false = refl

    neither : inner edge.right.place ≡ false → is_between outer inner edge ≡ false
    neither n = rw (n, apart edge.left.place l, no_and (outer edge.left.place), no_and (outer edge.right.place)) refl

    by_test : (b : Bool) → inner edge.right.place ≡ b → inner edge.right.place ≡ true
    by_test true e = e
    by_test false e = absurd (false≢true (sym (neither e) ∙ h))

crossed : (outer inner : ℕ → Bool) → AreApart outer inner → (edge : Edge) → outer edge.left.place ≡ false
    → is_between outer inner edge ≡ true → Ends outer inner edge edge.right edge.left
crossed outer inner apart edge l h =
    let both = and_parts (outer edge.right.place) (inner edge.left.place)
    (sym (ap (λ (b : Bool). (b && inner edge.right.place) || (outer edge.right.place && inner edge.left.place)) l)
    ∙ h) in
    record {
      in_outer = both.0;
      in_inner = both.1;
      first = ap (λ (b : Bool). cond b edge.left edge.right) l;
      second = ap (λ (b : Bool). cond b edge.left edge.right) both.1;
    }

-- Two sides: where combinations meet the edges between, their cells at the ends of each such edge are equal.
pub ends_equal : (q : Statement) (tables : List (List (List Value))) (args : List Value) (outer inner : ℕ → Bool)
    → AreApart outer inner → (number : ℕ) (edge : Edge) → slice_get q.edges number ≡ Some edge
    → is_between outer inner edge ≡ true → (c d : List ℕ) → Fits (world_of q tables args) outer c
    → Fits (world_of q tables args) inner d
    → edges_hold (world_of q tables args) (edges_between (world_of q tables args) outer inner) (merged outer c d) ≡ true
    → compares is_eq (cell_of tables c (end_in outer edge)) (cell_of tables d (end_in inner edge)) ≡ true
ends_equal q tables args outer inner apart number edge at h c d f g m = by_way (outer edge.left.place) refl
  where
    at_ends : (mine other : ColRef) → Ends outer inner edge mine other
        → compares is_eq (cell_of tables c mine) (cell_of tables d other) ≡ true
        → compares is_eq (cell_of tables c (end_in outer edge)) (cell_of tables d (end_in inner edge)) ≡ true
    at_ends mine other e k =
        ap (λ (x : ColRef). compares is_eq (cell_of tables c x) (cell_of tables d (end_in inner edge))) e.first
        ∙ (ap (λ (x : ColRef). compares is_eq (cell_of tables c mine) (cell_of tables d x)) e.second ∙ k)

    by_way : (b : Bool) → outer edge.left.place ≡ b
        → compares is_eq (cell_of tables c (end_in outer edge)) (cell_of tables d (end_in inner edge)) ≡ true
    by_way true l =
        let e = straight outer inner apart edge l h in
        at_ends edge.left edge.right e
        (edge_asks (world_of q tables args) outer inner apart c d f g m number edge at e.in_outer e.in_inner)
    by_way false l =
        let e = crossed outer inner apart edge l h in
        at_ends edge.right edge.left e
        (equal_back (cell_of tables d edge.left) (cell_of tables c edge.right)
        (edge_asks_back (world_of q tables args) outer inner apart c d f g m number edge at e.in_inner e.in_outer))

-- So those of the inner side with an equal cell at one edge may be offered: the hash join.
pub equal_offered : (q : Statement) (tables : List (List (List Value))) (args : List Value) (outer inner : ℕ → Bool)
    → AreApart outer inner → (number : ℕ) (edge : Edge) → slice_get q.edges number ≡ Some edge
    → is_between outer inner edge ≡ true → (c : List ℕ) (ds : List (List ℕ)) → Fits (world_of q tables args) outer c
    → Once (world_of q tables args) inner ds
    → Offers (world_of q tables args) outer inner c
    (filter (λ d. compares is_eq (cell_of tables c (end_in outer edge)) (cell_of tables d (end_in inner edge))) ds)
equal_offered q tables args outer inner apart number edge at h c ds f o =
    passing_offered (world_of q tables args) outer inner c ds
    (λ d. compares is_eq (cell_of tables c (end_in outer edge)) (cell_of tables d (end_in inner edge))) o
    (λ d g m. ends_equal q tables args outer inner apart number edge at h c d f g m)

-- One place: where a combination and a row meet the edges by which the place enters, their cells are equal.
pub row_ends_equal : (q : Statement) (tables : List (List (List Value))) (args : List Value) (outer : ℕ
    → Bool) (place : ℕ)
    → outer place ≡ false → place < (world_of q tables args).places → (number : ℕ) (edge : Edge)
    → slice_get q.edges number ≡ Some edge → is_between outer (single place) edge ≡ true → (c : List ℕ) (row : ℕ)
    → Fits (world_of q tables args) outer c
    → edges_hold (world_of q tables args) (edges_between (world_of q tables args) outer (single place))
    (set c place row) ≡ true
    → compares is_eq (cell_of tables c (end_in outer edge))
    (slice_get (row_at tables place row) (end_in (single place) edge).column) ≡ true
row_ends_equal q tables args outer place out i number edge at h c row f m = by_way (outer edge.left.place) refl
  where
    at_ends : (mine other : ColRef) → Ends outer (single place) edge mine other
        → compares is_eq (cell_of tables c mine) (slice_get (row_at tables place row) other.column) ≡ true
        → compares is_eq (cell_of tables c (end_in outer edge))
        (slice_get (row_at tables place row) (end_in (single place) edge).column) ≡ true
    at_ends mine other e k =
        ap (λ (x : ColRef). compares is_eq (cell_of tables c x)
        (slice_get (row_at tables place row) (end_in (single place) edge).column)) e.first
        ∙ (ap (λ (x : ColRef). compares is_eq (cell_of tables c mine) (slice_get (row_at tables place row) x.column))
        e.second ∙ k)

    by_way : (b : Bool) → outer edge.left.place ≡ b
        → compares is_eq (cell_of tables c (end_in outer edge))
        (slice_get (row_at tables place row) (end_in (single place) edge).column) ≡ true
    by_way true l =
        let e = straight outer (single place) (single_apart outer place out) edge l h in
        let there : place ≡ edge.right.place = eqb-true place edge.right.place e.in_inner in
        at_ends edge.left edge.right e
        (ap (λ (p : ℕ). compares is_eq (cell_of tables c edge.left) (slice_get (row_at tables p row) edge.right.column))
        there ∙ row_asks (world_of q tables args) outer place out i c f row m number edge at e.in_outer (sym there))
    by_way false l =
        let e = crossed outer (single place) (single_apart outer place out) edge l h in
        let there : place ≡ edge.left.place = eqb-true place edge.left.place e.in_inner in
        at_ends edge.right edge.left e
        (ap (λ (p : ℕ). compares is_eq (cell_of tables c edge.right) (slice_get (row_at tables p row) edge.left.column))
        there ∙ equal_back (slice_get (row_at tables edge.left.place row) edge.left.column)
        (cell_of tables c edge.right) (row_asks_back (world_of q tables args) outer place out i c f row m number
        edge at (sym there) e.in_outer))

-- So of its rows in any order those with an equal cell may be offered that meet the predicates: the index probe,
pub equal_rows_offered : (q : Statement) (tables : List (List (List Value))) (args : List Value) (outer : ℕ
    → Bool) (place : ℕ)
    → outer place ≡ false → place < (world_of q tables args).places → (number : ℕ) (edge : Edge)
    → slice_get q.edges number ≡ Some edge → is_between outer (single place) edge ≡ true → (c rows : List ℕ)
    → Fits (world_of q tables args) outer c → HaveSame nat_eq (row_numbers ((world_of q tables args).size place)) rows
    → OffersRows (world_of q tables args) outer place c (filter ((world_of q tables args).passes place)
    (filter (λ row. compares is_eq (cell_of tables c (end_in outer edge))
    (slice_get (row_at tables place row) (end_in (single place) edge).column)) rows))
equal_rows_offered q tables args outer place out i number edge at h c rows f s =
    tested_rows_offered (world_of q tables args) outer place c rows
    (λ row. compares is_eq (cell_of tables c (end_in outer edge))
    (slice_get (row_at tables place row) (end_in (single place) edge).column))
    s
    (λ row k p m. row_ends_equal q tables args outer place out i number edge at h c row f m)

-- and of rows that meet the predicates those with an equal cell.
pub equal_passing_rows_offered : (q : Statement) (tables : List (List (List Value))) (args : List Value) (outer : ℕ
    → Bool) (place : ℕ)
    → outer place ≡ false → place < (world_of q tables args).places → (number : ℕ) (edge : Edge)
    → slice_get q.edges number ≡ Some edge → is_between outer (single place) edge ≡ true → (c rows : List ℕ)
    → Fits (world_of q tables args) outer c → RowsOnce (world_of q tables args) place rows
    → OffersRows (world_of q tables args) outer place c
    (filter (λ row. compares is_eq (cell_of tables c (end_in outer edge))
    (slice_get (row_at tables place row) (end_in (single place) edge).column)) rows)
equal_passing_rows_offered q tables args outer place out i number edge at h c rows f o =
    passing_rows_offered (world_of q tables args) outer place c rows
    (λ row. compares is_eq (cell_of tables c (end_in outer edge))
    (slice_get (row_at tables place row) (end_in (single place) edge).column))
    o
    (λ row k p m. row_ends_equal q tables args outer place out i number edge at h c row f m)

-- The rows of a place in any order, of which those stay that meet one of its predicates and then all: the index range.
pub ranged_once : (q : Statement) (tables : List (List (List Value))) (args : List Value) (place number : ℕ)
    (pred : Pred)
    → slice_get q.preds number ≡ Some pred → pred.at.place ≡ place → (rows : List ℕ)
    → HaveSame nat_eq (row_numbers ((world_of q tables args).size place)) rows
    → RowsOnce (world_of q tables args) place (filter ((world_of q tables args).passes place)
    (filter (λ row. holds args pred (row_at tables place row)) rows))
ranged_once q tables args place number pred at e rows s =
    tested_rows_once (world_of q tables args) place rows (λ row. holds args pred (row_at tables place row)) s
    (λ row i h. pred_asks args q.preds place (row_at tables place row) h number pred at e)
