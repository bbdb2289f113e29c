-- The rows of a place, and those of them that a scan finds.
use Rattle.std.proofs.Common.{ℕ, zero, suc, ◌≡◌, Bool, List, [], ◌∷◌, length, slice_get, slice_index_or, ap, sym, ◌∙◌, refl}
use Rattle.std.proofs.Common.{subst, true, Option, Some, None, ◌<◌, ◌+◌, ◌++◌, append-nil, append_assoc, get_or, take}
use Rattle.std.specs.Prelude.{IsPermutation, filter, nat_eq, slice_range}
use Rattle.std.specs.Option.{option_map}
use Rattle.std.specs.Ordering.{is_eq, is_lt, nat_cmp}
use Rattle.std.proofs.lemmas.List.Elements.{filter-append, filter_agree}
use Rattle.std.proofs.lemmas.List.{take_more}
use Rattle.row_values.specs.RowNumbers.{row_numbers}
use Rattle.row_values.specs.Statements.{Statement}
use Rattle.row_values.specs.declared.values.Value.{Value}
use Rattle.csv_tables.specs.StatementTables.{rows_in}
use Rattle.row_values.specs.declared.statement.ColRef.{ColRef}
use Rattle.row_values.specs.declared.statement.Pred.{Pred}
use Rattle.row_values.specs.declared.statement.Test.{Test}
use Rattle.row_values.specs.Orders.{cell_order, compares}
use Rattle.row_values.specs.Sorting.{Rises}
use Rattle.row_values.proofs.Counting.{HaveSame, same_from_permutation}
use Rattle.row_values.proofs.InOrder.{rises_from_sorted}
use Rattle.row_values.proofs.Rising.{filter_rises}
use Rattle.csv_tables.specs.Tables.{TableValue, cell_at}
use Rattle.index_ranges.specs.Ranges.{rows_between}
use Rattle.row_tests.specs.Ready.{all_hold}
use Rattle.row_tests.proofs.PackedTests.{cell_of_row}
use Rattle.table_index.specs.Indexes.{AreOrdered, IndexValue, IsBuilt, is_before}
use Rattle.table_index.proofs.Orders.{first_not_less, rows_ranked}
use Rattle.statement_meaning.specs.Combinations.{row_at, rows_at, world_of}
use Rattle.statement_meaning.specs.Conditions.{meets, row_passes}
use Rattle.statement_meaning.specs.Meaning.{cell_of}
use Rattle.statement_meaning.specs.PartialCombinations.{RowsOnce}
use Rattle.statement_meaning.proofs.EqualCells.{none_by_key}
use Rattle.statement_meaning.proofs.Entering.{scanned_once, tested_rows_once}
use Rattle.statement_meaning.proofs.JoinOrder.{rises_weaker, row_is_before}
use Rattle.statement_meaning.proofs.KeyedOffers.{ranged_once}
use Rattle.plan_operators.specs.Probes.{probed}
use Rattle.plan_operators.specs.declared.index_join.Probe.{Probe}

pub rows_there : (tables : List TableValue) (place : ℕ) (table : TableValue) → Some table ≡ slice_get tables place
    → rows_at (rows_in tables) place ≡ table.rows
rows_there [] place table e = cc
rows_there (one ∷ tables) zero table e = let same : table ≡ one = cc in ap (λ (t : TableValue). t.rows) (sym same)
rows_there (one ∷ tables) (suc place) table e = rows_there tables place table e

pub rows_missing : (tables : List TableValue) (place : ℕ) → None ≡ slice_get tables place
    → rows_at (rows_in tables) place ≡ []
rows_missing [] place e = refl
rows_missing (one ∷ tables) zero e = cc
rows_missing (one ∷ tables) (suc place) e = rows_missing tables place e

-- the rows that pass the tests of a place are those that meet its predicates
pub scanned : (q : Statement) (tables : List (List (List Value))) (args : List Value) (place : ℕ)
    (here : List (List Value)) (tests : ℕ → Bool) (numbers : List ℕ)
    → rows_at tables place ≡ here
    → ((row : ℕ) → tests row ≡ row_passes args q.preds place (slice_index_or here row []))
    → numbers ≡ filter tests (row_numbers (length here)) → RowsOnce (world_of q tables args) place numbers
scanned q tables args place here tests numbers e same is =
    subst (RowsOnce (world_of q tables args) place)
    (filter_agree (λ row. row_passes args q.preds place (slice_index_or (rows_at tables place) row [])) tests
    (λ row. ap (λ (rows : List (List Value)). row_passes args q.preds place (slice_index_or rows row [])) e
    ∙ sym (same row)) (row_numbers (length (rows_at tables place)))
    ∙ (ap (λ (rows : List (List Value)). filter tests (row_numbers (length rows))) e ∙ sym is))
    (scanned_once (world_of q tables args) place)

-- Rows in the order of an index, of which some are chosen, among them all that meet the predicates.

all_pass : {X : Type 0} (xs : List X) → xs ≡ filter (λ x. true) xs
all_pass [] = refl
all_pass {X = X} (x ∷ xs) = ap (λ (ys : List X). x ∷ ys) (all_pass xs)

-- the rows of a place in any order, those that pass its tests
pub found_once : (q : Statement) (tables : List (List (List Value))) (args : List Value) (place : ℕ)
    (here : List (List Value)) (tests : ℕ → Bool) (rows numbers : List ℕ)
    → rows_at tables place ≡ here
    → ((row : ℕ) → tests row ≡ row_passes args q.preds place (slice_index_or here row []))
    → IsPermutation (row_numbers (length here)) rows → numbers ≡ filter tests rows
    → RowsOnce (world_of q tables args) place numbers
found_once q tables args place here tests rows numbers e same perm is =
    subst (RowsOnce (world_of q tables args) place)
    (sym (ap (filter (λ row. row_passes args q.preds place (slice_index_or (rows_at tables place) row []))) (all_pass rows))
    ∙ (filter_agree (λ row. row_passes args q.preds place (slice_index_or (rows_at tables place) row [])) tests
    (λ row. ap (λ (rows : List (List Value)). row_passes args q.preds place (slice_index_or rows row [])) e
    ∙ sym (same row)) rows ∙ sym is))
    (tested_rows_once (world_of q tables args) place rows (λ row. true)
    (subst (λ (rows_here : List (List Value)). HaveSame nat_eq (row_numbers (length rows_here)) rows) (sym e)
    (same_from_permutation nat_eq (row_numbers (length here)) rows perm)) (λ row i p. refl))

-- a cell of a place's table
cell_there : (tables : List (List (List Value))) (place : ℕ) (table : TableValue) → rows_at tables place ≡ table.rows
    → (row column : ℕ) → slice_get (row_at tables place row) column ≡ cell_at table row column
cell_there tables place table e row column =
    ap (λ (here : List (List Value)). slice_get (slice_index_or here row []) column) e
    ∙ sym (cell_of_row table.rows row column)

-- rows in the order of an index rise by its column
pub index_rises : (tables : List (List (List Value))) (at : ColRef) (table : TableValue) (rows : List ℕ)
    → rows_at tables at.place ≡ table.rows → AreOrdered table at.column rows → (p : ℕ → Bool)
    → Rises (row_is_before tables at) (filter p rows)
index_rises tables at table rows e o p =
    filter_rises (row_is_before tables at) p rows
    (rises_weaker (is_before table at.column) (row_is_before tables at) (λ a b h. same a b
    ∙ first_not_less (cell_order (cell_at table a at.column) (cell_at table b at.column)) (nat_cmp a b) h) rows
    (rises_from_sorted (is_before table at.column) (rows_ranked table at.column) rows o.in_order))
  where
    cell : (a : ℕ) → slice_get (row_at tables at.place a) at.column ≡ cell_at table a at.column
    cell a = cell_there tables at.place table e a at.column

    same : (a b : ℕ)
        → row_is_before tables at a b ≡ is_lt (cell_order (cell_at table a at.column) (cell_at table b at.column))
    same a b =
        ap (λ (x : Option Value). is_lt (cell_order x (slice_get (row_at tables at.place b) at.column))) (cell a)
        ∙ ap (λ (y : Option Value). is_lt (cell_order (cell_at table a at.column) y)) (cell b)

-- The predicate of a number, of which the column and the test are known.
pub record IsPredAt (preds : List Pred) (number : ℕ) (at : ColRef) (test : Test) : Type 0 where
  pub pred : Pred
  pub there : slice_get preds number ≡ Some pred
  pub at_is : pred.at ≡ at
  pub test_is : pred.test ≡ test

pub pred_at : (preds : List Pred) (number : ℕ) (at : ColRef) (test : Test)
    → option_map (λ p. p.at) (slice_get preds number) ≡ Some at
    → option_map (λ p. p.test) (slice_get preds number) ≡ Some test → IsPredAt preds number at test
pred_at preds number at test = known (slice_get preds number) refl
  where
    known : (o : Option Pred) → slice_get preds number ≡ o
        → option_map (λ p. p.at) o ≡ Some at → option_map (λ p. p.test) o ≡ Some test
        → IsPredAt preds number at test
    known None e a b = cc
    known (Some p) e a b = record { pred = p; there = e; at_is = cc; test_is = cc }

-- the rows that an index finds for a predicate, those that pass the tests of the place
pub ranged : (q : Statement) (tables : List (List (List Value))) (args : List Value) (at : ColRef) (number : ℕ)
    (test : Test)
    → IsPredAt q.preds number at test → (table : TableValue) → rows_at tables at.place ≡ table.rows
    → (tests : ℕ → Bool)
    → ((row : ℕ) → tests row ≡ row_passes args q.preds at.place (slice_index_or table.rows row []))
    → (index : IndexValue) → IsBuilt table at.column index → (found numbers : List ℕ)
    → found ≡ filter (λ row. meets args test (cell_at table row index.column)) index.rows
    → numbers ≡ filter tests found → RowsOnce (world_of q tables args) at.place numbers
ranged q tables args at number test p table e tests same index built found numbers met is =
    subst (RowsOnce (world_of q tables args) at.place)
    (ap (filter (λ row. row_passes args q.preds at.place (row_at tables at.place row)))
    (filter_agree (λ row. meets args p.pred.test (slice_get (row_at tables at.place row) p.pred.at.column))
    (λ row. meets args test (cell_at table row index.column)) meets_same index.rows ∙ sym met)
    ∙ (filter_agree (λ row. row_passes args q.preds at.place (row_at tables at.place row)) tests passes_same found
    ∙ sym is))
    (ranged_once q tables args at.place number p.pred p.there (ap (λ (a : ColRef). a.place) p.at_is) index.rows
    (subst (λ (here : List (List Value)). HaveSame nat_eq (row_numbers (length here)) index.rows) (sym e)
    (same_from_permutation nat_eq (row_numbers (length table.rows)) index.rows built.rows_are.each_once)))
  where
    meets_same : (row : ℕ)
        → meets args p.pred.test (slice_get (row_at tables at.place row) p.pred.at.column)
        ≡ meets args test (cell_at table row index.column)
    meets_same row =
        ap (λ (t : Test). meets args t (slice_get (row_at tables at.place row) p.pred.at.column)) p.test_is
        ∙ ap (meets args test)
        (ap (λ (a : ColRef). slice_get (row_at tables at.place row) a.column) p.at_is
        ∙ (cell_there tables at.place table e row at.column
        ∙ ap (cell_at table row) (sym built.column_is)))

    passes_same : (row : ℕ) → row_passes args q.preds at.place (row_at tables at.place row) ≡ tests row
    passes_same row =
        ap (λ (here : List (List Value)). row_passes args q.preds at.place (slice_index_or here row [])) e
        ∙ sym (same row)

-- and these rise by its column
pub ranged_rises : (tables : List (List (List Value))) (at : ColRef) (table : TableValue) (rows found numbers : List ℕ)
    → rows_at tables at.place ≡ table.rows → AreOrdered table at.column rows → (p tests : ℕ → Bool)
    → found ≡ filter p rows → numbers ≡ filter tests found → Rises (row_is_before tables at) numbers
ranged_rises tables at table rows found numbers e o p tests met is =
    subst (Rises (row_is_before tables at)) (sym is)
    (filter_rises (row_is_before tables at) tests found
    (subst (Rises (row_is_before tables at)) (sym met) (index_rises tables at table rows e o p)))

-- What a probe finds is the rows of the place whose cells equal the key, those that meet the predicates.
pub probed_is : (probe : Probe) (q : Statement) (tables : List (List (List Value))) (args : List Value)
    (place column : ℕ)
    → rows_at tables place ≡ probe.table.now.rows → rows_at tables probe.key.place ≡ probe.key_table.now.rows
    → probe.index.now.column ≡ column
    → ((row : ℕ) → all_hold probe.args.now probe.table.now probe.ready.now row
    ≡ row_passes args q.preds place (slice_index_or probe.table.now.rows row []))
    → (c : List ℕ)
    → probed probe c
    ≡ filter (λ row. row_passes args q.preds place (row_at tables place row))
    (filter (λ row. compares is_eq (cell_of tables c probe.key) (slice_get (row_at tables place row) column))
    probe.index.now.rows)
probed_is probe q tables args place column here there same tests c =
    filter_agree (all_hold probe.args.now probe.table.now probe.ready.now)
    (λ row. row_passes args q.preds place (row_at tables place row))
    (λ row. tests row
    ∙ ap (λ (rows : List (List Value)). row_passes args q.preds place (slice_index_or rows row [])) (sym here))
    (filter (λ row. compares is_eq
    (slice_get (slice_index_or probe.key_table.now.rows (slice_index_or c probe.key.place 0) []) probe.key.column)
    (cell_at probe.table.now row probe.index.now.column)) probe.index.now.rows)
    ∙ ap (filter (λ row. row_passes args q.preds place (row_at tables place row)))
    (filter_agree
    (λ row. compares is_eq
    (slice_get (slice_index_or probe.key_table.now.rows (slice_index_or c probe.key.place 0) []) probe.key.column)
    (cell_at probe.table.now row probe.index.now.column))
    (λ row. compares is_eq (cell_of tables c probe.key) (slice_get (row_at tables place row) column))
    (λ row. ap (λ (rows : List (List Value)). compares is_eq
    (slice_get (slice_index_or rows (slice_index_or c probe.key.place 0) []) probe.key.column)
    (cell_at probe.table.now row probe.index.now.column)) (sym there)
    ∙ ap (compares is_eq (cell_of tables c probe.key))
    (ap (cell_at probe.table.now row) same ∙ sym (cell_there tables place probe.table.now here row column)))
    probe.index.now.rows)

-- without a key nothing is found
pub none_probed : (probe : Probe) (c : List ℕ)
    → slice_get (slice_index_or probe.key_table.now.rows (slice_index_or c probe.key.place 0) []) probe.key.column
    ≡ None
    → probed probe c ≡ []
none_probed probe c e =
    ap (filter (all_hold probe.args.now probe.table.now probe.ready.now))
    (ap (λ (key : Option Value). filter (λ row. compares is_eq key
    (cell_at probe.table.now row probe.index.now.column)) probe.index.now.rows) e
    ∙ none_by_key (λ row. cell_at probe.table.now row probe.index.now.column) probe.index.now.rows)

-- an index is built over its own column
pub own_column : (table : TableValue) (column : ℕ) (index : IndexValue) → IsBuilt table column index
    → IsBuilt table index.column index
own_column table column index built = subst (λ (n : ℕ). IsBuilt table n index) (sym built.column_is) built

-- the rows at the positions of one more range
rows_between-push : (rows : List ℕ) (ranges : List (ℕ × ℕ)) (range : ℕ × ℕ)
    → rows_between rows (ranges ++ range ∷ []) ≡ rows_between rows ranges ++ slice_range rows range.0 range.1
rows_between-push rows [] range = append-nil (slice_range rows range.0 range.1)
rows_between-push rows (one ∷ ranges) range =
    ap (λ (found : List ℕ). slice_range rows one.0 one.1 ++ found) (rows_between-push rows ranges range)
    ∙ sym (append_assoc (slice_range rows one.0 one.1) (rows_between rows ranges) (slice_range rows range.0 range.1))

pub more_ranges : (tests : ℕ → Bool) (rows : List ℕ) (ranges : List (ℕ × ℕ)) (i : ℕ) (d : ℕ × ℕ) → i < length ranges
    → filter tests (rows_between rows (take (i + 1) ranges))
    ≡ filter tests (rows_between rows (take i ranges))
    ++ filter tests (slice_range rows (get_or ranges i d).0 (get_or ranges i d).1)
more_ranges tests rows ranges i d there =
    ap (filter tests)
    (ap (rows_between rows) (take_more ranges i d there) ∙ rows_between-push rows (take i ranges) (get_or ranges i d))
    ∙ filter-append tests (rows_between rows (take i ranges))
    (slice_range rows (get_or ranges i d).0 (get_or ranges i d).1)
