-- The entries of the wanted columns of a statement's tables hold indexes of those tables.
use Rattle.std.proofs.Common.{ℕ, zero, suc, ◌≡◌, ◌+◌, ◌<◌, ◌≤◌, ◌⊎◌, inl, inr, List, [], ◌∷◌, ◌++◌, ap, refl, sym, ◌∙◌, subst, length}
use Rattle.std.proofs.Common.{Bool, true, false, if◌then◌else◌, arith, take, drop, map, slice_get, slice_index_or, get_or}
use Rattle.std.proofs.Common.{Option, None, Some, sum_by}
use Rattle.std.proofs.lemmas.Bool.{cases_lt}
use Rattle.std.specs.List.{insert}
use Rattle.std.specs.List.Sorted.{IsPermutation, IsSortedBy}
use Rattle.std.specs.Option.{option_and_then, option_map}
use Rattle.std.proofs.Math.Seq.{take-append_seam, drop-append_seam}
use Rattle.std.proofs.lemmas.List.{length-append, length-map, get_or_append_left}
use Rattle.std.proofs.Math.Seq.{get_or-append_seam}
use Rattle.std.proofs.lemmas.List.Sums.{sum_by-cons}
use Rattle.std.proofs.lemmas.List.Sorted.{IsPermutation-cons, IsPermutation-insert, IsPermutation-refl, IsPermutation-trans}
use Rattle.std.proofs.lemmas.Option.{none-some, same_Some, slice_get-get_or, slice_get-map, slice_get_past}
use Rattle.row_values.specs.RowNumbers.{row_numbers}
use Rattle.row_values.specs.Sorting.{Rises, in_order, put_in}
use Rattle.row_values.specs.Statements.{Statement, is_among}
use Rattle.row_values.specs.declared.columns.Column.{Column}
use Rattle.row_values.specs.declared.statement.ColRef.{ColRef}
use Rattle.row_values.specs.declared.statement.Place.{Place}
use Rattle.row_values.proofs.InOrder.{rises_in_order}
use Rattle.csv_tables.specs.Tables.{TableValue}
use Rattle.csv_tables.specs.StatementTables.{AreTablesOf}
use Rattle.table_index.specs.Indexes.{IndexValue, IsBuilt, is_before}
use Rattle.table_index.specs.StatementIndexes.{AreIndexesOf, entries_by_place, index_over, wanted_entries, wanted_entry}
use Rattle.table_index.proofs.OneList.{only_itself}

-- What a list in order is.

put_place : {X : Type 0} (lt : X → X → Bool) (x : X) (ys : List X) → (i : ℕ) × (put_in lt x ys ≡ insert ys i x)
put_place lt x [] = (zero, refl)
put_place {X = X} lt x (y ∷ ys) = by_test (lt y x) (put_place lt x ys)
  where
    by_test : (b : Bool) → (i : ℕ) × (put_in lt x ys ≡ insert ys i x)
        → (i : ℕ) × ((if b then y ∷ put_in lt x ys else x ∷ (y ∷ ys)) ≡ insert (y ∷ ys) i x)
    by_test true put = (suc put.0, ap (λ (zs : List X). y ∷ zs) put.1)
    by_test false put = (zero, refl)

in_order_permutes : {X : Type 0} (lt : X → X → Bool) (xs : List X) → IsPermutation xs (in_order lt xs)
in_order_permutes lt [] = IsPermutation-refl []
in_order_permutes lt (x ∷ xs) =
    IsPermutation-trans (x ∷ xs) (x ∷ in_order lt xs) (put_in lt x (in_order lt xs))
    (IsPermutation-cons x xs (in_order lt xs) (in_order_permutes lt xs))
    (subst (λ (ys : List _). IsPermutation (x ∷ in_order lt xs) ys) (sym (put_place lt x (in_order lt xs)).1)
    (IsPermutation-insert (in_order lt xs) (put_place lt x (in_order lt xs)).0 x))

sorted_from_rises : {X : Type 0} (lt : X → X → Bool) (xs : List X) → Rises lt xs → IsSortedBy lt xs
sorted_from_rises lt [] h = λ k d l i. absurd (omega (arith, i))
sorted_from_rises {X = X} lt (x ∷ xs) h = λ k d l i. at (sorted_from_rises lt xs h.1) k d i
  where
    at : IsSortedBy lt xs → (k : ℕ) (d : X) → k + 1 < length (x ∷ xs)
        → lt (get_or (x ∷ xs) (k + 1) d) (get_or (x ∷ xs) k d) ≡ false
    at rest zero d i = h.0 zero d (omega (arith, i))
    at rest (suc k) d i =
        let e : suc k + 1 ≡ suc (k + 1) = omega arith in
        subst (λ (n : ℕ). lt (get_or (x ∷ xs) n d) (get_or xs k d) ≡ false) (sym e)
        (rest k d (omega arith) (omega (arith, i)))

index_is_built : (table : TableValue) (column : ℕ) → column < length table.schema
    → IsBuilt table column (index_over table column)
index_is_built table column less = record {
  column_is = refl;
  in_range = less;
  rows_are = record {
    each_once = in_order_permutes (is_before table column) (row_numbers (length table.rows));
    in_order = sorted_from_rises (is_before table column) _
        (rises_in_order (is_before table column) (only_itself table column).ranks (row_numbers (length table.rows)));
  };
}

-- The numbers of the columns.

length_numbers : (n : ℕ) → length (row_numbers n) ≡ n
length_numbers zero = refl
length_numbers (suc n) = let e = length_numbers n in length-append (row_numbers n) (n ∷ []) ∙ omega (arith, e)

number_at : (n k : ℕ) → k < n → get_or (row_numbers n) k 0 ≡ k
number_at zero k less = absurd (omega (arith, less))
number_at (suc n) k less = by_order (number_at n k) (cases_lt k n)
  where
    by_order : (k < n → get_or (row_numbers n) k 0 ≡ k) → (k < n) ⊎ (n ≤ k)
        → get_or (row_numbers n ++ n ∷ []) k 0 ≡ k
    by_order before (inl h) =
        get_or_append_left (row_numbers n) (n ∷ []) 0 k (let e = length_numbers n in omega (arith, e, h))
        ∙ before h
    by_order before (inr h) =
        let e : k ≡ n = omega (arith, h, less) in
        let last : get_or (row_numbers n ++ n ∷ []) (length (row_numbers n)) 0 ≡ n =
        get_or-append_seam (row_numbers n) n [] 0 in
        subst (λ (i : ℕ). get_or (row_numbers n ++ n ∷ []) i 0 ≡ i) (sym e)
        (subst (λ (i : ℕ). get_or (row_numbers n ++ n ∷ []) i 0 ≡ n) (length_numbers n) last)

-- The entries, place by place.

place_entries : List ColRef → ℕ → List TableValue → List (List (Option IndexValue))
place_entries wanted place [] = []
place_entries wanted place (table ∷ tables) =
    map (wanted_entry wanted table place) (row_numbers (length table.schema)) ∷ place_entries wanted (place + 1) tables

many_entries : (wanted : List ColRef) (table : TableValue) (place : ℕ)
    → length (map (wanted_entry wanted table place) (row_numbers (length table.schema))) ≡ length table.schema
many_entries wanted table place =
    length-map (row_numbers (length table.schema)) (wanted_entry wanted table place)
    ∙ length_numbers (length table.schema)

same_width : (table : TableValue) (tables : List TableValue) (place : Place) (places : List Place)
    → map (λ t. t.schema) (table ∷ tables) ≡ map (λ p. p.schema) (place ∷ places)
    → length table.schema ≡ length place.schema
same_width table tables place places e =
    ap (λ (schemas : List (List Column)). length (slice_index_or schemas 0 [])) e

same_rest : (table : TableValue) (tables : List TableValue) (place : Place) (places : List Place)
    → map (λ t. t.schema) (table ∷ tables) ≡ map (λ p. p.schema) (place ∷ places)
    → map (λ t. t.schema) tables ≡ map (λ p. p.schema) places
same_rest table tables place places e = ap (λ (schemas : List (List Column)). drop 1 schemas) e

entries_are : (wanted : List ColRef) (n : ℕ) (places : List Place) (tables : List TableValue)
    → map (λ t. t.schema) tables ≡ map (λ p. p.schema) places
    → entries_by_place places (wanted_entries wanted n tables) ≡ place_entries wanted n tables
unfolding place_entries
entries_are wanted n [] [] e = refl
entries_are wanted n [] (table ∷ tables) e =
    absurd (let l = ap (λ (schemas : List (List Column)). length schemas) e in omega (arith, l))
entries_are wanted n (place ∷ places) [] e =
    absurd (let l = ap (λ (schemas : List (List Column)). length schemas) e in omega (arith, l))
entries_are wanted n (place ∷ places) (table ∷ tables) e =
    let entries : List (Option IndexValue) =
    map (wanted_entry wanted table n) (row_numbers (length table.schema)) in
    let rest : List (Option IndexValue) = wanted_entries wanted (n + 1) tables in
    let many : length entries ≡ length place.schema =
    many_entries wanted table n ∙ same_width table tables place places e in
    let taken : take (length place.schema) (entries ++ rest) ≡ entries =
    subst (λ (m : ℕ). take m (entries ++ rest) ≡ entries) many (take-append_seam entries rest) in
    let dropped : drop (length place.schema) (entries ++ rest) ≡ rest =
    subst (λ (m : ℕ). drop m (entries ++ rest) ≡ rest) many (drop-append_seam entries rest) in
    ap (λ (front : List (Option IndexValue)). front
    ∷ entries_by_place places (drop (length place.schema) (entries ++ rest))) taken
    ∙ (ap (λ (back : List (Option IndexValue)). entries ∷ entries_by_place places back) dropped
    ∙ ap (λ (all : List (List (Option IndexValue))). entries ∷ all)
    (entries_are wanted (n + 1) places tables (same_rest table tables place places e)))

at_place : (wanted : List ColRef) (n : ℕ) (tables : List TableValue) (place : ℕ) (table : TableValue)
    → slice_get tables place ≡ Some table
    → slice_index_or (place_entries wanted n tables) place []
    ≡ map (wanted_entry wanted table (n + place)) (row_numbers (length table.schema))
unfolding place_entries
at_place wanted n [] place table e = absurd (none-some table e)
at_place wanted n (first ∷ tables) zero table e =
    let same : first ≡ table = same_Some first table e in
    let number : n ≡ n + 0 = omega arith in
    subst (λ (t : TableValue). map (wanted_entry wanted first n) (row_numbers (length first.schema))
    ≡ map (wanted_entry wanted t (n + 0)) (row_numbers (length t.schema))) same
    (ap (λ (m : ℕ). map (wanted_entry wanted first m) (row_numbers (length first.schema))) number)
at_place wanted n (first ∷ tables) (suc place) table e =
    let number : (n + 1) + place ≡ n + suc place = omega arith in
    at_place wanted (n + 1) tables place table e
    ∙ ap (λ (m : ℕ). map (wanted_entry wanted table m) (row_numbers (length table.schema))) number

found_is_built : (wanted : List ColRef) (table : TableValue) (place column : ℕ) (index : IndexValue)
    → option_and_then (λ entry. entry)
    (slice_get (map (wanted_entry wanted table place) (row_numbers (length table.schema))) column) ≡ Some index
    → IsBuilt table column index
found_is_built wanted table place column index e = by_order (cases_lt column (length table.schema))
  where
    Entries : List (Option IndexValue)
    Entries = map (wanted_entry wanted table place) (row_numbers (length table.schema))

    by_test : column < length table.schema → (b : Bool)
        → (if b then Some (index_over table column) else None) ≡ Some index → IsBuilt table column index
    by_test less true same =
        subst (IsBuilt table column) (same_Some (index_over table column) index same) (index_is_built table column less)
    by_test less false same = absurd (none-some index same)

    by_order : (column < length table.schema) ⊎ (length table.schema ≤ column) → IsBuilt table column index
    by_order (inl less) =
        let l = length_numbers (length table.schema) in
        let number : slice_get (row_numbers (length table.schema)) column ≡ Some column =
        slice_get-get_or (row_numbers (length table.schema)) column 0 (omega (arith, l, less))
        ∙ ap Some (number_at (length table.schema) column less) in
        by_test less (is_among wanted (record { place = place; column = column }))
        (sym (ap (option_and_then (λ entry. entry))
        (slice_get-map (wanted_entry wanted table place) (row_numbers (length table.schema)) column
        ∙ ap (option_map (wanted_entry wanted table place)) number)) ∙ e)
    by_order (inr past) =
        let l = many_entries wanted table place in
        absurd (none-some index (sym (ap (option_and_then (λ entry. entry))
        (slice_get_past (map (wanted_entry wanted table place) (row_numbers (length table.schema))) column
        (omega (arith, l, past)))) ∙ e))

one_for_each : (wanted : List ColRef) (n : ℕ) (places : List Place) (tables : List TableValue)
    → map (λ t. t.schema) tables ≡ map (λ p. p.schema) places
    → length (wanted_entries wanted n tables) ≡ sum_by (λ p. length p.schema) places
one_for_each wanted n [] [] e = refl
one_for_each wanted n [] (table ∷ tables) e =
    absurd (let l = ap (λ (schemas : List (List Column)). length schemas) e in omega (arith, l))
one_for_each wanted n (place ∷ places) [] e =
    absurd (let l = ap (λ (schemas : List (List Column)). length schemas) e in omega (arith, l))
one_for_each wanted n (place ∷ places) (table ∷ tables) e =
    let many : length (map (wanted_entry wanted table n) (row_numbers (length table.schema))) ≡ length place.schema =
    many_entries wanted table n ∙ same_width table tables place places e in
    let rest = one_for_each wanted (n + 1) places tables (same_rest table tables place places e) in
    length-append (map (wanted_entry wanted table n) (row_numbers (length table.schema)))
    (wanted_entries wanted (n + 1) tables)
    ∙ (ap (λ (m : ℕ). m + length (wanted_entries wanted (n + 1) tables)) many
    ∙ (ap (λ (m : ℕ). length place.schema + m) rest ∙ sym (sum_by-cons (λ (p : Place). length p.schema) place places)))

pub wanted_are_indexes : (wanted : List ColRef) (tables : List TableValue) (q : Statement) → AreTablesOf q tables
    → AreIndexesOf q tables (wanted_entries wanted 0 tables)
wanted_are_indexes wanted tables q of = record {
  one_each = one_for_each wanted 0 q.places tables of.columns;
  built = λ place column table index there e.
      found_is_built wanted table (0 + place) column index
      (sym (ap (λ (entries : List (Option IndexValue)). option_and_then (λ entry. entry) (slice_get entries column))
      (ap (λ (all : List (List (Option IndexValue))). slice_index_or all place [])
      (entries_are wanted 0 q.places tables of.columns) ∙ at_place wanted 0 tables place table there)) ∙ e);
}
