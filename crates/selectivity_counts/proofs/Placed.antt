-- The tables and indexes of a predicate's place.
use Rattle.std.proofs.Common.{zero, suc, refl, ℕ, ◌≡◌, ◌<◌, List, [], ◌∷◌, length, get_or, ap, sym, subst, ◌∙◌, Option, None, Some, IfSome, Bor}
use Rattle.std.specs.Prelude.{option_and_then, slice_get, slice_index_or}
use Rattle.std.specs.Option.{option_map}
use Rattle.std.specs.Rc.{rc_value}
use Rattle.std.specs.declared.rc.Rc.{Rc}
use Rattle.std.proofs.Math.Seq.{drop-nil, take-nil}
use Rattle.std.proofs.lemmas.Option.{get_or_from_slice_get, slice_get-get_or, slice_get-map}
use Rattle.row_values.proofs.Fitting.{test_there}
use Rattle.row_values.specs.Statements.{IsPred, IsSoundQuery, Statement, kind_at}
use Rattle.row_values.specs.declared.statement.Place.{Place}
use Rattle.row_values.specs.declared.statement.Pred.{Pred}
use Rattle.csv_tables.specs.StatementTables.{rows_in, tables_in}
use Rattle.csv_tables.specs.Tables.{TableValue}
use Rattle.plan_trees.proofs.SoundParts.{column_in_range}
use Rattle.statement_meaning.specs.Combinations.{rows_at}
use Rattle.table_index.specs.Indexes.{IndexValue, IsBuilt}
use Rattle.table_index.specs.StatementIndexes.{entries_by_place, index_at}
use Rattle.selectivity_counts.specs.Built.{AreBuilt}

-- a predicate of a sound statement is on one of its places
pub placed : (q : Statement) → IsSoundQuery q → (items : List Pred) → items ≡ q.preds → (k : ℕ) (pred : Pred)
    → pred ≡ get_or items k pred → k < length items → pred.at.place < length q.places
placed q sound items e k pred is h =
    let here : IsPred q.places (get_or q.preds k pred) =
    sound.preds k pred (subst (λ (ps : List Pred). k < length ps) e h) in
    let same : get_or q.preds k pred ≡ pred = sym (is ∙ ap (λ (ps : List Pred). get_or ps k pred) e) in
    column_in_range q.places pred.at
    (test_there (kind_at q.places pred.at) pred.test (subst (IsPred q.places) same here))

-- a table as it was read at a place
pub record IsTableAt {Z : Type 0} (shared : List (Rc TableValue Z)) (place : ℕ) (table : TableValue) : Type 0 where
  pub at : ℕ
  pub item : Rc TableValue Z
  pub place_is : at ≡ place
  pub item_is : item ≡ get_or shared at item
  pub table_is : table ≡ item.value
  pub inside : place < length shared

pub table_there : {Z : Type 0} (shared : List (Rc TableValue Z)) (place : ℕ) (table : TableValue)
    → IsTableAt shared place table → slice_get (tables_in shared) place ≡ Some table
table_there shared place table t =
    slice_get-map rc_value shared place
    ∙ (ap (option_map rc_value) (slice_get-get_or shared place t.item t.inside)
    ∙ ap Some (ap rc_value (ap (λ (k : ℕ). get_or shared k t.item) (sym t.place_is) ∙ sym t.item_is) ∙ sym t.table_is))

-- the rows of a place are those of its table
pub rows_of_place : {Z : Type 0} (shared : List (Rc TableValue Z)) (place : ℕ) (table : TableValue)
    → IsTableAt shared place table → table.rows ≡ rows_at (rows_in (tables_in shared)) place
rows_of_place shared place table t =
    sym (get_or_from_slice_get (rows_in (tables_in shared)) place table.rows []
    (slice_get-map (λ table. table.rows) (tables_in shared) place
    ∙ ap (option_map (λ (table : TableValue). table.rows)) (table_there shared place table t)))

-- an index that was found is built of its place's table
pub built_there : {Z : Type 0} (q : Statement) (shared : List (Rc TableValue Z)) (indexes : List (Option IndexValue))
    (place column : ℕ) (table : TableValue) (found : Option (Bor IndexValue)) → AreBuilt q (tables_in shared) indexes
    → IsTableAt shared place table → option_map (λ index. index.now) found ≡ index_at q.places indexes place column
    → IfSome found (λ index. IsBuilt table column index.now)
built_there q shared indexes place column table None built t e = tt
built_there q shared indexes place column table (Some index) built t e =
    built place column table index.now (table_there shared place table t) (sym e)

-- a list without an entry holds no index

no_entries : {T : Type 0} (places : List Place) (place : ℕ)
    → slice_index_or (entries_by_place {T = T} places []) place [] ≡ []
no_entries [] place = refl
no_entries (p ∷ places) zero = take-nil (length p.schema)
no_entries {T = T} (p ∷ places) (suc place) =
    ap (λ (entries : List T). slice_index_or (entries_by_place places entries) place []) (drop-nil (length p.schema))
    ∙ no_entries places place

pub none_built : (q : Statement) (tables : List TableValue) → AreBuilt q tables []
none_built q tables place column table index there found =
    let none : index_at q.places [] place column ≡ None =
    ap (λ (entries : List (Option IndexValue)). option_and_then (λ entry. entry) (slice_get entries column))
    (no_entries q.places place) in
    let bad : None ≡ Some index = sym none ∙ found in absurd cc
