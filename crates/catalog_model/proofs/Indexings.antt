-- A catalog stays sound as a column is indexed: that changes flags alone.
use Rattle.std.proofs.Common.{ℕ, ◌≡◌, ◌≤◌, ◌<◌, ◌∙◌, List, [], ◌∷◌, ◌++◌, length, set, cond, Bool, true, false, All}
use Rattle.std.proofs.Common.{ap, refl, suc, sym, subst}
use Rattle.std.specs.Option.{option_map}
use Rattle.std.specs.Str.{bytes_eq}
use Rattle.std.proofs.lemmas.List.Elements.{All-cons, All-head, All-tail, All-weaker}
use Rattle.row_values.specs.declared.statement.Place.{Place}
use Rattle.csv_tables.specs.Tables.{IsTable, TableValue}
use Rattle.name_binder.specs.Catalog.{Known, names_differ}
use Rattle.catalog_model.specs.Catalogs.{Catalog, TableState, StatementState, Version, find_table, put_index, schemas_of}
use Rattle.catalog_model.specs.Catalogs.{with_index}
use Rattle.catalog_model.specs.Held.{bytes_held, cells_held, numbers_differ, present_versions}
use Rattle.catalog_model.specs.Sound.{IsCatalog, IsLoaded}

abbrev marked : TableState → ℕ → TableState
marked t column = record t { indexed = set t.indexed column true }

-- what is read of a table without its flags is the same of all tables
schemas_by : (test : Bool) (t : TableState) (ts : List TableState) (name : List ℕ) (column : ℕ)
    → schemas_of (put_index ts name column) ≡ schemas_of ts →
    schemas_of (cond test (marked t column ∷ ts) (t ∷ put_index ts name column)) ≡ schemas_of (t ∷ ts)
schemas_by true t ts name column later = refl
schemas_by false t ts name column later =
    ap (λ (rest : List Known). record { name = t.name; schema = t.now.content.schema } ∷ rest) later

pub same_schemas : (ts : List TableState) (name : List ℕ) (column : ℕ)
    → schemas_of (put_index ts name column) ≡ schemas_of ts
same_schemas [] name column = refl
same_schemas (t ∷ ts) name column =
    schemas_by (bytes_eq name t.name) t ts name column (same_schemas ts name column)

versions_by : (test : Bool) (t : TableState) (ts : List TableState) (name : List ℕ) (column : ℕ)
    → present_versions (put_index ts name column) ≡ present_versions ts →
    present_versions (cond test (marked t column ∷ ts) (t ∷ put_index ts name column)) ≡ present_versions (t ∷ ts)
versions_by true t ts name column later = refl
versions_by false t ts name column later = ap (λ (rest : List Version). t.now ∷ rest) later

pub same_versions : (ts : List TableState) (name : List ℕ) (column : ℕ)
    → present_versions (put_index ts name column) ≡ present_versions ts
same_versions [] name column = refl
same_versions (t ∷ ts) name column =
    versions_by (bytes_eq name t.name) t ts name column (same_versions ts name column)

found_by : (test found : Bool) (t : TableState) (ts : List TableState) (name other : List ℕ) (column : ℕ)
    → bytes_eq other t.name ≡ found → find_table (put_index ts name column) other ≡ find_table ts other →
    find_table (cond test (marked t column ∷ ts) (t ∷ put_index ts name column)) other ≡ find_table (t ∷ ts) other
found_by true found t ts name other column e later = refl
found_by false true t ts name other column e later = rw e refl
found_by false false t ts name other column e later = rw e later

pub same_found : (ts : List TableState) (name other : List ℕ) (column : ℕ)
    → find_table (put_index ts name column) other ≡ find_table ts other
same_found [] name other column = refl
same_found (t ∷ ts) name other column =
    found_by (bytes_eq name t.name) (bytes_eq other t.name) t ts name other column refl
    (same_found ts name other column)

length_by : (test : Bool) (t : TableState) (ts : List TableState) (name : List ℕ) (column : ℕ)
    → length (put_index ts name column) ≡ length ts →
    length (cond test (marked t column ∷ ts) (t ∷ put_index ts name column)) ≡ length (t ∷ ts)
length_by true t ts name column later = refl
length_by false t ts name column later = ap (λ n. suc n) later

pub same_length : (ts : List TableState) (name : List ℕ) (column : ℕ) → length (put_index ts name column) ≡ length ts
same_length [] name column = refl
same_length (t ∷ ts) name column = length_by (bytes_eq name t.name) t ts name column (same_length ts name column)

-- the present version of a table has this
abbrev Now : (Version → Type 0) → TableState → Type 0
Now P table = P table.now

all_by : (P : Version → Type 0) (test : Bool) (t : TableState) (ts : List TableState) (name : List ℕ) (column : ℕ)
    → All (Now P) (t ∷ ts) → (All (Now P) ts → All (Now P) (put_index ts name column))
    → All (Now P) (cond test (marked t column ∷ ts) (t ∷ put_index ts name column))
all_by P true t ts name column a later =
    All-cons (Now P) (marked t column) ts (All-head (Now P) t ts a) (All-tail (Now P) t ts a)
all_by P false t ts name column a later =
    All-cons (Now P) t (put_index ts name column) (All-head (Now P) t ts a) (later (All-tail (Now P) t ts a))

pub all_indexed : (P : Version → Type 0) (ts : List TableState) (name : List ℕ) (column : ℕ) → All (Now P) ts
    → All (Now P) (put_index ts name column)
all_indexed P [] name column a = a
all_indexed P (t ∷ ts) name column a =
    all_by P (bytes_eq name t.name) t ts name column a (all_indexed P ts name column)

-- what is loaded stays loaded
loaded : (ts : List TableState) (name : List ℕ) (column : ℕ) (place : Place) → IsLoaded ts place
    → IsLoaded (put_index ts name column) place
loaded ts name column place h =
    ap (option_map (λ (content : TableValue). content.schema)) (same_found ts name place.table column) ∙ h

places_loaded : (ts : List TableState) (name : List ℕ) (column : ℕ) (prepared : StatementState)
    → All (IsLoaded ts) prepared.statement.places → All (IsLoaded (put_index ts name column)) prepared.statement.places
places_loaded ts name column prepared a =
    All-weaker (IsLoaded ts) (IsLoaded (put_index ts name column)) (loaded ts name column) prepared.statement.places a

pub indexed : (held : List Version) (catalog : Catalog) (name : List ℕ) (column : ℕ) → IsCatalog held catalog
    → IsCatalog held (with_index catalog name column)
indexed held catalog name column sound =
    let ts : List TableState = catalog.tables in
    let versions = same_versions ts name column in
    let count = same_length ts name column in
    record {
      weights = sound.weights;
      table_names = subst (λ (known : List Known). names_differ known ≡ true) (sym (same_schemas ts name column))
          sound.table_names;
      statement_names = sound.statement_names;
      version_numbers = subst (λ (vs : List Version). numbers_differ vs ≡ true) (sym versions) sound.version_numbers;
      numbered = all_indexed (λ v. v.number < catalog.versions) ts name column sound.numbered;
      are_tables = all_indexed (λ v. IsTable v.content) ts name column sound.are_tables;
      are_sound = sound.are_sound;
      loaded = All-weaker (λ (prepared : StatementState). All (IsLoaded ts) prepared.statement.places)
          (λ (prepared : StatementState). All (IsLoaded (put_index ts name column)) prepared.statement.places)
          (places_loaded ts name column) catalog.statements sound.loaded;
      few_tables = subst (λ n. n ≤ 64) (sym count) sound.few_tables;
      few_statements = sound.few_statements;
      few_cells = subst (λ (vs : List Version). cells_held (held ++ vs) ≤ 8388608) (sym versions) sound.few_cells;
      few_bytes = subst (λ (vs : List Version). bytes_held (held ++ vs) ≤ 268435456) (sym versions) sound.few_bytes;
    }
