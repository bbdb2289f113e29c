-- What is held put under a name: the tables and the catalog after it.
use Rattle.std.proofs.Common.{ℕ, ◌≡◌, ◌∙◌, List, [], ◌∷◌, length, map, set, Option, Some, None, Bool, true}
use Rattle.std.proofs.Common.{false, not, ◌&&◌, ◌||◌, cond, Result, Ok, Err}
use Rattle.std.proofs.Common.{IfOk, IfSome, ap, ap₂, refl, subst, suc, sym}
use Rattle.std.specs.Map.{lookup}
use Rattle.std.specs.Option.{option_map_or}
use Rattle.std.specs.Str.{bytes_eq}
use Rattle.std.proofs.lemmas.Slice.Eq.{bytes_eq-Decides}
use Rattle.indexmap.specs.IndexMap.{insert_entry}
use Rattle.row_values.specs.Statements.{Statement}
use Rattle.row_values.specs.declared.columns.Column.{Column}
use Rattle.row_values.specs.declared.statement.Place.{Place}
use Rattle.row_values.specs.declared.values.Value.{Value}
use Rattle.csv_tables.specs.Tables.{TableValue}
use Rattle.plan_trees.specs.declared.statistics.Weights.{Weights}
use Rattle.catalog_model.specs.Catalogs.{Catalog, TableState, Version, find_table, flags_named, mask_of_flags}
use Rattle.catalog_model.specs.Catalogs.{put_index}
use Rattle.catalog_model.specs.Catalogs.{put_version, rows_named}
use Rattle.catalog_model.specs.Loading.{are_same_columns, has_other_columns}
use Rattle.catalog_model.proofs.Names.{same_bytes}
use Rattle.session_store.specs.Kept.{HeldTable, IsHeldAt, IsIndexed, catalog_in, flags_of, put_held}
use Rattle.catalog_model.specs.Catalogs.{reads_table}
use Rattle.session_store.specs.Kept.{statements_in, tables_in, unindexed}
use Rattle.session_store.specs.Measures.{measure_of, measure_over}
use Rattle.session_store.proofs.HeldIndexes.{no_flags}

abbrev table_of : List ℕ → HeldTable → TableState
table_of name held = record { name = name; now = held.version; indexed = flags_of held.indexes }

put_by : (test : Bool) (e : List ℕ × HeldTable) (es : List (List ℕ × HeldTable)) (name : List ℕ) (held : HeldTable)
    → tables_in (insert_entry bytes_eq es name held) ≡ put_held (tables_in es) name held
    → tables_in (cond test ((e.0, held) ∷ es) (e ∷ insert_entry bytes_eq es name held))
    ≡ cond test (table_of e.0 held ∷ tables_in es) (table_of e.0 e.1 ∷ put_held (tables_in es) name held)
put_by true e es name held later = refl
put_by false e es name held later = ap (λ (ts : List TableState). table_of e.0 e.1 ∷ ts) later

-- inserting an entry puts what it holds
inserted : (es : List (List ℕ × HeldTable)) (name : List ℕ) (held : HeldTable)
    → tables_in (insert_entry bytes_eq es name held) ≡ put_held (tables_in es) name held
inserted [] name held = refl
inserted (e ∷ es) name held = put_by (bytes_eq name e.0) e es name held (inserted es name held)

-- the catalog after an entry was inserted
pub catalog_put : (now : Catalog) (es es' : List (List ℕ × HeldTable)) (ss : List (List ℕ × Statement))
    (versions versions' : ℕ) (weights : Weights) (key name : List ℕ) (held : HeldTable) (after : List TableState)
    → catalog_in es ss versions weights ≡ now → es' ≡ insert_entry bytes_eq es key held → key ≡ name
    → put_held now.tables name held ≡ after
    → catalog_in es' ss versions' weights ≡ record now { tables = after; versions = versions' }
catalog_put now es es' ss versions versions' weights key name held after view made same put =
    let tables : tables_in es' ≡ after =
    ap tables_in made ∙ (inserted es key held ∙ (ap (λ (n : List ℕ). put_held (tables_in es) n held) same
    ∙ (ap (λ (k : Catalog). put_held k.tables name held) view ∙ put))) in
    ap (λ (ts : List TableState). let k : Catalog =
    record { tables = ts; statements = statements_in ss; versions = versions'; weights = weights } in k) tables
    ∙ ap (λ (k : Catalog). let made : Catalog = record k { tables = after; versions = versions' } in made) view

-- the catalog after what is held under a name was put again with no difference that the catalog shows
pub catalog_kept : (now : Catalog) (es es' : List (List ℕ × HeldTable)) (ss : List (List ℕ × Statement))
    (versions : ℕ) (weights : Weights) (key name : List ℕ) (old : Option HeldTable) (held : HeldTable)
    → catalog_in es ss versions weights ≡ now → es' ≡ insert_entry bytes_eq es key held → key ≡ name
    → old ≡ Some held → IfSome old (λ h. put_held now.tables name h ≡ now.tables)
    → catalog_in es' ss versions weights ≡ now
catalog_kept now es es' ss versions weights key name old held view made same found put =
    catalog_put now es es' ss versions versions weights key name held now.tables view made same
    (subst (λ (o : Option HeldTable). IfSome o (λ h. put_held now.tables name h ≡ now.tables)) found put)
    ∙ ap (λ (k : Catalog). let made : Catalog = record now { versions = k.versions } in made) view

-- A new table, a new version of one, and a column indexed.

first_by : (test : Bool) (e : List ℕ × HeldTable) (es : List (List ℕ × HeldTable)) (name : List ℕ) (version : Version)
    → cond test (Some e.1) (lookup (λ k. bytes_eq name k) es) ≡ None
    → (lookup (λ k. bytes_eq name k) es ≡ None
    → put_held (tables_in es) name (unindexed version) ≡ put_version (tables_in es) name version)
    → cond test (table_of e.0 (unindexed version) ∷ tables_in es)
    (table_of e.0 e.1 ∷ put_held (tables_in es) name (unindexed version))
    ≡ cond test (record (table_of e.0 e.1) { now = version } ∷ tables_in es)
    (table_of e.0 e.1 ∷ put_version (tables_in es) name version)
first_by true e es name version none later = absurd cc
first_by false e es name version none later = ap (λ (ts : List TableState). table_of e.0 e.1 ∷ ts) (later none)

pub first_put : (es : List (List ℕ × HeldTable)) (name : List ℕ) (version : Version)
    → lookup (λ k. bytes_eq name k) es ≡ None
    → put_held (tables_in es) name (unindexed version) ≡ put_version (tables_in es) name version
first_put [] name version none =
    ap (λ (flags : List Bool). let t : TableState = record { name = name; now = version; indexed = flags } in
    let ts : List TableState = t ∷ [] in ts) (no_flags version.content.schema)
first_put (e ∷ es) name version none =
    first_by (bytes_eq name e.0) e es name version none (first_put es name version)

next_by : (test : Bool) (e : List ℕ × HeldTable) (es : List (List ℕ × HeldTable)) (name : List ℕ)
    (before held : HeldTable) → cond test (Some e.1) (lookup (λ k. bytes_eq name k) es) ≡ Some before
    → flags_of held.indexes ≡ flags_of before.indexes
    → (lookup (λ k. bytes_eq name k) es ≡ Some before
    → put_held (tables_in es) name held ≡ put_version (tables_in es) name held.version)
    → cond test (table_of e.0 held ∷ tables_in es) (table_of e.0 e.1 ∷ put_held (tables_in es) name held)
    ≡ cond test (record (table_of e.0 e.1) { now = held.version } ∷ tables_in es)
    (table_of e.0 e.1 ∷ put_version (tables_in es) name held.version)
next_by true e es name before held found flags later =
    let same : e.1 ≡ before = cc in
    let kept : flags_of held.indexes ≡ flags_of e.1.indexes =
    flags ∙ ap (λ (one : HeldTable). flags_of one.indexes) (sym same) in
    ap (λ (flags : List Bool). let t : TableState = record { name = e.0; now = held.version; indexed = flags } in
    let ts : List TableState = t ∷ tables_in es in ts) kept
next_by false e es name before held found flags later =
    ap (λ (ts : List TableState). table_of e.0 e.1 ∷ ts) (later found)

pub next_put : (es : List (List ℕ × HeldTable)) (name : List ℕ) (before held : HeldTable)
    → lookup (λ k. bytes_eq name k) es ≡ Some before → flags_of held.indexes ≡ flags_of before.indexes
    → put_held (tables_in es) name held ≡ put_version (tables_in es) name held.version
next_put [] name before held found flags = absurd cc
next_put (e ∷ es) name before held found flags =
    next_by (bytes_eq name e.0) e es name before held found flags
    (λ later. next_put es name before held later flags)

index_by : (test : Bool) (e : List ℕ × HeldTable) (es : List (List ℕ × HeldTable)) (name : List ℕ) (column : ℕ)
    (before held : HeldTable) → cond test (Some e.1) (lookup (λ k. bytes_eq name k) es) ≡ Some before
    → held.version ≡ before.version → flags_of held.indexes ≡ set (flags_of before.indexes) column true
    → (lookup (λ k. bytes_eq name k) es ≡ Some before
    → put_held (tables_in es) name held ≡ put_index (tables_in es) name column)
    → cond test (table_of e.0 held ∷ tables_in es) (table_of e.0 e.1 ∷ put_held (tables_in es) name held)
    ≡ cond test (record (table_of e.0 e.1) { indexed = set (flags_of e.1.indexes) column true } ∷ tables_in es)
    (table_of e.0 e.1 ∷ put_index (tables_in es) name column)
index_by true e es name column before held found version flags later =
    let same : before ≡ e.1 = cc in
    let is : held.version ≡ e.1.version = version ∙ ap (λ (one : HeldTable). one.version) same in
    let set_is : flags_of held.indexes ≡ set (flags_of e.1.indexes) column true =
    flags ∙ ap (λ (one : HeldTable). set (flags_of one.indexes) column true) same in
    ap (λ (now : Version). let t : TableState = record { name = e.0; now = now; indexed = flags_of held.indexes } in
    let ts : List TableState = t ∷ tables_in es in ts) is
    ∙ ap (λ (flags : List Bool). let t : TableState = record { name = e.0; now = e.1.version; indexed = flags } in
    let ts : List TableState = t ∷ tables_in es in ts) set_is
index_by false e es name column before held found version flags later =
    ap (λ (ts : List TableState). table_of e.0 e.1 ∷ ts) (later found)

pub index_put : (es : List (List ℕ × HeldTable)) (name : List ℕ) (column : ℕ) (before held : HeldTable)
    → lookup (λ k. bytes_eq name k) es ≡ Some before → held.version ≡ before.version
    → flags_of held.indexes ≡ set (flags_of before.indexes) column true
    → put_held (tables_in es) name held ≡ put_index (tables_in es) name column
index_put [] name column before held found version flags = absurd cc
index_put (e ∷ es) name column before held found version flags =
    index_by (bytes_eq name e.0) e es name column before held found version flags
    (λ later. index_put es name column before held later version flags)

-- columns that don't differ are as many
width_by : (olds news : List Column) → are_same_columns olds news ≡ true → length news ≡ length olds
width_by [] [] e = refl
width_by [] (new ∷ news) e = absurd cc
width_by (old ∷ olds) [] e = absurd cc
width_by (old ∷ olds) (new ∷ news) e = ap suc (width_by olds news (last_of _ _ e))
  where
    last_of : (a b : Bool) → (a && b) ≡ true → b ≡ true
    last_of true b e = e
    last_of false b e = absurd cc

pub same_width : (old new : TableValue) → has_other_columns (Some old) new ≡ false
    → length new.schema ≡ length old.schema
same_width old new e = width_by old.schema new.schema (kept _ e)
  where
    kept : (same : Bool) → not same ≡ false → same ≡ true
    kept true e = refl
    kept false e = absurd cc

-- what follows of a value that an answer has
pub ok_then : {T E : Type 0} (r : Result T E) (P Q : T → Type 0) → IfOk r P → ((x : T) → P x → Q x) → IfOk r Q
ok_then (Ok x) P Q h k = k x h
ok_then (Err e) P Q h k = tt

pub ok_both : {T E : Type 0} (r : Result T E) (P R Q : T → Type 0) → IfOk r P → IfOk r R
    → ((x : T) → P x → R x → Q x) → IfOk r Q
ok_both (Ok x) P R Q h g k = k x h g
ok_both (Err e) P R Q h g k = tt

-- What is found after a change.

neither : (a b : Bool) → (a || b) ≡ false → (a ≡ false) × (b ≡ false)
neither true b e = absurd cc
neither false b e = (refl, e)

found_by : (test found : Bool) (t : TableState) (ts : List TableState) (name other : List ℕ) (held : HeldTable)
    → bytes_eq name t.name ≡ test → bytes_eq other t.name ≡ found → bytes_eq other name ≡ false
    → find_table (put_held ts name held) other ≡ find_table ts other
    → find_table (cond test (table_of t.name held ∷ ts) (t ∷ put_held ts name held)) other ≡ find_table (t ∷ ts) other
found_by true true t ts name other held e f differ later =
    let same : bytes_eq other name ≡ true =
    ap (λ (n : List ℕ). bytes_eq other n) (same_bytes name t.name e) ∙ f in
    let bad : false ≡ true = sym differ ∙ same in
    absurd cc
found_by true false t ts name other held e f differ later = rw f refl
found_by false true t ts name other held e f differ later = rw f refl
found_by false false t ts name other held e f differ later = rw f later

-- another table is found as it was
pub found_elsewhere : (ts : List TableState) (name other : List ℕ) (held : HeldTable) → bytes_eq other name ≡ false
    → find_table (put_held ts name held) other ≡ find_table ts other
found_elsewhere [] name other held differ = rw differ refl
found_elsewhere (t ∷ ts) name other held differ =
    found_by (bytes_eq name t.name) (bytes_eq other t.name) t ts name other held refl refl differ
    (found_elsewhere ts name other held differ)

flagged_by : (test found : Bool) (t : TableState) (ts : List TableState) (name other : List ℕ) (held : HeldTable)
    → bytes_eq name t.name ≡ test → bytes_eq other t.name ≡ found → bytes_eq other name ≡ false
    → flags_named (put_held ts name held) other ≡ flags_named ts other
    → flags_named (cond test (table_of t.name held ∷ ts) (t ∷ put_held ts name held)) other ≡ flags_named (t ∷ ts) other
flagged_by true true t ts name other held e f differ later =
    let same : bytes_eq other name ≡ true =
    ap (λ (n : List ℕ). bytes_eq other n) (same_bytes name t.name e) ∙ f in
    let bad : false ≡ true = sym differ ∙ same in
    absurd cc
flagged_by true false t ts name other held e f differ later = rw f refl
flagged_by false true t ts name other held e f differ later = rw f refl
flagged_by false false t ts name other held e f differ later = rw f later

pub flagged_elsewhere : (ts : List TableState) (name other : List ℕ) (held : HeldTable) → bytes_eq other name ≡ false
    → flags_named (put_held ts name held) other ≡ flags_named ts other
flagged_elsewhere [] name other held differ = rw differ refl
flagged_elsewhere (t ∷ ts) name other held differ =
    flagged_by (bytes_eq name t.name) (bytes_eq other t.name) t ts name other held refl refl differ
    (flagged_elsewhere ts name other held differ)

-- the name of a place is the one under which this is held
found_here : (ts : List TableState) (name : List ℕ) (held : HeldTable)
    → find_table (put_held ts name held) name ≡ Some held.version.content
found_here [] name held = let same : bytes_eq name name ≡ true = (bytes_eq-Decides name name).1 refl in rw same refl
found_here (t ∷ ts) name held = by_test (bytes_eq name t.name) refl (found_here ts name held)
  where
    by_test : (test : Bool) → bytes_eq name t.name ≡ test
        → find_table (put_held ts name held) name ≡ Some held.version.content
        → find_table (cond test (table_of t.name held ∷ ts) (t ∷ put_held ts name held)) name
        ≡ Some held.version.content
    by_test true e later = rw e refl
    by_test false e later = rw e later

flagged_here : (ts : List TableState) (name : List ℕ) (held : HeldTable)
    → flags_named (put_held ts name held) name ≡ flags_of held.indexes
flagged_here [] name held = let same : bytes_eq name name ≡ true = (bytes_eq-Decides name name).1 refl in rw same refl
flagged_here (t ∷ ts) name held = by_test (bytes_eq name t.name) refl (flagged_here ts name held)
  where
    by_test : (test : Bool) → bytes_eq name t.name ≡ test
        → flags_named (put_held ts name held) name ≡ flags_of held.indexes
        → flags_named (cond test (table_of t.name held ∷ ts) (t ∷ put_held ts name held)) name ≡ flags_of held.indexes
    by_test true e later = rw e refl
    by_test false e later = rw e later

-- what is held of a place whose table is the one that changed, and of one whose table isn't
pub held_here : (ts : List TableState) (place : Place) (name : List ℕ) (new held : HeldTable) → held ≡ new
    → bytes_eq place.table name ≡ true → IsIndexed new → IsHeldAt (put_held ts name new) place held
held_here ts place name new held same e sound =
    let is : name ≡ place.table = sym (same_bytes place.table name e) in
    let there : IsHeldAt (put_held ts name new) place new =
    record {
      content = sym (subst (λ (n : List ℕ). find_table (put_held ts name new) n ≡ Some new.version.content) is
          (found_here ts name new));
      flags = sym (subst (λ (n : List ℕ). flags_named (put_held ts name new) n ≡ flags_of new.indexes) is
          (flagged_here ts name new));
      indexed = sound;
    } in
    subst (IsHeldAt (put_held ts name new) place) (sym same) there

pub held_there : (ts : List TableState) (place : Place) (name : List ℕ) (new old held : HeldTable) → held ≡ old
    → bytes_eq place.table name ≡ false → Some old.version.content ≡ find_table ts place.table
    → flags_of old.indexes ≡ flags_named ts place.table → IsIndexed old → IsHeldAt (put_held ts name new) place held
held_there ts place name new old held same differ content flags sound =
    let there : IsHeldAt (put_held ts name new) place old =
    record {
      content = content ∙ sym (found_elsewhere ts name place.table new differ);
      flags = flags ∙ sym (flagged_elsewhere ts name place.table new differ);
      indexed = sound;
    } in
    subst (IsHeldAt (put_held ts name new) place) (sym same) there

-- a statement that doesn't read the table has the measure that it had
rows_kept : (ts : List TableState) (name : List ℕ) (new : HeldTable) (places : List Place)
    → reads_table name places ≡ false
    → map (λ place. rows_named (put_held ts name new) place.table) places
    ≡ map (λ place. rows_named ts place.table) places
rows_kept ts name new [] e = refl
rows_kept ts name new (place ∷ places) e =
    let none = neither (bytes_eq place.table name) (reads_table name places) e in
    ap₂ (λ (rows : List (List Value)) (rest : List (List (List Value))). rows ∷ rest)
    (ap (λ (o : Option TableValue). option_map_or (λ t. t.rows) o []) (found_elsewhere ts name place.table new none.0))
    (rows_kept ts name new places none.1)

masks_kept : (ts : List TableState) (name : List ℕ) (new : HeldTable) (places : List Place)
    → reads_table name places ≡ false
    → map (λ place. mask_of_flags (flags_named (put_held ts name new) place.table)) places
    ≡ map (λ place. mask_of_flags (flags_named ts place.table)) places
masks_kept ts name new [] e = refl
masks_kept ts name new (place ∷ places) e =
    let none = neither (bytes_eq place.table name) (reads_table name places) e in
    ap₂ (λ (mask : ℕ) (rest : List ℕ). mask ∷ rest)
    (ap mask_of_flags (flagged_elsewhere ts name place.table new none.0))
    (masks_kept ts name new places none.1)

pub measure_kept : (ts : List TableState) (name : List ℕ) (new : HeldTable) (weights : Weights) (q : Statement)
    → reads_table name q.places ≡ false
    → measure_of (put_held ts name new) weights q ≡ measure_of ts weights q
measure_kept ts name new weights q e =
    ap₂ (λ (rows : List (List (List Value))) (masks : List ℕ). measure_over q rows masks weights)
    (rows_kept ts name new q.places e) (masks_kept ts name new q.places e)

-- what is held put in its own place
same_by : (test : Bool) (e : List ℕ × HeldTable) (es : List (List ℕ × HeldTable)) (name : List ℕ) (held : HeldTable)
    → cond test (Some e.1) (lookup (λ k. bytes_eq name k) es) ≡ Some held
    → (lookup (λ k. bytes_eq name k) es ≡ Some held → put_held (tables_in es) name held ≡ tables_in es)
    → cond test (table_of e.0 held ∷ tables_in es) (table_of e.0 e.1 ∷ put_held (tables_in es) name held)
    ≡ table_of e.0 e.1 ∷ tables_in es
same_by true e es name held found later =
    let same : held ≡ e.1 = cc in
    ap (λ (one : HeldTable). let ts : List TableState = table_of e.0 one ∷ tables_in es in ts) same
same_by false e es name held found later = ap (λ (ts : List TableState). table_of e.0 e.1 ∷ ts) (later found)

pub same_put : (es : List (List ℕ × HeldTable)) (name : List ℕ) (held : HeldTable)
    → lookup (λ k. bytes_eq name k) es ≡ Some held → put_held (tables_in es) name held ≡ tables_in es
same_put [] name held found = absurd cc
same_put (e ∷ es) name held found =
    same_by (bytes_eq name e.0) e es name held found (λ later. same_put es name held later)
