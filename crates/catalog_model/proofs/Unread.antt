-- What a change of one table leaves of the statements that don't read it: the numbers that their plans are costed by.
use Rattle.std.proofs.Common.{ℕ, ◌≡◌, ◌∙◌, ◌||◌, List, [], ◌∷◌, map, set, Option, Some, None, Bool, true, false, cond}
use Rattle.std.proofs.Common.{ap, ap₂, refl, sym}
use Rattle.std.specs.Option.{option_map_or}
use Rattle.std.specs.Str.{bytes_eq}
use Rattle.row_values.specs.Statements.{Statement}
use Rattle.row_values.specs.declared.statement.Place.{Place}
use Rattle.row_values.specs.declared.values.Value.{Value}
use Rattle.csv_tables.specs.Tables.{TableValue}
use Rattle.plan_trees.specs.declared.statistics.Weights.{Weights}
use Rattle.statement_statistics.specs.Statistics.{stats_of}
use Rattle.catalog_model.specs.Catalogs.{TableState, Version, find_table, flags_named, mask_of_flags, put_index}
use Rattle.catalog_model.specs.Catalogs.{put_version, reads_table, rows_named, stats_now}
use Rattle.catalog_model.proofs.Names.{renewed, same_bytes}

neither : (a b : Bool) → (a || b) ≡ false → (a ≡ false) × (b ≡ false)
neither true b e = absurd cc
neither false b e = (refl, e)

-- a table of this name isn't found under the other one
unnamed : (name other table : List ℕ) → bytes_eq name table ≡ true → bytes_eq other name ≡ false
    → bytes_eq other table ≡ false
unnamed name other table e differ = ap (λ (n : List ℕ). bytes_eq other n) (sym (same_bytes name table e)) ∙ differ

abbrev found_in : Bool → TableState → Option TableValue → Option TableValue
found_in test table later = cond test (Some table.now.content) later

abbrev flags_in : Bool → TableState → List Bool → List Bool
flags_in test table later = cond test table.indexed later

-- the table of this name has changed; the other name finds what it found
found_by : (test : Bool) (t changed : TableState) (ts ts' : List TableState) (name other : List ℕ)
    → bytes_eq name t.name ≡ test → changed.name ≡ t.name → bytes_eq other name ≡ false
    → find_table ts' other ≡ find_table ts other
    → find_table (cond test (changed ∷ ts) (t ∷ ts')) other ≡ find_table (t ∷ ts) other
found_by true t changed ts ts' name other e same differ later =
    let here = unnamed name other t.name e differ in
    let there : bytes_eq other changed.name ≡ false = ap (λ (n : List ℕ). bytes_eq other n) same ∙ here in
    rw (here, there) refl
found_by false t changed ts ts' name other e same differ later =
    ap (found_in (bytes_eq other t.name) t) later

flagged_by : (test : Bool) (t changed : TableState) (ts ts' : List TableState) (name other : List ℕ)
    → bytes_eq name t.name ≡ test → changed.name ≡ t.name → bytes_eq other name ≡ false
    → flags_named ts' other ≡ flags_named ts other
    → flags_named (cond test (changed ∷ ts) (t ∷ ts')) other ≡ flags_named (t ∷ ts) other
flagged_by true t changed ts ts' name other e same differ later =
    let here = unnamed name other t.name e differ in
    let there : bytes_eq other changed.name ≡ false = ap (λ (n : List ℕ). bytes_eq other n) same ∙ here in
    rw (here, there) refl
flagged_by false t changed ts ts' name other e same differ later =
    ap (flags_in (bytes_eq other t.name) t) later

abbrev indexed_at : TableState → ℕ → TableState
indexed_at t column = record t { indexed = set t.indexed column true }

-- Loads.

found_loaded : (ts : List TableState) (name other : List ℕ) (version : Version) → bytes_eq other name ≡ false
    → find_table (put_version ts name version) other ≡ find_table ts other
found_loaded [] name other version differ = rw differ refl
found_loaded (t ∷ ts) name other version differ =
    found_by (bytes_eq name t.name) t (renewed t version) ts (put_version ts name version) name other refl refl differ
    (found_loaded ts name other version differ)

flagged_loaded : (ts : List TableState) (name other : List ℕ) (version : Version) → bytes_eq other name ≡ false
    → flags_named (put_version ts name version) other ≡ flags_named ts other
flagged_loaded [] name other version differ = rw differ refl
flagged_loaded (t ∷ ts) name other version differ =
    flagged_by (bytes_eq name t.name) t (renewed t version) ts (put_version ts name version) name other refl refl differ
    (flagged_loaded ts name other version differ)

-- Indexes.

found_indexed : (ts : List TableState) (name other : List ℕ) (column : ℕ) → bytes_eq other name ≡ false
    → find_table (put_index ts name column) other ≡ find_table ts other
found_indexed [] name other column differ = refl
found_indexed (t ∷ ts) name other column differ =
    found_by (bytes_eq name t.name) t (indexed_at t column) ts (put_index ts name column) name other refl refl differ
    (found_indexed ts name other column differ)

flagged_indexed : (ts : List TableState) (name other : List ℕ) (column : ℕ) → bytes_eq other name ≡ false
    → flags_named (put_index ts name column) other ≡ flags_named ts other
flagged_indexed [] name other column differ = refl
flagged_indexed (t ∷ ts) name other column differ =
    flagged_by (bytes_eq name t.name) t (indexed_at t column) ts (put_index ts name column) name other refl refl differ
    (flagged_indexed ts name other column differ)

-- The places of a statement.

-- two lists of tables are alike under every other name
record AreAlike (old new : List TableState) (name : List ℕ) : Type 0 where
  pub found : (other : List ℕ) → bytes_eq other name ≡ false → find_table new other ≡ find_table old other
  pub flagged : (other : List ℕ) → bytes_eq other name ≡ false → flags_named new other ≡ flags_named old other

rows_alike : (old new : List TableState) (name : List ℕ) (places : List Place) → AreAlike old new name
    → reads_table name places ≡ false
    → map (λ place. rows_named new place.table) places ≡ map (λ place. rows_named old place.table) places
rows_alike old new name [] alike e = refl
rows_alike old new name (place ∷ places) alike e =
    let none = neither (bytes_eq place.table name) (reads_table name places) e in
    ap₂ (λ (rows : List (List Value)) (rest : List (List (List Value))). rows ∷ rest)
    (ap (λ (o : Option TableValue). option_map_or (λ t. t.rows) o []) (alike.found place.table none.0))
    (rows_alike old new name places alike none.1)

masks_alike : (old new : List TableState) (name : List ℕ) (places : List Place) → AreAlike old new name
    → reads_table name places ≡ false
    → map (λ place. mask_of_flags (flags_named new place.table)) places
    ≡ map (λ place. mask_of_flags (flags_named old place.table)) places
masks_alike old new name [] alike e = refl
masks_alike old new name (place ∷ places) alike e =
    let none = neither (bytes_eq place.table name) (reads_table name places) e in
    ap₂ (λ (mask : ℕ) (rest : List ℕ). mask ∷ rest) (ap mask_of_flags (alike.flagged place.table none.0))
    (masks_alike old new name places alike none.1)

stats_alike : (old new : List TableState) (name : List ℕ) (weights : Weights) (q : Statement) → AreAlike old new name
    → reads_table name q.places ≡ false → stats_now new weights q ≡ stats_now old weights q
stats_alike old new name weights q alike e =
    ap₂ (λ (rows : List (List (List Value))) (masks : List ℕ). stats_of q rows masks weights)
    (rows_alike old new name q.places alike e) (masks_alike old new name q.places alike e)

pub loaded_unread : (ts : List TableState) (name : List ℕ) (version : Version) (weights : Weights) (q : Statement)
    → reads_table name q.places ≡ false → stats_now (put_version ts name version) weights q ≡ stats_now ts weights q
loaded_unread ts name version weights q e =
    stats_alike ts (put_version ts name version) name weights q
    (record {
      found = λ other. found_loaded ts name other version;
      flagged = λ other. flagged_loaded ts name other version;
    })
    e

pub indexed_unread : (ts : List TableState) (name : List ℕ) (column : ℕ) (weights : Weights) (q : Statement)
    → reads_table name q.places ≡ false → stats_now (put_index ts name column) weights q ≡ stats_now ts weights q
indexed_unread ts name column weights q e =
    stats_alike ts (put_index ts name column) name weights q
    (record {
      found = λ other. found_indexed ts name other column;
      flagged = λ other. flagged_indexed ts name other column;
    })
    e
