-- The tables of a statement's places as they are found: their rows, their columns and their indexes.
use Rattle.std.proofs.Common.{ℕ, ◌≡◌, ◌∙◌, ◌+◌, ◌<◌, length, slice_index_or, take, List, [], ◌∷◌, ◌++◌, Option}
use Rattle.std.proofs.Common.{Some, All, map, ap, ap₂, get_or, sym, refl, subst}
use Rattle.std.specs.Option.{option_map, option_map_or}
use Rattle.std.proofs.lemmas.List.Elements.{All-head, All-push, All-tail}
use Rattle.row_values.specs.Statements.{Statement}
use Rattle.row_values.specs.declared.statement.Place.{Place}
use Rattle.row_values.specs.declared.values.Value.{Value}
use Rattle.csv_tables.specs.StatementTables.{AreTablesOf, rows_in}
use Rattle.csv_tables.specs.Tables.{TableValue}
use Rattle.plan_trees.specs.declared.statistics.Weights.{Weights}
use Rattle.catalog_model.specs.Catalogs.{ArePresent, TableState, find_table, flags_named, mask_of_flags, masks_now}
use Rattle.catalog_model.specs.Catalogs.{rows_named, tables_of}
use Rattle.catalog_model.specs.Sound.{IsLoaded}
use Rattle.session_store.specs.Kept.{AreHeld, HeldTable, IsIndexed, contents_of, flags_of, masks_in}
use Rattle.session_store.specs.Measures.{measure_of, measure_over}
use Rattle.session_store.proofs.Entries.{one_more}
use Rattle.session_store.proofs.HeldIndexes.{mask_of_its_flags}

pub same_statement : (p q : Statement) → Some p ≡ Some q → p ≡ q
same_statement p q e = cc

-- where a list holds what is found for each place, what is read of it is what is read of what is found
told : {C : Type 0} (read : TableValue → C) (found : Place → Option TableValue) (wanted : Place → C)
    (contents : List TableValue) (places : List Place)
    → All (λ place. (table : TableValue) → found place ≡ Some table → read table ≡ wanted place) places
    → map Some contents ≡ map found places → map read contents ≡ map wanted places
told read found wanted [] [] a e = refl
told read found wanted [] (place ∷ places) a e = absurd cc
told read found wanted (table ∷ contents) [] a e = absurd cc
told {C = C} read found wanted (table ∷ contents) (place ∷ places) a e =
    let first : found place ≡ Some table = cc in
    let rest : map Some contents ≡ map found places = cc in
    ap₂ (λ (c : C) (cs : List C). c ∷ cs)
    (All-head (λ one. (t : TableValue) → found one ≡ Some t → read t ≡ wanted one) place places a table first)
    (told read found wanted contents places
    (All-tail (λ one. (t : TableValue) → found one ≡ Some t → read t ≡ wanted one) place places a) rest)

pub rows_told : (tables : List TableState) (q : Statement) (contents : List TableValue) → ArePresent tables q contents
    → rows_in contents ≡ tables_of tables q
rows_told tables q contents e =
    told (λ table. table.rows) (λ place. find_table tables place.table) (λ place. rows_named tables place.table)
    contents q.places
    (λ k d l table is. sym (ap (λ (o : Option TableValue). option_map_or (λ t. t.rows) o []) is)) e

pub columns_told : (tables : List TableState) (q : Statement) (contents : List TableValue)
    → All (IsLoaded tables) q.places → ArePresent tables q contents → AreTablesOf q contents
columns_told tables q contents loaded e = record {
  columns = told (λ table. table.schema) (λ place. find_table tables place.table) (λ place. place.schema) contents
      q.places
      (λ k d l table is.
      let schema : Some table.schema ≡ Some (get_or q.places k d).schema =
      sym (ap (option_map (λ (t : TableValue). t.schema)) is) ∙ loaded k d l in
      cc) e;
}

somes : (held : List HeldTable) → map Some (contents_of held) ≡ map (λ one. Some one.version.content) held
somes [] = refl
somes (one ∷ held) = ap (λ (rest : List (Option TableValue)). Some one.version.content ∷ rest) (somes held)

pub held_present : (tables : List TableState) (q : Statement) (held : List HeldTable) → AreHeld tables q.places held
    → ArePresent tables q (contents_of held)
held_present tables q held h = somes held ∙ h.contents

same_contents : (xs ys : List TableValue) → map Some xs ≡ map Some ys → xs ≡ ys
same_contents [] [] e = refl
same_contents [] (y ∷ ys) e = absurd cc
same_contents (x ∷ xs) [] e = absurd cc
same_contents (x ∷ xs) (y ∷ ys) e =
    let first : x ≡ y = cc in
    let rest : map Some xs ≡ map Some ys = cc in
    ap₂ (λ (z : TableValue) (zs : List TableValue). z ∷ zs) first (same_contents xs ys rest)

-- the present tables of a statement are one list
pub present_once : (tables : List TableState) (q : Statement) (xs ys : List TableValue) → ArePresent tables q xs
    → ArePresent tables q ys → xs ≡ ys
present_once tables q xs ys a b = same_contents xs ys (a ∙ sym b)

masks_by : (tables : List TableState) (held : List HeldTable) (places : List Place)
    → map (λ one. flags_of one.indexes) held ≡ map (λ place. flags_named tables place.table) places
    → masks_in held ≡ map (λ place. mask_of_flags (flags_named tables place.table)) places
masks_by tables [] [] e = refl
masks_by tables [] (place ∷ places) e = absurd cc
masks_by tables (one ∷ held) [] e = absurd cc
masks_by tables (one ∷ held) (place ∷ places) e =
    let first : flags_of one.indexes ≡ flags_named tables place.table = cc in
    let rest : map (λ one. flags_of one.indexes) held ≡ map (λ place. flags_named tables place.table) places = cc in
    ap₂ (λ (m : ℕ) (ms : List ℕ). m ∷ ms) (mask_of_its_flags one.indexes ∙ ap mask_of_flags first)
    (masks_by tables held places rest)

pub masks_told : (tables : List TableState) (q : Statement) (held : List HeldTable) → AreHeld tables q.places held
    → masks_in held ≡ masks_now tables q
masks_told tables q held h = masks_by tables held q.places h.flags

-- one more place
pub more_held : (tables : List TableState) (places : List Place) (items more : List HeldTable) (one there : HeldTable)
    (i : ℕ) (place : Place) → more ≡ items ++ one ∷ [] → one ≡ there
    → Some there.version.content ≡ find_table tables place.table
    → flags_of there.indexes ≡ flags_named tables place.table → IsIndexed one → place ≡ slice_index_or places i place
    → i < length places → AreHeld tables (take i places) items → AreHeld tables (take (i + 1) places) more
more_held tables places items more one there i place e same content flags sound at lt so_far = record {
  contents = one_more (λ (h : HeldTable). Some h.version.content) (λ p. find_table tables p.table) items more one places
      i place e (ap (λ (h : HeldTable). Some h.version.content) same ∙ content) at lt so_far.contents;
  flags = one_more (λ (h : HeldTable). flags_of h.indexes) (λ p. flags_named tables p.table) items more one places i
      place e (ap (λ (h : HeldTable). flags_of h.indexes) same ∙ flags) at lt so_far.flags;
  indexed = subst (All IsIndexed) (sym e) (All-push IsIndexed items one so_far.indexed sound);
}

-- the measure over what is held is that over the present tables
pub measure_told : (tables : List TableState) (q : Statement) (held : List HeldTable) (weights : Weights)
    → AreHeld tables q.places held
    → measure_over q (rows_in (contents_of held)) (masks_in held) weights ≡ measure_of tables weights q
measure_told tables q held weights h =
    ap₂ (λ (rows : List (List (List Value))) (masks : List ℕ). measure_over q rows masks weights)
    (rows_told tables q (contents_of held) (held_present tables q held h)) (masks_told tables q held h)
