-- The indexes of a table that is held, and those of a statement's tables.
use Rattle.std.proofs.Common.{ℕ, zero, suc, ◌≡◌, ◌∙◌, ◌+◌, ◌<◌, ◌*◌, ◌⊎◌, inl, inr, List, [], ◌∷◌, ◌++◌, Bool}
use Rattle.std.proofs.Common.{true, false, Option}
use Rattle.std.proofs.Common.{Some, None, All, IfSome, is_some, length, map, set, drop, take, slice_get, slice_index_or}
use Rattle.std.proofs.Common.{ap, ap₂, refl, sym, subst}
use Rattle.std.proofs.Common.{arith, sum_by}
use Rattle.std.specs.Option.{option_and_then, option_map}
use Rattle.std.specs.Rc.{rc_value}
use Rattle.std.specs.declared.alloc.Global.{Global}
use Rattle.std.specs.declared.rc.Rc.{Rc}
use Rattle.std.proofs.Math.Seq.{take-append_seam, drop-append_seam}
use Rattle.std.proofs.lemmas.List.{length-append, length-map, length-set, map-append, set-get_or, take_more}
use Rattle.std.proofs.lemmas.Option.{none-some, same_Some}
use Rattle.std.proofs.lemmas.List.Sums.{sum_by-cons}
use Rattle.std.proofs.lemmas.List.Elements.{All-head, All-tail}
use Rattle.row_values.specs.Statements.{Statement}
use Rattle.row_values.specs.declared.columns.Column.{Column}
use Rattle.row_values.specs.declared.statement.Place.{Place}
use Rattle.csv_tables.specs.StatementTables.{AreTablesOf}
use Rattle.csv_tables.specs.Tables.{TableValue}
use Rattle.table_index.specs.Indexes.{IndexValue, IsBuilt}
use Rattle.table_index.specs.StatementIndexes.{AreIndexesOf, entries_by_place, indexes_in, mask_of, masks_of}
use Rattle.table_index.proofs.Entries.{masks_map}
use Rattle.selectivity_counts.specs.Kept.{distinct_counts}
use Rattle.catalog_model.specs.Catalogs.{Version, mask_of_flags}
use Rattle.session_store.specs.Kept.{AreBuilt, HeldTable, IsIndexed, contents_of, entries_of, flags_of, held_table}
use Rattle.session_store.specs.Kept.{unindexed, masks_in}

-- One table.

pub no_flags : (schema : List Column) → flags_of (map (λ column. None) schema) ≡ map (λ column. false) schema
no_flags [] = refl
no_flags (column ∷ schema) = ap (λ (flags : List Bool). false ∷ flags) (no_flags schema)

none_built : (content : TableValue) (schema : List Column) (column : ℕ) (index : IndexValue)
    → slice_get (map (λ column. None) schema) column ≡ Some (Some index) → IsBuilt content column index
none_built content [] column index e = absurd cc
none_built content (first ∷ schema) zero index e = absurd cc
none_built content (first ∷ schema) (suc column) index e = absurd (past schema column index e)
  where
    past : (schema : List Column) (column : ℕ) (index : IndexValue)
        → slice_get (map (λ column. None) schema) column ≡ Some (Some index) → ⊥
    past [] column index e = cc
    past (first ∷ schema) zero index e = cc
    past (first ∷ schema) (suc column) index e = past schema column index e

pub unindexed_sound : (version : Version) → IsIndexed (unindexed version)
unindexed_sound version = record {
  one_each = length-map version.content.schema (λ column. None);
  built = none_built version.content version.content.schema;
}

-- what stands in a list with one more element, and in one with an element changed
more_at : {X : Type 0} (xs : List X) (x : X) (k : ℕ) (y : X) → slice_get (xs ++ x ∷ []) k ≡ Some y
    → (slice_get xs k ≡ Some y) ⊎ ((k ≡ length xs) × (x ≡ y))
more_at [] x zero y e = inr (refl, same_Some x y e)
more_at [] x (suc k) y e = absurd (none-some y e)
more_at (z ∷ xs) x zero y e = inl e
more_at {X = X} (z ∷ xs) x (suc k) y e = further (more_at xs x k y e)
  where
    further : (slice_get xs k ≡ Some y) ⊎ ((k ≡ length xs) × (x ≡ y))
        → (slice_get xs k ≡ Some y) ⊎ ((suc k ≡ suc (length xs)) × (x ≡ y))
    further (inl h) = inl h
    further (inr h) = inr (ap suc h.0, h.1)

set_at : {X : Type 0} (xs : List X) (i : ℕ) (x : X) (k : ℕ) (y : X) → slice_get (set xs i x) k ≡ Some y
    → (slice_get xs k ≡ Some y) ⊎ ((k ≡ i) × (x ≡ y))
set_at [] i x k y e = inl e
set_at (z ∷ xs) zero x zero y e = inr (refl, same_Some x y e)
set_at (z ∷ xs) zero x (suc k) y e = inl e
set_at (z ∷ xs) (suc i) x zero y e = inl e
set_at {X = X} (z ∷ xs) (suc i) x (suc k) y e = further (set_at xs i x k y e)
  where
    further : (slice_get xs k ≡ Some y) ⊎ ((k ≡ i) × (x ≡ y)) → (slice_get xs k ≡ Some y) ⊎ ((suc k ≡ suc i) × (x ≡ y))
    further (inl h) = inl h
    further (inr h) = inr (ap suc h.0, h.1)

of_entry : (P : IndexValue → Type 0) (entry : Option IndexValue) (index : IndexValue) → entry ≡ Some index
    → IfSome entry P → P index
of_entry P None index e h = absurd (none-some index e)
of_entry P (Some there) index e h = subst P (same_Some there index e) h

-- one more entry, whose index, if there is one, was built of its column
pub built_more : (content : TableValue) (entries : List (Option IndexValue)) (entry : Option IndexValue) (number : ℕ)
    → number ≡ length entries → AreBuilt content entries → IfSome entry (IsBuilt content number)
    → AreBuilt content (entries ++ entry ∷ [])
built_more content entries entry number last so_far built column index e =
    by_place (more_at entries entry column (Some index) e)
  where
    by_place : (slice_get entries column ≡ Some (Some index)) ⊎ ((column ≡ length entries) × (entry ≡ Some index))
        → IsBuilt content column index
    by_place (inl h) = so_far column index h
    by_place (inr h) =
        subst (λ (n : ℕ). IsBuilt content n index) (last ∙ sym h.0)
        (of_entry (IsBuilt content number) entry index h.1 built)

-- an entry that is set to an index that was built of its column
pub built_set : (content : TableValue) (entries : List (Option IndexValue)) (number : ℕ) (made : IndexValue)
    → AreBuilt content entries → IsBuilt content number made → AreBuilt content (set entries number (Some made))
built_set content entries number made so_far built column index e =
    by_place (set_at entries number (Some made) column (Some index) e)
  where
    by_place : (slice_get entries column ≡ Some (Some index)) ⊎ ((column ≡ number) × (Some made ≡ Some index))
        → IsBuilt content column index
    by_place (inl h) = so_far column index h
    by_place (inr h) =
        subst (λ (n : ℕ). IsBuilt content n index) (sym h.0)
        (subst (IsBuilt content number) (same_Some made index h.1) built)

pub flags_set : (entries : List (Option IndexValue)) (column : ℕ) (index : IndexValue)
    → flags_of (set entries column (Some index)) ≡ set (flags_of entries) column true
flags_set [] column index = refl
flags_set (entry ∷ entries) zero index = refl
flags_set (entry ∷ entries) (suc column) index =
    ap (λ (flags : List Bool). is_some entry ∷ flags) (flags_set entries column index)

-- a flag that is set already
pub set_again : (flags : List Bool) (column : ℕ) → slice_index_or flags column false ≡ true
    → set flags column true ≡ flags
set_again flags column h =
    sym (ap (λ (flag : Bool). set flags column flag) h) ∙ set-get_or flags column false

-- what shared entries hold when one of them is set
pub shared_set : (entries : List (Option (Rc IndexValue Global))) (column : ℕ) (made : Rc IndexValue Global)
    → indexes_in (set entries column (Some made)) ≡ set (indexes_in entries) column (Some made.value)
shared_set [] column made = refl
shared_set (entry ∷ entries) zero made = refl
shared_set (entry ∷ entries) (suc column) made =
    ap (λ (rest : List (Option IndexValue)). option_map rc_value entry ∷ rest) (shared_set entries column made)

-- What is made of a table.

pub first_sound : (version : Version) (entries : List (Option (Rc IndexValue Global)))
    → indexes_in entries ≡ map (λ column. None) version.content.schema → IsIndexed (held_table version entries)
first_sound version entries none =
    let is : held_table version entries ≡ unindexed version =
    ap (λ (es : List (Option IndexValue)). let h : HeldTable = record { version = version; indexes = es } in h) none in
    subst IsIndexed (sym is) (unindexed_sound version)

pub next_sound : (version : Version) (entries : List (Option (Rc IndexValue Global)))
    (before : List (Option IndexValue)) → flags_of (indexes_in entries) ≡ flags_of before
    → length before ≡ length version.content.schema → AreBuilt version.content (indexes_in entries)
    → IsIndexed (held_table version entries)
next_sound version entries before flags many built =
    let is : length (indexes_in entries) ≡ length before =
    sym (length-map (indexes_in entries) (λ entry. is_some entry))
    ∙ (ap (λ (fs : List Bool). length fs) flags ∙ length-map before (λ entry. is_some entry)) in
    record { one_each = is ∙ many; built = built }

pub set_sound : (held : HeldTable) (version : Version) (column : ℕ) (made : Rc IndexValue Global)
    (entries before : List (Option (Rc IndexValue Global))) → IsIndexed held → version ≡ held.version
    → indexes_in before ≡ held.indexes → entries ≡ set before column (Some made)
    → IsBuilt held.version.content column made.value → IsIndexed (held_table version entries)
set_sound held version column made entries before sound same old e built =
    let is : indexes_in entries ≡ set held.indexes column (Some made.value) =
    ap (λ (es : List (Option (Rc IndexValue Global))). indexes_in es) e
    ∙ (shared_set before column made
    ∙ ap (λ (es : List (Option IndexValue)). set es column (Some made.value)) old) in
    let there : HeldTable = record {
      version = held.version;
      indexes = set held.indexes column (Some made.value);
    } in
    let here : IsIndexed there = record {
      one_each = length-set held.indexes column (Some made.value) ∙ sound.one_each;
      built = built_set held.version.content held.indexes column made.value sound.built built;
    } in
    let made_is : held_table version entries ≡ there =
    ap₂ (λ (v : Version) (es : List (Option IndexValue)). let h : HeldTable = record { version = v; indexes = es } in h)
    same is in
    subst IsIndexed (sym made_is) here

pub set_flags : (held : HeldTable) (column : ℕ) (made : Rc IndexValue Global)
    (entries before : List (Option (Rc IndexValue Global))) → indexes_in before ≡ held.indexes
    → entries ≡ set before column (Some made)
    → flags_of (indexes_in entries) ≡ set (flags_of held.indexes) column true
set_flags held column made entries before old e =
    ap (λ (es : List (Option (Rc IndexValue Global))). flags_of (indexes_in es)) e
    ∙ (ap (λ (es : List (Option IndexValue)). flags_of es) (shared_set before column made)
    ∙ (ap (λ (es : List (Option IndexValue)). flags_of (set es column (Some made.value))) old
    ∙ flags_set held.indexes column made.value))

-- distinct counts of a table are those of one that is the same
pub counted_alike : (distincts : Option (Rc (List ℕ) Global)) (table content : TableValue) → content ≡ table
    → IfSome distincts (λ counts. counts.value ≡ distinct_counts table)
    → IfSome distincts (λ counts. counts.value ≡ distinct_counts content)
counted_alike distincts table content same h =
    subst (λ (t : TableValue). IfSome distincts (λ counts. counts.value ≡ distinct_counts t)) (sym same) h

-- the flag of a column
same_flag : (entry : Option (Rc IndexValue Global)) → is_some entry ≡ is_some (option_map rc_value entry)
same_flag None = refl
same_flag (Some index) = refl

pub flag_shared : (entries : List (Option (Rc IndexValue Global))) (column : ℕ) (entry : Option (Rc IndexValue Global))
    → entry ≡ slice_index_or entries column entry → column < length entries
    → is_some entry ≡ slice_index_or (flags_of (indexes_in entries)) column false
flag_shared [] column entry there less = absurd (omega (arith, less))
flag_shared (first ∷ entries) zero entry there less =
    ap (λ (one : Option (Rc IndexValue Global)). is_some one) there ∙ same_flag first
flag_shared (first ∷ entries) (suc column) entry there less =
    flag_shared entries column entry there (omega (arith, less))

flags_behind : (items : List (Option (Rc IndexValue Global))) (entry : Option (Rc IndexValue Global))
    → flags_of (indexes_in (items ++ entry ∷ [])) ≡ flags_of (indexes_in items) ++ is_some entry ∷ []
flags_behind [] entry = ap (λ (flag : Bool). flag ∷ []) (sym (same_flag entry))
flags_behind (first ∷ items) entry =
    ap (λ (flags : List Bool). is_some (option_map rc_value first) ∷ flags) (flags_behind items entry)

many_flags : (entries : List (Option (Rc IndexValue Global))) → length (flags_of (indexes_in entries)) ≡ length entries
many_flags [] = refl
many_flags (entry ∷ entries) = ap suc (many_flags entries)

pub many_shared : (entries : List (Option (Rc IndexValue Global))) → length (indexes_in entries) ≡ length entries
many_shared entries = length-map entries (λ (one : Option (Rc IndexValue Global)). option_map rc_value one)

-- one more column
pub flags_more : (items more : List (Option (Rc IndexValue Global))) (entry wanted : Option (Rc IndexValue Global))
    (before : List (Option (Rc IndexValue Global))) (column : ℕ) → more ≡ items ++ entry ∷ []
    → is_some entry ≡ is_some wanted → wanted ≡ slice_index_or before column wanted → column < length before
    → flags_of (indexes_in items) ≡ take column (flags_of (indexes_in before))
    → flags_of (indexes_in more) ≡ take (column + 1) (flags_of (indexes_in before))
flags_more items more entry wanted before column e flag there less so_far =
    let many = many_flags before in
    let one : is_some entry ≡ slice_index_or (flags_of (indexes_in before)) column false =
    flag ∙ flag_shared before column wanted there less in
    ap (λ (es : List (Option (Rc IndexValue Global))). flags_of (indexes_in es)) e
    ∙ (flags_behind items entry
    ∙ (ap₂ (λ (front : List Bool) (last : Bool). front ++ last ∷ []) so_far one
    ∙ sym (take_more (flags_of (indexes_in before)) column false (omega (arith, many, less)))))

pub built_behind : (content : TableValue) (items more : List (Option (Rc IndexValue Global)))
    (entry : Option (Rc IndexValue Global)) (column : ℕ) → more ≡ items ++ entry ∷ [] → length items ≡ column
    → AreBuilt content (indexes_in items) → IfSome entry (λ index. IsBuilt content column index.value)
    → AreBuilt content (indexes_in more)
built_behind content items more entry column e count so_far built =
    let behind : indexes_in (items ++ entry ∷ []) ≡ indexes_in items ++ option_map rc_value entry ∷ [] =
    map-append (λ (one : Option (Rc IndexValue Global)). option_map rc_value one) items (entry ∷ []) in
    let last : column ≡ length (indexes_in items) =
    sym count ∙ sym (length-map items (λ (one : Option (Rc IndexValue Global)). option_map rc_value one)) in
    subst (AreBuilt content) (sym (ap (λ (es : List (Option (Rc IndexValue Global))). indexes_in es) e ∙ behind))
    (built_more content (indexes_in items) (option_map rc_value entry) column last so_far (shared entry built))
  where
    shared : (entry : Option (Rc IndexValue Global)) → IfSome entry (λ index. IsBuilt content column index.value)
        → IfSome (option_map rc_value entry) (IsBuilt content column)
    shared None h = h
    shared (Some index) h = h

-- a mask tells the flags
pub mask_of_its_flags : (entries : List (Option IndexValue)) → mask_of entries ≡ mask_of_flags (flags_of entries)
mask_of_its_flags [] = refl
mask_of_its_flags (None ∷ entries) = let e = mask_of_its_flags entries in omega (arith, e)
mask_of_its_flags (Some held ∷ entries) = ap (λ n. 1 + 2 * n) (mask_of_its_flags entries)

-- The tables of a statement.

same_width : (one : HeldTable) (held : List HeldTable) (place : Place) (places : List Place)
    → map (λ t. t.schema) (contents_of (one ∷ held)) ≡ map (λ p. p.schema) (place ∷ places) → IsIndexed one
    → length one.indexes ≡ length place.schema
same_width one held place places e sound =
    sound.one_each ∙ ap (λ (schemas : List (List Column)). length (slice_index_or schemas 0 [])) e

same_rest : (one : HeldTable) (held : List HeldTable) (place : Place) (places : List Place)
    → map (λ t. t.schema) (contents_of (one ∷ held)) ≡ map (λ p. p.schema) (place ∷ places)
    → map (λ t. t.schema) (contents_of held) ≡ map (λ p. p.schema) places
same_rest one held place places e = ap (λ (schemas : List (List Column)). drop 1 schemas) e

entries_are : (places : List Place) (held : List HeldTable)
    → map (λ t. t.schema) (contents_of held) ≡ map (λ p. p.schema) places → All IsIndexed held
    → entries_by_place places (entries_of held) ≡ map (λ one. one.indexes) held
entries_are [] [] e sound = refl
entries_are [] (one ∷ held) e sound =
    absurd (let l = ap (λ (schemas : List (List Column)). length schemas) e in omega (arith, l))
entries_are (place ∷ places) [] e sound =
    absurd (let l = ap (λ (schemas : List (List Column)). length schemas) e in omega (arith, l))
entries_are (place ∷ places) (one ∷ held) e sound =
    let rest : List (Option IndexValue) = entries_of held in
    let many : length one.indexes ≡ length place.schema =
    same_width one held place places e (All-head IsIndexed one held sound) in
    let taken : take (length place.schema) (one.indexes ++ rest) ≡ one.indexes =
    subst (λ (m : ℕ). take m (one.indexes ++ rest) ≡ one.indexes) many (take-append_seam one.indexes rest) in
    let dropped : drop (length place.schema) (one.indexes ++ rest) ≡ rest =
    subst (λ (m : ℕ). drop m (one.indexes ++ rest) ≡ rest) many (drop-append_seam one.indexes rest) in
    ap (λ (front : List (Option IndexValue)). front
    ∷ entries_by_place places (drop (length place.schema) (one.indexes ++ rest))) taken
    ∙ (ap (λ (back : List (Option IndexValue)). one.indexes ∷ entries_by_place places back) dropped
    ∙ ap (λ (all : List (List (Option IndexValue))). one.indexes ∷ all)
    (entries_are places held (same_rest one held place places e) (All-tail IsIndexed one held sound)))

one_for_each : (places : List Place) (held : List HeldTable)
    → map (λ t. t.schema) (contents_of held) ≡ map (λ p. p.schema) places → All IsIndexed held
    → length (entries_of held) ≡ sum_by (λ p. length p.schema) places
one_for_each [] [] e sound = refl
one_for_each [] (one ∷ held) e sound =
    absurd (let l = ap (λ (schemas : List (List Column)). length schemas) e in omega (arith, l))
one_for_each (place ∷ places) [] e sound =
    absurd (let l = ap (λ (schemas : List (List Column)). length schemas) e in omega (arith, l))
one_for_each (place ∷ places) (one ∷ held) e sound =
    let many = same_width one held place places e (All-head IsIndexed one held sound) in
    let rest = one_for_each places held (same_rest one held place places e) (All-tail IsIndexed one held sound) in
    length-append one.indexes (entries_of held)
    ∙ (ap (λ (m : ℕ). m + length (entries_of held)) many
    ∙ (ap (λ (m : ℕ). length place.schema + m) rest ∙ sym (sum_by-cons (λ (p : Place). length p.schema) place places)))

joined : {T : Type 0} (o : Option (Option T)) (x : T) → option_and_then (λ entry. entry) o ≡ Some x → o ≡ Some (Some x)
joined None x e = absurd (none-some x e)
joined (Some entry) x e = ap Some e

found_built : (held : List HeldTable) (place column : ℕ) (table : TableValue) (index : IndexValue) → All IsIndexed held
    → slice_get (contents_of held) place ≡ Some table
    → option_and_then (λ entry. entry) (slice_get (slice_index_or (map (λ one. one.indexes) held) place []) column)
    ≡ Some index → IsBuilt table column index
found_built [] place column table index sound there e = absurd (none-some table there)
found_built (one ∷ held) zero column table index sound there e =
    subst (λ (content : TableValue). IsBuilt content column index) (same_Some one.version.content table there)
    ((All-head IsIndexed one held sound).built column index (joined (slice_get one.indexes column) index e))
found_built (one ∷ held) (suc place) column table index sound there e =
    found_built held place column table index (All-tail IsIndexed one held sound) there e

-- what is held of a statement's tables are its indexes
pub held_are_indexes : (q : Statement) (held : List HeldTable) → AreTablesOf q (contents_of held) → All IsIndexed held
    → AreIndexesOf q (contents_of held) (entries_of held)
held_are_indexes q held of sound = record {
  one_each = one_for_each q.places held of.columns sound;
  built = λ place column table index there e.
      found_built held place column table index sound there
      (sym (ap (λ (all : List (List (Option IndexValue))). option_and_then (λ entry. entry)
      (slice_get (slice_index_or all place []) column)) (entries_are q.places held of.columns sound)) ∙ e);
}

masks_mapped : (held : List HeldTable) → map mask_of (map (λ one. one.indexes) held) ≡ masks_in held
masks_mapped [] = refl
masks_mapped (one ∷ held) = ap (λ (masks : List ℕ). mask_of one.indexes ∷ masks) (masks_mapped held)

-- and their masks
pub held_masks : (q : Statement) (held : List HeldTable) (shared : List (Option (Rc IndexValue Global)))
    → AreTablesOf q (contents_of held) → All IsIndexed held → indexes_in shared ≡ entries_of held
    → masks_of q.places shared ≡ masks_in held
held_masks q held shared of sound e =
    sym (masks_map rc_value q.places shared)
    ∙ (ap (λ (entries : List (Option IndexValue)). masks_of q.places entries) e
    ∙ (ap (λ (all : List (List (Option IndexValue))). map mask_of all) (entries_are q.places held of.columns sound)
    ∙ masks_mapped held))
