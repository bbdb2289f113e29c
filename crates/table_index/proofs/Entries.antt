-- The entries of a statement's places, over shared indexes and over what these hold.
use Rattle.std.proofs.Common.{ℕ, ◌≡◌, ◌+◌, ◌*◌, List, [], ◌∷◌, ap, refl, ◌∙◌, length, take, drop, map, slice_get, slice_index_or}
use Rattle.std.proofs.Common.{Option, None, Some, sym, Bor, MatchOption, IsSomeAnd}
use Rattle.std.specs.Option.{option_map, option_and_then}
use Rattle.std.specs.Rc.{rc_value}
use Rattle.std.specs.Slice.{IsItemAt}
use Rattle.std.specs.declared.rc.Rc.{Rc}
use Rattle.std.proofs.Math.ListN.{get_or-map}
use Rattle.std.proofs.lemmas.List.{take-map, drop-map}
use Rattle.std.proofs.lemmas.Option.{slice_get-map, slice_get_past, slice_get_read}
use Rattle.row_values.specs.declared.statement.Place.{Place}
use Rattle.table_index.specs.Indexes.{IndexValue}
use Rattle.table_index.specs.StatementIndexes.{entries_by_place, entry_at, index_at, indexes_in, mask_of, masks_of}

entries_map : {A B : Type 0} (f : A → B) (places : List Place) (xs : List A)
    → entries_by_place places (map f xs) ≡ map (map f) (entries_by_place places xs)
entries_map f [] xs = refl
entries_map f (place ∷ places) xs =
    rw (take-map f (length place.schema) xs, drop-map f (length place.schema) xs)
    (ap (λ (rest : List (List _)). map f (take (length place.schema) xs) ∷ rest)
    (entries_map f places (drop (length place.schema) xs)))

-- an entry of what a function makes of each entry
pub entry_map : {A B : Type 0} (f : A → B) (places : List Place) (xs : List A) (place column : ℕ)
    → entry_at places (map f xs) place column ≡ option_map f (entry_at places xs place column)
entry_map f places xs place column =
    ap (λ (es : List (List _)). slice_get (slice_index_or es place []) column) (entries_map f places xs)
    ∙ (ap (λ (es : List _). slice_get es column) (get_or-map (map f) (entries_by_place places xs) place [])
    ∙ slice_get-map f (slice_index_or (entries_by_place places xs) place []) column)

-- the index that an entry shares
pub index_shared : {Z : Type 0} (places : List Place) (shared : List (Option (Rc IndexValue Z))) (place column : ℕ)
    → index_at places (indexes_in shared) place column
    ≡ option_and_then (option_map rc_value) (entry_at places shared place column)
index_shared places shared place column =
    ap (λ (o : Option (Option IndexValue)). option_and_then (λ entry. entry) o)
    (entry_map (option_map rc_value) places shared place column)
    ∙ joined (entry_at places shared place column)
  where
    joined : {Z : Type 0} (o : Option (Option (Rc IndexValue Z)))
        → option_and_then (λ entry. entry) (option_map (option_map rc_value) o)
        ≡ option_and_then (option_map rc_value) o
    joined None = refl
    joined (Some entry) = refl

-- a mask tells what is there, and nothing of what it is
mask_map : {A B : Type 0} (f : A → B) (entries : List (Option A)) → mask_of (map (option_map f) entries) ≡ mask_of entries
mask_map f [] = refl
mask_map f (None ∷ entries) = ap (λ n. 2 * n) (mask_map f entries)
mask_map f (Some held ∷ entries) = ap (λ n. 1 + 2 * n) (mask_map f entries)

pub masks_map : {A B : Type 0} (f : A → B) (places : List Place) (entries : List (Option A))
    → masks_of places (map (option_map f) entries) ≡ masks_of places entries
masks_map f [] entries = refl
masks_map f (place ∷ places) entries =
    rw (
      take-map (option_map f) (length place.schema) entries,
      drop-map (option_map f) (length place.schema) entries,
      mask_map f (take (length place.schema) entries),
    )
    (ap (λ (masks : List ℕ). mask_of (take (length place.schema) entries) ∷ masks)
    (masks_map f places (drop (length place.schema) entries)))

-- what was found at a column of the entries of a place
pub looked_up : {Z : Type 0} (places : List Place) (shared : List (Option (Rc IndexValue Z))) (place column : ℕ)
    (entries : List (Option (Rc IndexValue Z))) (found : Option (Bor (Option (Rc IndexValue Z)))) (all : List Place)
    (position : ℕ) → entries ≡ slice_index_or (entries_by_place all shared) place [] → all ≡ places
    → position ≡ column → IsItemAt entries position found
    → index_at places (indexes_in shared) place column ≡ option_and_then (λ entry. option_map rc_value entry.now) found
looked_up places shared place column entries found all position e same at item =
    index_shared places shared place column
    ∙ ap (λ (o : Option (Option (Rc IndexValue _))). option_and_then (option_map rc_value) o)
    (ap (λ (es : List _). slice_get es column) (sym (rw (← same) e)) ∙ here entries column found (rw (← at) item))
    ∙ taken found
  where
    here : {X : Type 0} (entries : List X) (column : ℕ) (found : Option (Bor X)) → IsItemAt entries column found
        → slice_get entries column ≡ option_map (λ entry. entry.now) found
    here entries column None item = slice_get_past entries column item.3
    here entries column (Some entry) item = slice_get_read entries (length entries) column entry.now refl item.3.0 item.1

    taken : {Z : Type 0} (found : Option (Bor (Option (Rc IndexValue Z))))
        → option_and_then (option_map rc_value) (option_map (λ entry. entry.now) found)
        ≡ option_and_then (λ entry. option_map rc_value entry.now) found
    taken None = refl
    taken (Some entry) = refl

-- what is lent is what the entry shares
pub derefed : {X Z : Type 0} (entry : Option (Rc X Z)) (lent : Option (Bor X))
    → MatchOption entry (lent ≡ None) (λ shared. IsSomeAnd lent (λ it. it.now ≡ shared.value))
    → option_map (λ it. it.now) lent ≡ option_map rc_value entry
derefed None lent h = ap (option_map (λ it. it.now)) h
derefed (Some shared) None h = absurd h
derefed (Some shared) (Some it) h = ap Some h
