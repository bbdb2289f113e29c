-- The masks of entries, entry by entry.
use Rattle.std.proofs.Common.{ℕ, zero, suc, ◌≡◌, ◌<◌, ◌≤◌, ◌+◌, ◌++◌, ◌*◌, ◌%◌, ◌^◌, one-mul, mod-eq_of_lt, true, false, List, [], ◌∷◌, length, map, take, drop, set, get_or, ap, sym, ◌∙◌, refl, arith, drop-cons, add-one, lit≤, mul-add, mul_assoc, mul-one, Option, None, Some}
use Rattle.std.specs.Prelude.{All, is_some, slice_index_or}
use Rattle.std.proofs.Math.Nat.{pow-suc}
use Rattle.std.proofs.Math.Pow.{pow-lt}
use Rattle.std.proofs.lemmas.List.{length-take, map_more, take_all, take_more_set}
use Rattle.std.proofs.lemmas.List.Elements.{All-head, All-tail}
use Rattle.row_values.specs.Columns.{IsSchema}
use Rattle.row_values.specs.declared.columns.TheConstants.{COLUMN_LIMIT}
use Rattle.row_values.specs.declared.statement.Place.{Place}
use Rattle.table_index.specs.StatementIndexes.{entries_by_place, mask_of, masks_of}

-- an entry without an index adds nothing
passed : {T : Type 0} (power next mask whole : ℕ) (entry : Option T) (rest : List (Option T)) → next ≡ power * 2
    → is_some entry ≡ false → mask + power * mask_of (entry ∷ rest) ≡ whole → mask + next * mask_of rest ≡ whole
passed power next mask whole None rest twice none e = rw twice (rw (mul_assoc power 2 (mask_of rest)) e)
passed power next mask whole (Some held) rest twice none e = absurd cc

-- one with an index adds its bit
counted : {T : Type 0} (power next mask whole : ℕ) (entry : Option T) (rest : List (Option T)) → next ≡ power * 2
    → is_some entry ≡ true → mask + power * mask_of (entry ∷ rest) ≡ whole
    → mask + power + next * mask_of rest ≡ whole
counted power next mask whole None rest twice some e = absurd cc
counted power next mask whole (Some held) rest twice some e =
    let spread : power * (1 + 2 * mask_of rest) ≡ power * 1 + power * (2 * mask_of rest) =
    mul-add power 1 (2 * mask_of rest) in
    rw (twice, mul_assoc power 2 (mask_of rest)) (omega (arith, spread, mul-one power, e))

cut : {T : Type 0} (entries : List T) (column : ℕ) (entry : T) → column < length entries
    → entry ≡ get_or entries column entry → drop column entries ≡ entry ∷ drop (column + 1) entries
cut {T = T} entries column entry inside is =
    rw add-one
    (drop-cons entries column entry inside ∙ ap (λ (one : T). one ∷ drop (suc column) entries) (sym is))

twice_as_much : (column : ℕ) → 2 ^ (column + 1) ≡ 2 ^ column * 2
twice_as_much column = rw add-one (pow-suc 2 column)

pub mask_passed : {T : Type 0} (entries : List (Option T)) (column mask whole : ℕ) (entry : Option T)
    → column < length entries → entry ≡ get_or entries column entry → is_some entry ≡ false
    → mask + 2 ^ column * mask_of (drop column entries) ≡ whole
    → mask + 2 ^ (column + 1) * mask_of (drop (column + 1) entries) ≡ whole
mask_passed entries column mask whole entry inside is none e =
    passed (2 ^ column) (2 ^ (column + 1)) mask whole entry (drop (column + 1) entries) (twice_as_much column) none
    (rw (cut entries column entry inside is) at e)

pub mask_counted : {T : Type 0} (entries : List (Option T)) (column mask whole : ℕ) (entry : Option T)
    → column < length entries → entry ≡ get_or entries column entry → is_some entry ≡ true
    → mask + 2 ^ column * mask_of (drop column entries) ≡ whole
    → mask + 2 ^ column + 2 ^ (column + 1) * mask_of (drop (column + 1) entries) ≡ whole
mask_counted entries column mask whole entry inside is some e =
    counted (2 ^ column) (2 ^ (column + 1)) mask whole entry (drop (column + 1) entries) (twice_as_much column) some
    (rw (cut entries column entry inside is) at e)

-- the bit of a column, as the code makes it
pub bit_is : (column : ℕ) → column < 64 → 1 * 2 ^ column % 2 ^ 64 ≡ 2 ^ column
bit_is column h = rw one-mul (mod-eq_of_lt (pow-lt h))

-- the mask so far stays small
pub bit_room : (column mask : ℕ) → mask < 2 ^ column → mask + 2 ^ column < 2 ^ (column + 1)
bit_room column mask h = omega (arith, h, twice_as_much column)

pub bit_kept : (column mask : ℕ) → mask < 2 ^ column → mask < 2 ^ (column + 1)
bit_kept column mask h = omega (arith, h, twice_as_much column)

length-entries : {T : Type 0} (places : List Place) (entries : List T)
    → length (entries_by_place places entries) ≡ length places
length-entries [] entries = refl
length-entries (place ∷ places) entries = ap suc (length-entries places (drop (length place.schema) entries))

-- a place has as many entries as columns, or fewer
pub few_entries : {T : Type 0} (places : List Place) (entries : List T) (place : ℕ)
    → All (λ (place : Place). IsSchema place.schema) places
    → length (slice_index_or (entries_by_place places entries) place []) ≤ COLUMN_LIMIT
few_entries [] entries place all = lit≤ tt
few_entries (p ∷ places) entries zero all =
    let few = (All-head (λ (place : Place). IsSchema place.schema) p places all).few in
    omega (arith, few, length-take (length p.schema) entries)
few_entries (p ∷ places) entries (suc place) all =
    few_entries places (drop (length p.schema) entries) place
    (All-tail (λ (place : Place). IsSchema place.schema) p places all)

-- one more mask
pub masks_more : {T : Type 0} (places : List Place) (entries : List (Option T)) (masks : List ℕ) (place mask : ℕ)
    → place < length places → place < length masks
    → mask ≡ mask_of (slice_index_or (entries_by_place places entries) place [])
    → take place masks ≡ map mask_of (take place (entries_by_place places entries))
    → take (place + 1) (set masks place mask) ≡ map mask_of (take (place + 1) (entries_by_place places entries))
masks_more places entries masks place mask there room is so_far =
    take_more_set masks place mask room
    ∙ (ap (λ (ns : List ℕ). ns ++ mask ∷ []) so_far
    ∙ (ap (λ (n : ℕ). map mask_of (take place (entries_by_place places entries)) ++ n ∷ []) is
    ∙ sym (map_more mask_of (entries_by_place places entries) place [] (rw length-entries there))))

-- all masks
pub masks_done : {T : Type 0} (places : List Place) (entries : List (Option T)) (masks : List ℕ) (place count : ℕ)
    → length places ≤ place → place ≤ length places → count ≡ length places
    → take place masks ≡ map mask_of (take place (entries_by_place places entries))
    → take count masks ≡ masks_of places entries
masks_done {T = T} places entries masks place count over within is e =
    ap (λ (k : ℕ). take k masks) (omega (arith, over, within, is))
    ∙ (e ∙ ap (λ (lists : List (List (Option T))). map mask_of lists)
    (take_all place (entries_by_place places entries) (omega (arith, over, length-entries places entries))))
