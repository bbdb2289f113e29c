-- A column whose place's mask has its bit has an index.
use Rattle.std.proofs.Common.{ℕ, zero, suc, ◌≡◌, ◌+◌, ◌*◌, ◌/◌, ◌%◌, ◌==◌, true, List, [], ◌∷◌, slice_get}
use Rattle.std.proofs.Common.{slice_index_or, Option, Some, None, IsSome, ap, sym, ◌∙◌, refl, arith}
use Rattle.std.specs.Option.{option_and_then, option_map}
use Rattle.std.specs.Rc.{rc_value}
use Rattle.std.specs.declared.rc.Rc.{Rc}
use Rattle.std.proofs.Math.ListN.{get_or-map}
use Rattle.std.proofs.lemmas.Bool.{false≢true}
use Rattle.std.proofs.lemmas.Nat.Bits.{bit_at-suc, bit_at-zero, bit_at_lowest}
use Rattle.row_values.specs.declared.statement.Place.{Place}
use Rattle.plan_trees.specs.Indexes.{has_index}
use Rattle.plan_trees.specs.PlaceSets.{has}
use Rattle.table_index.specs.Indexes.{IndexValue}
use Rattle.table_index.specs.StatementIndexes.{entries_by_place, entry_at, index_at, indexes_in, mask_of, masks_of}
use Rattle.table_index.proofs.Entries.{masks_map}

-- what stands in an entry that may not be there
abbrev held : {T : Type 0} → List (Option T) → ℕ → Option T
held entries column = option_and_then (λ entry. entry) (slice_get entries column)

low_bit : (mask : ℕ) → has mask 0 ≡ (mask % 2 == 1)
low_bit mask = ap (λ (n : ℕ). n == 1) (bit_at_lowest mask)

next_bit : (mask half column : ℕ) → mask / 2 ≡ half → has mask (suc column) ≡ has half column
next_bit mask half column e =
    ap (λ (n : ℕ). n == 1) (bit_at-suc mask column) ∙ ap (λ (n : ℕ). has n column) e

held_by_bit : {T : Type 0} (entries : List (Option T)) (column : ℕ) → has (mask_of entries) column ≡ true
    → IsSome (held entries column)
held_by_bit [] column h = absurd (false≢true (sym (ap (λ (n : ℕ). n == 1) (bit_at-zero column)) ∙ h))
held_by_bit (None ∷ entries) zero h =
    let even : 2 * mask_of entries % 2 ≡ 0 = omega arith in
    absurd (false≢true (sym (low_bit (2 * mask_of entries) ∙ ap (λ (n : ℕ). n == 1) even) ∙ h))
held_by_bit (Some one ∷ entries) zero h = refl
held_by_bit (None ∷ entries) (suc column) h =
    let half : 2 * mask_of entries / 2 ≡ mask_of entries = omega arith in
    held_by_bit entries column (sym (next_bit (2 * mask_of entries) (mask_of entries) column half) ∙ h)
held_by_bit (Some one ∷ entries) (suc column) h =
    let half : (1 + 2 * mask_of entries) / 2 ≡ mask_of entries = omega arith in
    held_by_bit entries column (sym (next_bit (1 + 2 * mask_of entries) (mask_of entries) column half) ∙ h)

entry_found : {T : Type 0} (places : List Place) (entries : List (Option T)) (place column : ℕ)
    → has_index (masks_of places entries) place column ≡ true
    → IsSome (option_and_then (λ entry. entry) (entry_at places entries place column))
entry_found places entries place column h =
    held_by_bit (slice_index_or (entries_by_place places entries) place []) column
    (sym (ap (λ (mask : ℕ). has mask column) (get_or-map mask_of (entries_by_place places entries) place [])) ∙ h)

pub index_found : {Z : Type 0} (places : List Place) (shared : List (Option (Rc IndexValue Z))) (place column : ℕ)
    → has_index (masks_of places shared) place column ≡ true
    → IsSome (index_at places (indexes_in shared) place column)
index_found places shared place column h =
    entry_found places (indexes_in shared) place column
    (ap (λ (masks : List ℕ). has_index masks place column) (masks_map rc_value places shared) ∙ h)

pub some_before : {A B : Type 0} (f : A → B) (o : Option A) → IsSome (option_map f o) → IsSome o
some_before f None h = h
some_before f (Some a) h = refl
