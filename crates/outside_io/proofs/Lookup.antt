-- What stands under a name after a file is written over the first of this name, or put behind those that have others.
use Rattle.std.proofs.Common.{ℕ, ◌≡◌, ◌≢◌, Bool, true, false, cond, List, [], ◌∷◌, ◌++◌, Option, Some, None, get_or}
use Rattle.std.proofs.Common.{refl, sym, ◌∙◌, ap, arith}
use Rattle.std.specs.List.{find, position, slice_set}
use Rattle.std.specs.Option.{option_map, option_or}
use Rattle.std.proofs.lemmas.Bool.{ltb-false, false_from_ne_true}
use Rattle.std.proofs.lemmas.Option.{slice_get_past}
use Rattle.std.proofs.lemmas.List.Folds.{find-set, find_past, find-append, find_at}
use Rattle.std.proofs.lemmas.List.Quantifiers.{position-Some}
use Rattle.std.proofs.lemmas.List.Sums.{position_or_len_is}
use Rattle.std.proofs.lemmas.Slice.Eq.{bytes_eq-Decides}
use Rattle.outside_io.specs.Memory.{Named, has_name, bytes_at}

none_false : (b : Bool) (n : ℕ) → cond b (Some n) None ≡ None → b ≡ false
none_false true n e = absurd (cc)
none_false false n e = refl

-- where there is no position there is nothing to find
find_without_position : {X : Type 0} (p : X → Bool) (xs : List X) → position p xs ≡ None → find p xs ≡ None
find_without_position p xs none =
    find_at p xs ∙ slice_get_past xs _ (ltb-false _ _ (none_false _ _ none))

-- a write at the first place that passes is what is found
find_written : {X : Type 0} (p : X → Bool) (xs : List X) (place : ℕ) (y : X) → position p xs ≡ Some place → p y ≡ true
    → find p (slice_set xs place y) ≡ Some y
find_written p xs place y at passes =
    let there = position-Some p xs place y at in
    find-set p xs place y
    (sym (position_or_len_is p xs place y (omega (arith, there.0)) there.2 (λ _. there.1)))
    there.0 passes

named_so : (y : Named) (name : List ℕ) → y.name ≡ name → has_name name y ≡ true
named_so y name same = (bytes_eq-Decides y.name name).1 same

named_otherwise : (y : Named) (name other : List ℕ) → other ≢ name → has_name name y ≡ true → has_name other y ≡ false
named_otherwise y name other differs same =
    false_from_ne_true _ (λ is_other.
    differs (sym ((bytes_eq-Decides y.name other).0 is_other) ∙ (bytes_eq-Decides y.name name).0 same))

pub bytes_at-written : (files : List Named) (place : ℕ) (y : Named) (name : List ℕ)
    → position (has_name name) files ≡ Some place → y.name ≡ name
    → bytes_at (slice_set files place y) name ≡ Some y.bytes
bytes_at-written files place y name at same =
    ap (option_map (λ file. file.bytes)) (find_written (has_name name) files place y at (named_so y name same))

pub bytes_at-written_other : (files : List Named) (place : ℕ) (y : Named) (name : List ℕ)
    → position (has_name name) files ≡ Some place → y.name ≡ name → (other : List ℕ) → other ≢ name
    → bytes_at (slice_set files place y) other ≡ bytes_at files other
bytes_at-written_other files place y name at same other differs =
    let there = position-Some (has_name name) files place y at in
    ap (option_map (λ file. file.bytes))
    (find_past (has_name other) files place y y
    (named_otherwise (get_or files place y) name other differs there.1)
    (named_otherwise y name other differs (named_so y name same)))

pub bytes_at-behind : (files : List Named) (y : Named) (name : List ℕ) → position (has_name name) files ≡ None
    → y.name ≡ name → bytes_at (files ++ y ∷ []) name ≡ Some y.bytes
bytes_at-behind files y name none same =
    let before : find (has_name name) files ≡ None = find_without_position (has_name name) files none in
    let passes : has_name name y ≡ true = named_so y name same in
    let found : find (has_name name) (files ++ y ∷ []) ≡ Some y = find-append (has_name name) files (y ∷ [])
    ∙ rw before (rw passes refl) in
    ap (option_map (λ file. file.bytes)) found

or_none : (found : Option Named) → option_or found None ≡ found
or_none None = refl
or_none (Some file) = refl

pub bytes_at-behind_other : (files : List Named) (y : Named) (name : List ℕ) → y.name ≡ name → (other : List ℕ)
    → other ≢ name → bytes_at (files ++ y ∷ []) other ≡ bytes_at files other
bytes_at-behind_other files y name same other differs =
    let fails : has_name other y ≡ false = named_otherwise y name other differs (named_so y name same) in
    let found : find (has_name other) (files ++ y ∷ []) ≡ find (has_name other) files =
    find-append (has_name other) files (y ∷ []) ∙ rw fails (or_none _) in
    ap (option_map (λ file. file.bytes)) found
