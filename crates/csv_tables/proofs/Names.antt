-- The names of a header, one after the other.
use Rattle.std.proofs.Common.{◌≡◌, ◌<◌, ◌+◌, ℕ, true, false, nat_eq, List, [], ◌∷◌, ◌++◌, drop, get_or, length, map}
use Rattle.std.proofs.Common.{take, option_map, Option, Some, refl, add-one, inl, inr}
use Rattle.std.specs.List.{list_any}
use Rattle.std.specs.Str.{IsUtf8, bytes_eq, is_utf8}
use Rattle.std.proofs.lemmas.Bool.{cases_Bool}
use Rattle.std.proofs.lemmas.List.{drop_more, map-append, map_more}
use Rattle.std.proofs.lemmas.Str.{IsUtf8-from_is_utf8, is_utf8-from_IsUtf8}
use Rattle.csv_tables.specs.Headers.{bad_name, heading_of, is_bad_name, kind_tag_of, name_of}
use Rattle.csv_tables.specs.declared.header.Heading.{Heading}
use Rattle.csv_tables.specs.declared.faults.TableFault.TheVariants.{BadHeader}

pub no_text : (bytes : List ℕ) → (IsUtf8 bytes → ⊥) → is_utf8 bytes ≡ false
no_text bytes h = elim (cases_Bool (is_utf8 bytes)) [ inl e ↦ absurd (h (IsUtf8-from_is_utf8 bytes e)) | inr e ↦ e ]

-- a name that isn't UTF-8 can't be a column's
pub no_text_is_bad : (earlier : List (List ℕ)) (name : List ℕ) → (IsUtf8 name → ⊥) → is_bad_name earlier name ≡ true
no_text_is_bad earlier name h =
    elim (cases_Bool (nat_eq (length name) 0)) [ inl e ↦ rw e refl | inr e ↦ rw (e, no_text name h) refl ]

pub good_name : (earlier : List (List ℕ)) (name : List ℕ) → nat_eq (length name) 0 ≡ false → IsUtf8 name
    → list_any (bytes_eq name) earlier ≡ false
    → is_bad_name earlier name ≡ false
good_name earlier name e u k = rw (e, is_utf8-from_IsUtf8 name u, k) refl

-- the first bad name is the answer
pub refused : (n column : ℕ) (earlier fields : List (List ℕ)) (name : List ℕ) (all : Option ℕ) → column < length fields
    → name ≡ name_of (get_or fields column []) → is_bad_name earlier name ≡ true
    → bad_name n earlier (map name_of (drop column fields)) ≡ all
    → option_map BadHeader all ≡ Some (BadHeader n)
refused n column earlier fields name all h e bad is =
    let here = rw (drop_more fields column [] h, ← e, bad) at is in
    rw (← here) refl

-- a good name leaves the answer to the next
pub passed : (n column : ℕ) (earlier fields : List (List ℕ)) (name : List ℕ) (all : Option ℕ) → column < length fields
    → name ≡ name_of (get_or fields column []) → is_bad_name earlier name ≡ false
    → bad_name n earlier (map name_of (drop column fields)) ≡ all
    → bad_name (n + 1) (earlier ++ name ∷ []) (map name_of (drop (column + 1) fields)) ≡ all
passed n column earlier fields name all h e good is =
    let here = rw (drop_more fields column [] h, ← e, good) at is in
    rw (add-one n) here

-- a heading more is that of the next cell
pub heading_more : (column : ℕ) (fields : List (List ℕ)) (old new : List Heading) (heading : Heading)
    → column < length fields
    → new ≡ old ++ heading ∷ [] → old ≡ map heading_of (take column fields)
    → heading.name ≡ name_of (get_or fields column [])
    → heading.kind_tag ≡ kind_tag_of (get_or fields column []) → new ≡ map heading_of (take (column + 1) fields)
heading_more column fields old new heading h push was name tag =
    rw (map_more heading_of fields column [] h, push, was, name, tag) refl

pub name_more : (old new : List Heading) (heading : Heading) → new ≡ old ++ heading ∷ []
    → map (λ (this : Heading). this.name) new ≡ map (λ (this : Heading). this.name) old ++ heading.name ∷ []
name_more old new heading push = rw push (map-append (λ (this : Heading). this.name) old (heading ∷ []))
