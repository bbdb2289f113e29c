-- A known reference means a column that is there.
use Rattle.std.proofs.Common.{ℕ, ◌≡◌, ◌+◌, ◌==◌, List, [], ◌∷◌, Bool, true, false, ◌&&◌, ◌||◌, if◌then◌else◌, IsSome}
use Rattle.std.proofs.Common.{refl, zero-add, add-one}
use Rattle.std.specs.Option.{option_map}
use Rattle.std.specs.Str.{bytes_eq}
use Rattle.std.specs.List.{slice_get}
use Rattle.row_values.specs.Columns.{is_name_in}
use Rattle.row_values.specs.Statements.{kind_at}
use Rattle.row_values.specs.declared.columns.Column.{Column}
use Rattle.row_values.specs.declared.statement.Place.{Place}
use Rattle.sql_parser.specs.declared.statement.RawRef.{RawRef}
use Rattle.name_binder.specs.References.{goes_with, can_mean, place_number, column_number, column_in, meant, is_unknown}

pub both_right : (a b : Bool) → (a && b) ≡ true → b ≡ true
both_right true b h = h
both_right false b h = cc

pub both_left : (a b : Bool) → (a && b) ≡ true → a ≡ true
both_left true b h = refl
both_left false b h = h

column_step : (found : Bool) (n : ℕ) (column : Column) (columns : List Column)
    → (found ≡ false → IsSome (option_map (λ (c : Column). c.kind) (slice_get columns n)))
    → IsSome (option_map (λ (c : Column). c.kind) (slice_get (column ∷ columns) (if found then 0 else n + 1)))
column_step true n column columns later = refl
column_step false n column columns later = rw add-one (later refl)

or_right : (a b : Bool) → (a || b) ≡ true → a ≡ false → b ≡ true
or_right true b h e = cc
or_right false b h e = h

column_there : (name : List ℕ) (columns : List Column) → is_name_in name columns ≡ true
    → IsSome (option_map (λ (c : Column). c.kind) (slice_get columns (column_number name columns)))
column_there name [] h = cc
column_there name (column ∷ columns) h =
    column_step (bytes_eq column.name name) (column_number name columns) column columns
    (λ e. column_there name columns (or_right (bytes_eq column.name name) _ h e))

place_step : (found : Bool) (place : Place) (places : List Place) (n m c : ℕ)
    → (found ≡ true → IsSome (option_map (λ (c : Column). c.kind) (slice_get place.schema c)))
    → (found ≡ false → IsSome (kind_at places (record { place = n; column = m })))
    → IsSome (kind_at (place ∷ places) (record { place = if found then 0 else n + 1; column = if found then c else m }))
place_step true place places n m c here later = here refl
place_step false place places n m c here later = rw add-one (later refl)

not_here : (found : Bool) (n : ℕ) → (((if found then 1 else 0) + n) == 0) ≡ false → found ≡ false → (n == 0) ≡ false
not_here true n h e = cc
not_here false n h e = rw zero-add at h

pub known_column : (r : RawRef) (places : List Place) → is_unknown places r ≡ false
    → IsSome (kind_at places (meant places r))
known_column r [] h = cc
known_column r (place ∷ places) h =
    place_step (can_mean r place) place places (place_number r places) (column_in r places)
    (column_number r.column place.schema)
    (λ e. column_there r.column place.schema (both_right (goes_with r.alias place) _ e))
    (λ e. known_column r places (not_here (can_mean r place) _ h e))
