-- The fields of records, counted byte by byte.
use Rattle.std.proofs.Common.{◌≡◌, ◌<◌, ◌≤◌, ◌+◌, ◌∙◌, ℕ, zero, suc, nat_eq, Bool, true, false, ◌&&◌, if◌then◌else◌}
use Rattle.std.proofs.Common.{List, [], ◌∷◌, ◌++◌, drop, length, map, take, Option, None, Some, refl, sym, ap, add-zero}
use Rattle.std.proofs.Common.{zero-add, arith}
use Rattle.std.specs.Cmp.Lexicographic.{pointwise}
use Rattle.std.specs.Option.{option_or}
use Rattle.std.proofs.lemmas.Bool.{and_parts, false≢true}
use Rattle.std.proofs.lemmas.List.{length_push}
use Rattle.csv.specs.Machine.{Read, ends_at_end, field_after, fields_after, is_end, next_record, step}
use Rattle.csv.specs.Reading.{default_config, records_from, records_next, strip_bom}
use Rattle.csv.specs.declared.parser.Action.{Action}
use Rattle.csv.specs.declared.parser.Action.TheVariants as act
use Rattle.csv.specs.declared.parser.State.{State}
use Rattle.csv.specs.declared.parser.State.TheVariants as st
use Rattle.csv_tables.specs.Reading.{records_of}
use Rattle.csv_tables.specs.Shapes.{IsShape, end_of}
use Rattle.csv_tables.specs.Spelled.{uneven_row}
use Rattle.csv_tables.specs.Tallies.{all_noted, by_end, noted, widths}
use Rattle.csv_tables.specs.declared.shape.Shape.{Shape}
use Rattle.csv_tables.proofs.RecordsLeft.{shrinks}
use Rattle.csv_tables.proofs.Surveyed.{none_later, uneven_step}

-- ---- a byte order mark

mark_goes : (p q r : Bool) (rest whole : List ℕ) → (p && (q && (r && true))) ≡ true
    → rest ≡ (if (p && q && r) then rest else whole)
mark_goes true true true rest whole h = refl
mark_goes true true false rest whole h = cc
mark_goes true false r rest whole h = cc
mark_goes false q r rest whole h = cc

mark_stays : (p q r : Bool) (rest whole : List ℕ) → (p && (q && (r && true))) ≡ false
    → whole ≡ (if (p && q && r) then rest else whole)
mark_stays true true true rest whole h = cc
mark_stays true true false rest whole h = refl
mark_stays true false r rest whole h = refl
mark_stays false q r rest whole h = refl

pub with_mark : (bytes : List ℕ) → pointwise nat_eq (take 3 bytes) (239 ∷ 187 ∷ 191 ∷ []) ≡ true
    → drop 3 bytes ≡ strip_bom bytes
unfolding strip_bom
with_mark [] h = cc
with_mark (a ∷ []) h = absurd (false≢true ((and_parts (nat_eq a 239) false h).1))
with_mark (a ∷ b ∷ []) h =
    absurd (false≢true (and_parts (nat_eq b 187) false (and_parts (nat_eq a 239) (nat_eq b 187 && false) h).1).1)
with_mark (a ∷ b ∷ c ∷ rest) h = mark_goes (nat_eq a 239) (nat_eq b 187) (nat_eq c 191) rest (a ∷ b ∷ c ∷ rest) h

pub without_mark : (bytes : List ℕ) → pointwise nat_eq (take 3 bytes) (239 ∷ 187 ∷ 191 ∷ []) ≡ false
    → bytes ≡ strip_bom bytes
unfolding strip_bom
without_mark [] h = refl
without_mark (a ∷ []) h = refl
without_mark (a ∷ b ∷ []) h = refl
without_mark (a ∷ b ∷ c ∷ rest) h = mark_stays (nat_eq a 239) (nat_eq b 187) (nat_eq c 191) rest (a ∷ b ∷ c ∷ rest) h

-- ---- the widths of records

-- the widths of the bytes before a read are that of the record and those after it
abbrev WidthsOf : Option Read → List ℕ → Type 0
WidthsOf None ws = ws ≡ []
WidthsOf (Some read) ws = ws ≡ length read.0 ∷ widths read.1 0 read.2

at_end : (ends : Bool) (fields : List (List ℕ)) (field : List ℕ)
    → WidthsOf (if ends then Some (fields ++ (field ∷ []), st.StartRecord, []) else None) (if ends
    then (length fields + 1) ∷ [] else [])
at_end false fields field = refl
at_end true fields field = ap (λ (n : ℕ). n ∷ []) (sym (length_push fields field))

at_byte : (a : Action) (s : State) (fields : List (List ℕ)) (field : List ℕ) (byte : ℕ) (rest : List ℕ)
    → ((f : List (List ℕ)) (g : List ℕ) → WidthsOf (next_record default_config s f g rest) (widths s (length f) rest))
    → WidthsOf (if is_end a then Some (fields_after a fields field, s, rest)
    else next_record default_config s (fields_after a fields field) (field_after a byte field) rest)
    (by_end (end_of a) (widths s (length fields) rest) (widths s (length fields + 1) rest) ((length fields + 1)
    ∷ widths s 0 rest))
at_byte act.Skip s fields field byte rest ih = ih fields field
at_byte act.Copy s fields field byte rest ih = ih fields (field ++ (byte ∷ []))
at_byte act.EndField s fields field byte rest ih = rw (length_push fields field) at (ih (fields ++ (field ∷ [])) [])
at_byte act.EndRecord s fields field byte rest ih = ap (λ (n : ℕ). n ∷ widths s 0 rest) (sym (length_push fields field))

widths_of : (s : State) (fields : List (List ℕ)) (field bytes : List ℕ)
    → WidthsOf (next_record default_config s fields field bytes) (widths s (length fields) bytes)
unfolding next_record
widths_of s fields field [] = at_end (ends_at_end s) fields field
widths_of s fields field (byte ∷ rest) =
    at_byte (step default_config s byte).1 (step default_config s byte).0 fields field byte rest
    (λ f g. widths_of (step default_config s byte).0 f g rest)

widths_after : (n : ℕ) (s : State) (bytes : List ℕ) (read : Option Read)
    → next_record default_config s [] [] bytes ≡ read
    → ends_at_end s ≡ false → length bytes ≤ n → WidthsOf read (widths s 0 bytes)
    → ((t : State) (rest : List ℕ) → ends_at_end t ≡ false → length rest < n
    → map length (records_from default_config n t rest) ≡ widths t 0 rest)
    → map length (records_next (records_from default_config n) read) ≡ widths s 0 bytes
widths_after n s bytes None is e h w ih = sym w
widths_after n s bytes (Some read) is e h w ih =
    let after = shrinks s [] [] bytes read is in
    let fewer : length read.2 < length bytes = after.less e in
    ap (λ (ws : List ℕ). length read.0 ∷ ws) (ih read.1 read.2 after.between (omega arith)) ∙ sym w

widths_records : (n : ℕ) (s : State) (bytes : List ℕ) → ends_at_end s ≡ false → length bytes < n
    → map length (records_from default_config n s bytes) ≡ widths s 0 bytes
unfolding records_from
widths_records zero s bytes e h = absurd (omega arith)
widths_records (suc n) s bytes e h =
    widths_after n s bytes (next_record default_config s [] [] bytes) refl e (omega arith) (widths_of s [] [] bytes)
    (λ t rest f k. widths_records n t rest f k)

-- ---- the shape

abbrev pub start : Shape
start = record { column_count = None; row_count = 0; uneven = None }

abbrev under : ℕ → ℕ → Option ℕ → Shape
under columns n uneven = record { column_count = Some columns; row_count = n; uneven = uneven }

counted : (columns n : ℕ) (uneven : Option ℕ) (rows : List (List (List ℕ)))
    → all_noted (under columns n uneven) (map length rows)
    ≡ under columns (n + length rows) (option_or uneven (uneven_row (n + 1) columns rows))
counted columns n uneven [] = rw (add-zero n, none_later uneven) refl
counted columns n uneven (row ∷ rows) =
    let more : n + 1 + length rows ≡ n + suc (length rows) = omega arith in
    counted columns (n + 1) (option_or uneven (if nat_eq (length row) columns then None else Some (n + 1))) rows
    ∙ rw (more, uneven_step uneven (n + 1) columns row rows) refl

shape_known : (records : List (List (List ℕ))) → IsShape records (all_noted start (map length records))
shape_known [] = refl
shape_known (header ∷ rows) =
    let now = counted (length header) 0 None rows in
    rw now (record { column_count = refl; row_count = zero-add (length rows); uneven = refl })

pub shape_is : (bytes : List ℕ) (shape : Shape) → shape ≡ all_noted start (widths st.StartRecord 0 (strip_bom bytes))
    → IsShape (records_of bytes) shape
shape_is bytes shape e =
    rw (e, ← widths_records (length (strip_bom bytes) + 1) st.StartRecord (strip_bom bytes) refl (omega arith))
    (shape_known (records_of bytes))

-- at the end of the bytes a record may still stand open
pub closed : (ends : Bool) (shape all : Shape) (fields : ℕ) → ends ≡ false
    → all_noted shape (if ends then (fields + 1) ∷ [] else []) ≡ all → shape ≡ all
closed ends shape all fields e h = rw e at h

pub left_open : (ends : Bool) (shape all : Shape) (fields : ℕ) → ends ≡ true
    → all_noted shape (if ends then (fields + 1) ∷ [] else []) ≡ all
    → noted shape (fields + 1) ≡ all
left_open ends shape all fields e h = rw e at h
