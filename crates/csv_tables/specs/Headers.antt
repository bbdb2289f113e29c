-- The header of a file: names, and tags of kinds.
use Rattle.std.specs.Prelude.{ℕ, suc, ◌-◌, ◌==◌, Bool, not, ◌||◌, if◌then◌else◌, List, [], ◌∷◌, ◌++◌, codes, drop}
use Rattle.std.specs.Prelude.{length, take, Option, None, Some}
use Rattle.std.specs.Str.{bytes_eq, is_utf8}
use Rattle.std.specs.List.{list_any}
use Rattle.row_values.specs.declared.values.Kind.{Kind}
use Rattle.row_values.specs.declared.values.Kind.TheVariants.{Int, Text}
use Rattle.csv_tables.specs.declared.header.Heading.{Heading}

-- whether a text ends in this one
abbrev pub ends_in : List ℕ → List ℕ → Bool
ends_in end text = bytes_eq (drop (length text - length end) text) end

-- a text without so many bytes at its end
abbrev pub without_end : List ℕ → List ℕ → List ℕ
without_end end text = take (length text - length end) text

-- the kind that a header cell has a tag of: that of its end `:int` or `:text`, where it has one
abbrev pub kind_tag_of : List ℕ → Option Kind
kind_tag_of cell =
    if ends_in (codes ":int") cell then Some Int else if ends_in (codes ":text") cell then Some Text else None

-- the name in a header cell: what stands before the tag
abbrev pub name_of : List ℕ → List ℕ
name_of cell =
    if ends_in (codes ":int") cell then without_end (codes ":int") cell
    else if ends_in (codes ":text") cell then without_end (codes ":text") cell else cell

-- whether a name can't be a column's behind these: it is empty, no UTF-8, or there already
abbrev pub is_bad_name : List (List ℕ) → List ℕ → Bool
is_bad_name earlier name = (length name == 0) || not (is_utf8 name) || list_any (bytes_eq name) earlier

-- the number of the first of these names that can't be a column's behind the earlier ones; the first one's is n
abbrev pub bad_name : ℕ → List (List ℕ) → List (List ℕ) → Option ℕ
bad_name n earlier [] = None
bad_name n earlier (name ∷ names) =
    if is_bad_name earlier name then Some n else bad_name (suc n) (earlier ++ name ∷ []) names

-- what a header cell says
abbrev pub heading_of : List ℕ → Heading
heading_of cell = record { name = name_of cell; kind_tag = kind_tag_of cell }
