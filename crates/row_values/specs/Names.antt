-- The canonical spelling of a name: as it is where that reads as a name, else in double quotes.
use Rattle.std.specs.Prelude.{ℕ, List, [], ◌∷◌, ◌++◌, ◌==◌, if◌then◌else◌}
use Rattle.std.specs.List.{flat_map}
use Rattle.std.specs.Char.{encode_utf8}
use Rattle.row_values.specs.Plain.{is_plain}

-- a double quote is written as two
abbrev pub doubled : ℕ → List ℕ
doubled byte = if byte == 34 then 34 ∷ 34 ∷ [] else byte ∷ []

abbrev pub quoted_name : List ℕ → List ℕ
quoted_name name = 34 ∷ flat_map doubled name ++ 34 ∷ []

abbrev pub canonical_name : List ℕ → List ℕ
canonical_name name = if is_plain name then name else quoted_name name

-- the bytes of a character in quotes
abbrev pub letter_bytes : ℕ → List ℕ
letter_bytes letter = (if letter == 34 then 34 ∷ [] else []) ++ encode_utf8 letter
