-- How a result row is spelled.
use Rattle.std.specs.Prelude.{ℕ, List, [], ◌∷◌, ◌++◌, ◌/◌, ◌%◌, ◌==◌, ◌||◌, nat_lt, codes, if◌then◌else◌}
use Rattle.std.specs.List.{flat_map}
use Rattle.std.specs.Fmt.{signed_decimal, digit_glyph}
use Rattle.row_values.specs.declared.values.Value.TheVariants.{Int, Text}
use Rattle.statement_meaning.specs.Meaning.{Shown, Cell, Total}
use Rattle.std.specs.Prelude.{false}

-- a byte of a text between quotes: `"` and `\` behind a `\`, control bytes as `\x` and two small hexadecimal digits
abbrev pub escaped : ℕ → List ℕ
escaped byte =
    if byte == 34 || byte == 92 then 92 ∷ byte ∷ []
    else
    (if nat_lt byte 32 || byte == 127 then 92 ∷ 120 ∷ digit_glyph false (byte / 16) ∷ digit_glyph false (byte % 16) ∷ []
    else byte ∷ [])

-- a text between double quotes
abbrev pub quoted : List ℕ → List ℕ
quoted text = 34 ∷ flat_map escaped text ++ 34 ∷ []

-- a whole number in decimal, a text between double quotes
abbrev pub item_text : Shown → List ℕ
item_text (Cell (Int number)) = signed_decimal number
item_text (Cell (Text text)) = quoted text
item_text (Total number) = signed_decimal number

-- the items with a comma before each
abbrev pub further_items : List Shown → List ℕ
further_items [] = []
further_items (item ∷ items) = codes "," ++ item_text item ++ further_items items

-- the items joined by commas
abbrev pub items_text : List Shown → List ℕ
items_text [] = []
items_text (item ∷ items) = item_text item ++ further_items items

-- the line of a row, without its end
abbrev pub row_line : List Shown → List ℕ
row_line items = codes "row " ++ items_text items
