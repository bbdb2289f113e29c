-- Whole numbers, as cells hold them.
use Rattle.std.specs.Prelude.{ℕ, ℤ, pos, Bool, List, is_some, unwrap_or}
use Rattle.row_values.specs.Numbers.{whole_number_of}

-- whether a text spells a whole number
abbrev pub is_whole_number : List ℕ → Bool
is_whole_number text = is_some (whole_number_of text)

-- the number that such a text spells
abbrev pub number_of : List ℕ → ℤ
number_of text = unwrap_or (whole_number_of text) (pos 0)
