-- The numbers of rows.
use Rattle.std.specs.Prelude.{ℕ, zero, suc, List, [], ◌∷◌, ◌++◌}

-- the numbers of so many rows, rising
abbrev pub row_numbers : ℕ → List ℕ
row_numbers zero = []
row_numbers (suc count) = row_numbers count ++ count ∷ []
