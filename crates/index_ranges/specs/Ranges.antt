-- Ranges of positions in an index.
use Rattle.std.specs.Prelude.{ℕ, ◌<◌, ◌≤◌, List, [], ◌∷◌, ◌++◌, All, Bool, true, false, slice_range}
use Rattle.row_values.specs.declared.statement.Test.{Test}
use Rattle.row_values.specs.declared.statement.Test.TheVariants.{Lt, Le, Gt, Ge, Eq, Between, OneOf}

-- the rows at the positions of these ranges, one range after the other
abbrev pub rows_between : List ℕ → List (ℕ × ℕ) → List ℕ
rows_between rows [] = []
rows_between rows (range ∷ ranges) = slice_range rows range.0 range.1 ++ rows_between rows ranges

-- each range has a position, and ends where there are so many positions at the latest
abbrev pub are_within : ℕ → List (ℕ × ℕ) → Type 0
are_within count ranges = All (λ range. (range.0 < range.1) × (range.1 ≤ count)) ranges

-- whether a test is an IN
abbrev pub is_one_of : Test → Bool
is_one_of (Lt a) = false
is_one_of (Le a) = false
is_one_of (Gt a) = false
is_one_of (Ge a) = false
is_one_of (Eq a) = false
is_one_of (Between a b) = false
is_one_of (OneOf operands) = true
