-- Which columns of which places have an index.
use Rattle.std.specs.Prelude.{ℕ, Bool, List, slice_index}
use Rattle.plan_trees.specs.PlaceSets.{has}

-- bit c of the mask of place t stands for column c; a place without a mask has no index
abbrev pub has_index : List ℕ → ℕ → ℕ → Bool
has_index masks place column = has (slice_index masks place) column
