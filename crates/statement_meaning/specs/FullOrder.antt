-- The order by keys and then by row numbers, in which no two combinations tie.
use Rattle.std.specs.Prelude.{ℕ, Bool, List}
use Rattle.std.specs.Ordering.{nat_cmp, is_lt, ordering_then}
use Rattle.std.specs.Cmp.Lexicographic.{slice_cmp}
use Rattle.std.specs.declared.cmp.Ordering.{Ordering}
use Rattle.row_values.specs.declared.values.Value.{Value}
use Rattle.row_values.specs.declared.statement.OrderKey.{OrderKey}
use Rattle.statement_meaning.specs.Meaning.{keys_order}

-- how two combinations stand by the keys, and where these tie by the row numbers
abbrev pub full_order : List (List (List Value)) → List OrderKey → List ℕ → List ℕ → Ordering
full_order tables keys a b = ordering_then (keys_order tables keys a b) (slice_cmp nat_cmp a b)

abbrev pub is_earlier : List (List (List Value)) → List OrderKey → List ℕ → List ℕ → Bool
is_earlier tables keys a b = is_lt (full_order tables keys a b)
