-- How two combinations stand by keys that are ready.
use Rattle.std.specs.Prelude.{ℕ, List, [], ◌∷◌, if◌then◌else◌}
use Rattle.std.specs.Ordering.{ordering_then}
use Rattle.std.specs.declared.cmp.Ordering.{Ordering}
use Rattle.std.specs.declared.cmp.Ordering.TheVariants.{Equal}
use Rattle.row_values.specs.Orders.{cell_order}
use Rattle.plan_operators.specs.Columns.{cell_seen}
use Rattle.plan_operators.specs.declared.keys.ReadyKey.{ReadyKey}

abbrev pub key_rank : ReadyKey → List ℕ → List ℕ → Ordering
key_rank key a b =
    if key.descending
    then cell_order (cell_seen key.column b) (cell_seen key.column a)
    else cell_order (cell_seen key.column a) (cell_seen key.column b)

-- by the first key that tells them apart
abbrev pub keys_rank : List ReadyKey → List ℕ → List ℕ → Ordering
keys_rank [] a b = Equal
keys_rank (key ∷ keys) a b = ordering_then (key_rank key a b) (keys_rank keys a b)
