-- What an edge that is ready asks of a combination.
use Rattle.std.specs.Prelude.{ℕ, List, [], ◌∷◌, Bool, true, ◌&&◌}
use Rattle.std.specs.Ordering.{is_eq}
use Rattle.row_values.specs.Orders.{compares}
use Rattle.plan_operators.specs.Columns.{cell_seen}
use Rattle.plan_operators.specs.declared.edges.ReadyEdge.{ReadyEdge}

-- whether a combination's cells in the two columns are equal
abbrev pub is_met : ReadyEdge → List ℕ → Bool
is_met edge c = compares is_eq (cell_seen edge.left c) (cell_seen edge.right c)

-- whether it meets all of these edges
abbrev pub all_meet : List ReadyEdge → List ℕ → Bool
all_meet [] c = true
all_meet (edge ∷ edges) c = is_met edge c && all_meet edges c
