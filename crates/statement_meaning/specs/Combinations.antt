-- Combinations of one row number per place, and those that a statement keeps.
use Rattle.std.specs.Prelude.{ℕ, zero, suc, List, [], ◌∷◌, ◌++◌, map, length, slice_index_or, Bool, true, ◌&&◌}
use Rattle.std.specs.List.{filter, flat_map}
use Rattle.row_values.specs.declared.values.Value.{Value}
use Rattle.row_values.specs.declared.statement.Edge.{Edge}
use Rattle.row_values.specs.RowNumbers.{row_numbers}
use Rattle.row_values.specs.Statements.{Statement}
use Rattle.statement_meaning.specs.Conditions.{joins, row_passes}

-- all combinations where the places have so many rows, in lexicographic order
abbrev pub combinations : List ℕ → List (List ℕ)
combinations [] = [] ∷ []
combinations (count ∷ counts) = flat_map (λ row. map (λ rest. row ∷ rest) (combinations counts)) (row_numbers count)

-- What a statement and its arguments ask of its tables, as plain facts: how many rows each place has, which of them
-- meet the predicates on it, and which two rows meet an edge. Operators are proved against these.
pub record World : Type 0 where
  pub places : ℕ
  pub size : ℕ → ℕ
  pub passes : ℕ → ℕ → Bool
  pub edges : List Edge
  pub agree : Edge → ℕ → ℕ → Bool

-- how many rows each of so many places has, from this place on
abbrev pub sizes_from : World → ℕ → ℕ → List ℕ
sizes_from world place zero = []
sizes_from world place (suc count) = world.size place ∷ sizes_from world (suc place) count

-- whether each row, from this place on, meets the predicates on its place
abbrev pub rows_pass : World → ℕ → List ℕ → Bool
rows_pass world place [] = true
rows_pass world place (row ∷ rows) = world.passes place row && rows_pass world (suc place) rows

-- whether a combination meets an edge
abbrev pub edge_holds : World → Edge → List ℕ → Bool
edge_holds world edge c = world.agree edge (slice_index_or c edge.left.place 0) (slice_index_or c edge.right.place 0)

-- whether a combination meets each of these edges
abbrev pub edges_hold : World → List Edge → List ℕ → Bool
edges_hold world [] c = true
edges_hold world (edge ∷ edges) c = edge_holds world edge c && edges_hold world edges c

-- whether a combination meets every predicate and edge
abbrev pub keeps : World → List ℕ → Bool
keeps world c = rows_pass world 0 c && edges_hold world world.edges c

-- the combinations that meet every predicate and edge, in lexicographic order
abbrev pub kept : World → List (List ℕ)
kept world = filter (keeps world) (combinations (sizes_from world 0 world.places))

-- the rows of a place
abbrev pub rows_at : List (List (List Value)) → ℕ → List (List Value)
rows_at tables place = slice_index_or tables place []

-- a row of a place
abbrev pub row_at : List (List (List Value)) → ℕ → ℕ → List Value
row_at tables place row = slice_index_or (rows_at tables place) row []

-- a statement with arguments over the tables of its places
abbrev pub world_of : Statement → List (List (List Value)) → List Value → World
world_of q tables args = record {
  places = length q.places;
  size = λ place. length (rows_at tables place);
  passes = λ place row. row_passes args q.preds place (row_at tables place row);
  edges = q.edges;
  agree = λ edge left right. joins edge (row_at tables edge.left.place left) (row_at tables edge.right.place right);
}

-- the combinations of row numbers that meet every predicate and edge, each once, in lexicographic order
abbrev pub kept_combinations : Statement → List (List (List Value)) → List Value → List (List ℕ)
kept_combinations q tables args = kept (world_of q tables args)
