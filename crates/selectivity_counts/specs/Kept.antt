-- What is kept of tables between statements: the distinct counts of their columns.
use Rattle.std.specs.Prelude.{◌≡◌, ℕ, ◌+◌, List, [], ◌∷◌, ◌++◌, map, max, slice_index, slice_index_or}
use Rattle.std.specs.Int.{div_ceil}
use Rattle.row_values.specs.declared.statement.ColRef.{ColRef}
use Rattle.row_values.specs.declared.statement.Edge.{Edge}
use Rattle.csv_tables.specs.Tables.{TableValue}
use Rattle.statement_statistics.specs.Statistics.{distinct_count, numbered}

-- the distinct counts of a table's columns
abbrev pub distinct_counts : TableValue → List ℕ
distinct_counts table = numbered (λ column _. distinct_count table.rows column) 0 table.schema

-- these are those of the tables, one list for each
abbrev pub AreDistinctsOf : List TableValue → List (List ℕ) → Type 0
AreDistinctsOf tables distincts = distincts ≡ map distinct_counts tables

-- the distinct count of a column of a place; 0 where there is no such column
abbrev pub distinct_at : List (List ℕ) → ColRef → ℕ
distinct_at distincts at = slice_index (slice_index_or distincts at.place []) at.column

-- the larger of the distinct counts of an edge's two columns, at least 1
abbrev pub kept_edge : List (List ℕ) → Edge → ℕ
kept_edge distincts edge = max 1 (max (distinct_at distincts edge.left) (distinct_at distincts edge.right))

-- the rows for each distinct value of each column, place by place from this place on, rounded up
abbrev pub fans_from : List ℕ → ℕ → List (List ℕ) → List ℕ
fans_from rows place [] = []
fans_from rows place (counts ∷ distincts) =
    map (λ count. div_ceil (slice_index rows place) (max 1 count)) counts ++ fans_from rows (place + 1) distincts
