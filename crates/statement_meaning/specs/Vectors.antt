-- The selectivity vector: for each parameterised predicate, how many rows meet it.
use Rattle.std.specs.Prelude.{ℕ, max, List, [], ◌∷◌, length, if◌then◌else◌}
use Rattle.std.specs.List.{filter}
use Rattle.row_values.specs.Statements.{Statement, is_parameterised}
use Rattle.row_values.specs.declared.values.Value.{Value}
use Rattle.row_values.specs.declared.statement.Pred.{Pred}
use Rattle.statement_meaning.specs.Conditions.{holds}
use Rattle.statement_meaning.specs.Combinations.{rows_at}

-- how many of these rows meet the predicate
abbrev pub matching : List Value → Pred → List (List Value) → ℕ
matching args pred rows = length (filter (holds args pred) rows)

-- in text order, for each parameterised predicate the number of rows that meet it, and at least 1
abbrev pub selectivities : List (List (List Value)) → List Value → List Pred → List ℕ
selectivities tables args [] = []
selectivities tables args (pred ∷ preds) =
    if is_parameterised pred
    then max 1 (matching args pred (rows_at tables pred.at.place)) ∷ selectivities tables args preds
    else selectivities tables args preds

abbrev pub vector_of : Statement → List (List (List Value)) → List Value → List ℕ
vector_of q tables args = selectivities tables args q.preds
