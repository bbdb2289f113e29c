-- The selectivity vector has a number of at least 1 for each parameterised predicate.
use Rattle.std.proofs.Common.{◌≡◌, ◌≤◌, ◌+◌, max, Bool, true, false, List, [], ◌∷◌, length, cond, arith, refl}
use Rattle.std.specs.Prelude.{All}
use Rattle.std.proofs.lemmas.List.Elements.{All-nil, All-cons}
use Rattle.row_values.specs.Statements.{is_parameterised, selectivity_count}
use Rattle.row_values.specs.declared.values.Value.{Value}
use Rattle.row_values.specs.declared.statement.Pred.{Pred}
use Rattle.statement_meaning.specs.Combinations.{rows_at}
use Rattle.statement_meaning.specs.Vectors.{matching, selectivities}

pub length-selectivities : (tables : List (List (List Value))) (args : List Value) (preds : List Pred)
    → length (selectivities tables args preds) ≡ selectivity_count preds
length-selectivities tables args [] = refl
length-selectivities tables args (pred ∷ preds) =
    by_kind (is_parameterised pred) (length-selectivities tables args preds)
  where
    by_kind : (b : Bool) → length (selectivities tables args preds) ≡ selectivity_count preds
        → length (cond b (max 1 (matching args pred (rows_at tables pred.at.place)) ∷ selectivities tables args preds)
        (selectivities tables args preds)) ≡ cond b 1 0 + selectivity_count preds
    by_kind true more = omega (arith, more)
    by_kind false more = omega (arith, more)

pub positive_selectivities : (tables : List (List (List Value))) (args : List Value) (preds : List Pred)
    → All (λ s. 1 ≤ s) (selectivities tables args preds)
positive_selectivities tables args [] = All-nil (λ s. 1 ≤ s)
positive_selectivities tables args (pred ∷ preds) =
    by_kind (is_parameterised pred) (positive_selectivities tables args preds)
  where
    by_kind : (b : Bool) → All (λ s. 1 ≤ s) (selectivities tables args preds)
        → All (λ s. 1 ≤ s) (cond b (max 1 (matching args pred (rows_at tables pred.at.place))
        ∷ selectivities tables args preds) (selectivities tables args preds))
    by_kind true more = All-cons (λ s. 1 ≤ s) _ _ (omega arith) more
    by_kind false more = more
