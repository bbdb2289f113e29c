use Rattle.std.proofs.Common.{rules, ℕ, ◌≡◌, List, Some, slice_get, slice_index, subst}
use Rattle.row_values.specs.declared.statement.Pred.{Pred}
use Rattle.plan_trees.specs.Statistics.{IsWithin}
use Rattle.worked_statements.proofs.soundness.are_sound.Goals as goal

pub returns : goal.returns
returns c = λ small.
    let Matches : List Pred → Type 0 =
    λ preds. (j : ℕ) (pred : Pred) → slice_get preds j ≡ Some pred
    → IsWithin (slice_index c.args.rows.now pred.at.place) (slice_index c.args.matching.now j) in record {
      weights_fit = search rules;
      row_counts = search rules;
      fixed_counts = search rules;
      matching_counts = search rules;
      distinct_counts = search rules;
      rows_fit = search rules;
      fixed_fit = search rules;
      matching_fit = subst Matches c.preds-2.ensures.value (c.match_within.ensures (search rules));
      distinct_fit = search rules;
      fans_fit = search rules;
      not_wide = search rules;
    }
