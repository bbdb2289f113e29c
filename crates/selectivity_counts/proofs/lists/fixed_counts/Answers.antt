use Rattle.std.proofs.Common.{ℕ, List, ◌∙◌}
use Rattle.row_values.specs.declared.values.Value.{Value}
use Rattle.statement_statistics.specs.Statistics.{fixed_count}
use Rattle.selectivity_counts.proofs.ByPlace.{shared_done}
use Rattle.selectivity_counts.proofs.lists.fixed_counts.Goals as goal

pub returns : goal.returns
returns c =
    c.loop-place.invariant
    ∙ shared_done (λ (number : ℕ) (rows : List (List Value)). fixed_count c.args.q.now.preds number rows)
    c.args.tables.now c.args.q.now.places c.loop-place.place c.loop-place-test.false c.requires
