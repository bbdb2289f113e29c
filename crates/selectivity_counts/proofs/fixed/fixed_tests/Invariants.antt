use Rattle.std.proofs.Common.{ℕ, ◌≡◌, ◌&&◌, [], drop, slice_index_or}
use Rattle.row_tests.specs.Ready.{all_hold}
use Rattle.statement_meaning.specs.Conditions.{row_passes}
use Rattle.statement_statistics.specs.Statistics.{fixed_preds}
use Rattle.selectivity_counts.proofs.fixed.fixed_tests.Given as goal

-- the tests that are ready, and the predicates that are left
abbrev pub invariant-loop-pred : goal.invariant-loop-pred
invariant-loop-pred l =
    (row : ℕ)
    → (all_hold [] l.table l.tests.items row && row_passes [] (fixed_preds (drop l.pred-index l.preds)) l.place
    (slice_index_or l.table.rows row []))
    ≡ row_passes [] (fixed_preds l.preds) l.place (slice_index_or l.table.rows row [])
