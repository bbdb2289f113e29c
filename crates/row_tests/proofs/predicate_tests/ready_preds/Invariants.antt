use Rattle.std.proofs.Common.{ℕ, ◌≡◌, ◌&&◌, [], drop, slice_index_or}
use Rattle.statement_meaning.specs.Conditions.{row_passes}
use Rattle.row_tests.specs.Ready.{all_hold}
use Rattle.row_tests.proofs.predicate_tests.ready_preds.Given as goal

-- the tests that are ready, and the predicates that are left
abbrev pub invariant-loop-pred : goal.invariant-loop-pred
invariant-loop-pred l =
    (row : ℕ)
    → (all_hold l.args l.table l.ready.items row && row_passes l.args (drop l.pred-index l.preds) l.place
    (slice_index_or l.table.rows row []))
    ≡ row_passes l.args l.preds l.place (slice_index_or l.table.rows row [])
