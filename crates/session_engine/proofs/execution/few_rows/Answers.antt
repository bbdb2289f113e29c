use Rattle.std.proofs.Common.{ℕ, ◌≤◌, ◌^◌, List, subst}
use Rattle.csv_tables.specs.StatementTables.{rows_in, tables_in}
use Rattle.plan_trees.specs.Statistics.{weighted_size}
use Rattle.session_engine.proofs.FewCombinations.{few}
use Rattle.session_engine.proofs.execution.few_rows.Goals as goal

pub rows_by-requires-clause-few : goal.rows_by-requires-clause-few
rows_by-requires-clause-few c =
    few c.args.source.now.q.now (rows_in (tables_in c.args.source.now.tables.now)) c.args.source.now.args.now (2 ^ 63)
    (subst (λ (counts : List ℕ). weighted_size c.args.source.now.q.now.preds 0 counts ≤ 2 ^ 63)
    c.requires.ready.rows c.requires.ready.stats.not_wide)
