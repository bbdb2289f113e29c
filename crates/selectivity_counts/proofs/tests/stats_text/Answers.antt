use Rattle.csv_tables.specs.StatementTables.{tables_in}
use Rattle.selectivity_counts.proofs.Placed.{none_built}
use Rattle.selectivity_counts.proofs.tests.stats_text.Goals as goal

pub stats-requires-clause-built : goal.stats-requires-clause-built
stats-requires-clause-built c = none_built c.in-Some.q (tables_in c.args.tables.now)
