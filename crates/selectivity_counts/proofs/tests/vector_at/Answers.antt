use Rattle.csv_tables.specs.StatementTables.{tables_in}
use Rattle.selectivity_counts.proofs.Placed.{none_built}
use Rattle.selectivity_counts.proofs.tests.vector_at.Goals as goal

pub vector-requires-clause-built : goal.vector-requires-clause-built
vector-requires-clause-built c = none_built c.in-Some.q (tables_in c.args.tables.now)
