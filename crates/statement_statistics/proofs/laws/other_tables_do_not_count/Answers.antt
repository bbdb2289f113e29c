use Rattle.statement_statistics.proofs.SameRows.{same_stats}
use Rattle.statement_statistics.proofs.laws.other_tables_do_not_count.Goals as goal

pub returns-clause-stats : goal.returns-clause-stats
returns-clause-stats c = same_stats
