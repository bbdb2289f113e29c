use Rattle.std.proofs.Common.{length}
use Rattle.worked_tables.proofs.fitting.+have_columns.Given as goal

abbrev pub decreases-have_columns : goal.decreases-have_columns
decreases-have_columns l = length l.tables.now
