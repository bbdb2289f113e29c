use Rattle.csv_tables.proofs.SpelledTables.{spelled_table}
use Rattle.csv_tables.proofs.laws.spelled_is_a_table.Goals as goal

pub returns : goal.returns
returns c = spelled_table
