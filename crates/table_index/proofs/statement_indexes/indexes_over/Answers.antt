use Rattle.std.proofs.Common.{◌≡◌, arith, subst, sym}
use Rattle.std.proofs.lemmas.Grind.{common_steps}
use Rattle.csv_tables.specs.StatementTables.{tables_in}
use Rattle.table_index.specs.StatementIndexes.{AreIndexesOf, indexes_in, wanted_entries}
use Rattle.table_index.proofs.Wanted.{wanted_are_indexes}
use Rattle.table_index.proofs.statement_indexes.indexes_over.Goals as goal

pub returns-clause-built : goal.returns-clause-built
returns-clause-built c = λ q of.
    let e : indexes_in c.loop-place.entries.items ≡ wanted_entries c.args.wanted.now 0 (tables_in c.args.tables.now) =
    grind (arith, common_steps) in
    subst (AreIndexesOf q (tables_in c.args.tables.now)) (sym e)
    (wanted_are_indexes c.args.wanted.now (tables_in c.args.tables.now) q of)
