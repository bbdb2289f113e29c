use Rattle.row_values.specs.Statements.{statement_with}
use Rattle.csv_tables.specs.StatementTables.{tables_in}
use Rattle.selectivity_counts.proofs.MadeForTests.{over_tables}
use Rattle.selectivity_counts.proofs.tests.statement_over.Goals as goal

pub returns : goal.returns
returns c =
    over_tables c.make.result
    (statement_with c.in_ok-places.places.items c.args.preds.items c.args.edges.items c.in_ok-items.items.items
    c.new.result.items c.new-2.result.items)
    (tables_in c.args.tables.now) c.make.ensures.value c.in_ok-places.ensures
