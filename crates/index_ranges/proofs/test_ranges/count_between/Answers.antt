use Rattle.std.proofs.Common.{ap, length}
use Rattle.csv_tables.specs.Tables.{cell_at}
use Rattle.statement_meaning.specs.Conditions.{meets}
use Rattle.index_ranges.proofs.Misfits.{none_pass}
use Rattle.index_ranges.proofs.test_ranges.count_between.Goals as goal

pub returns-in-None : goal.returns-in-None
returns-in-None c =
    ap length
    (none_pass (λ row. meets c.args.args.now c.args.test.now (cell_at c.args.t.now row c.args.index.now.column))
    (λ row. c.in-None.ensures.none c.requires.no_in (cell_at c.args.t.now row c.args.index.now.column))
    c.args.index.now.rows)
