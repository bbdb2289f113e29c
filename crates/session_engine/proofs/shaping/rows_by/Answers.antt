use Rattle.std.proofs.Common.{arith}
use Rattle.csv_tables.specs.StatementTables.{rows_in, tables_in}
use Rattle.session_engine.proofs.Runs.{as_many, shaped_rows}
use Rattle.session_engine.proofs.shaping.rows_by.Goals as goal

pub shaped-requires : goal.shaped-requires
shaped-requires c =
    let count = as_many c.args.source.now.q.now (rows_in (tables_in c.args.source.now.tables.now))
    c.args.source.now.args.now c.in_ok-pull.pull c.in_ok-pull.ensures.each_once in
    let few = c.requires.few in
    omega (arith, count, few)

pub returns : goal.returns
returns c =
    shaped_rows c.args.source.now.q.now (tables_in c.args.source.now.tables.now) c.args.source.now.args.now
    c.in_ok-pull.pull c.shaped.result c.in_ok-pull.ensures.each_once c.shaped.ensures
