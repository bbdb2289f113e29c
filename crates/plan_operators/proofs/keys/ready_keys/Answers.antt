use Rattle.csv_tables.specs.StatementTables.{rows_in, tables_in}
use Rattle.plan_operators.proofs.KeyRanks.{key_more}
use Rattle.plan_operators.proofs.keys.ready_keys.Goals as goal

pub loop-key-preserved : goal.loop-key-preserved
loop-key-preserved c =
    rw c.in_ok-push.ensures.items
    (key_more (rows_in (tables_in c.args.tables.now)) c.args.keys.now c.loop-key.key-index _ c.loop-key.ready.items
    c.ready_key.result c.loop-key-test.true c.ready_key.ensures c.loop-key.invariant)
