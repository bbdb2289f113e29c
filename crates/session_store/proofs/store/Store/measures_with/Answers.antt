use Rattle.std.proofs.Common.{◌<◌, length, arith}
use Rattle.session_store.specs.Kept.{put_held}
use Rattle.session_store.proofs.MeasureLists.{measure_more, statement_there}
use Rattle.session_store.proofs.store.Store.measures_with.Goals as goal

pub loop-statement-preserved : goal.loop-statement-preserved
loop-statement-preserved c =
    let less : c.loop-statement.statement < length c.args.self.now.catalog.statements =
    omega (arith, c.loop-statement-test.true, c.count-statement-end.ensures) in
    let there = statement_there c.args.self.now.catalog.statements c.loop-statement.statement less in
    measure_more (put_held c.args.self.now.catalog.tables c.args.name.now c.args.new.now)
    c.args.self.now.catalog.weights c.args.self.now.catalog.statements c.loop-statement.statement there.0
    c.loop-statement.measures.items c.push.new.self.items c.in_ok-measure_after.field-0 c.in_ok-push.ensures.items
    there.1 (c.in_ok-measure_after.ensures there.0 there.1) c.loop-statement.invariant
