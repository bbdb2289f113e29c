use Rattle.std.proofs.Common.{ap, arith, length, ◌<◌}
use Rattle.selectivity_counts.proofs.MadeForTests.{fan_there}
use Rattle.selectivity_counts.proofs.tests.text_of.Goals as goal

pub fan-requires-clause-column : goal.fan-requires-clause-column
fan-requires-clause-column c =
    let inside : c.loop-column.column < length c.this-item.result.schema =
    omega (arith, c.loop-column-test.true, ap length c.columns-column-end.ensures.value) in
    fan_there c.args.q.now.places c.places-this-items.result.now c.args.stats.now.fans c.loop-place-3.place
    c.loop-column.column c.this-item.result c.places-this-items.ensures.value c.loop-place-3-test.true c.this-item.is
    c.requires.fan_counts inside
