use Rattle.std.proofs.Common.{map}
use Rattle.std.specs.Rc.{rc_value}
use Rattle.selectivity_counts.specs.Kept.{fans_from}
use Rattle.selectivity_counts.proofs.KeptCounts.{fans_next}
use Rattle.selectivity_counts.proofs.lists.fan_counts.Goals as goal

pub loop-place-preserved : goal.loop-place-preserved
loop-place-preserved c =
    fans_next c.args.rows.now c.args.distincts.now c.loop-place.place c.index-distincts-place.result
    c.loop-place.fans.items c.push_fans.new.fans.items (fans_from c.args.rows.now 0 (map rc_value c.args.distincts.now))
    c.loop-place-test.true c.index-distincts-place.is
    (rw (← c.deref.ensures, ← c.as_slice.ensures) c.in_ok-push_fans.ensures) c.loop-place.invariant
