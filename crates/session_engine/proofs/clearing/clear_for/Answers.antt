use Rattle.std.proofs.Common.{suc, ◌≡◌, ◌<◌, ◌+◌, set, subst, arith, length}
use Rattle.session_engine.proofs.ClearedCaches.{AreClearedTo, all_cleared, cleared_long, one_more_cleared}
use Rattle.session_engine.proofs.clearing.clear_for.Goals as goal

pub loop-number-preserved : goal.loop-number-preserved
loop-number-preserved c =
    let long = cleared_long c.loop-number.number c.args.table.now c.args.store.now.catalog.statements c.args.caches.now
    c.loop-number.caches c.loop-number.invariant in
    let test = c.loop-number-test.true in
    let less : c.loop-number.number < length c.loop-number.caches = omega (arith, long, test) in
    let next : suc c.loop-number.number ≡ c.loop-number.number + 1 = omega arith in
    subst (λ n. AreClearedTo n c.args.table.now c.args.store.now.catalog.statements c.args.caches.now
    (set c.loop-number.caches c.loop-number.number c.clear_if_read.new.cache)) next
    (one_more_cleared c.loop-number.number c.args.table.now c.args.store.now.catalog.statements c.args.caches.now
    c.loop-number.caches c.clear_if_read.new.cache c.index-caches-number.result c.requires.one_each less
    c.loop-number.invariant
    (λ prepared there. c.clear_if_read.ensures prepared there))

pub returns : goal.returns
returns c =
    let long = cleared_long c.loop-number.number c.args.table.now c.args.store.now.catalog.statements c.args.caches.now
    c.loop-number.caches c.loop-number.invariant in
    let end = c.loop-number-test.false in
    all_cleared c.loop-number.number c.args.table.now c.args.store.now.catalog.statements c.args.caches.now
    c.loop-number.caches
    c.requires.one_each (omega (arith, long, end)) c.loop-number.invariant
