use Rattle.std.proofs.Common.{arith, refl}
use Rattle.instance_cli.proofs.Headlines.{fetched, fetched_long}
use Rattle.instance_cli.proofs.Promises.{lacks_long, lacks_memory, lacks_missing, lacks_read}
use Rattle.instance_cli.proofs.texts.fetch_within.Goals as goal

pub returns-in-Missing-clause-err : goal.returns-in-Missing-clause-err
returns-in-Missing-clause-err g c =
    lacks_missing c.args.limit c.args.name.now _ _ _ _ _ c.in-Missing.ensures.fetches.gives
    (c.in-Missing.ensures.fetches.missing refl)

pub returns-in-Failed-clause-err : goal.returns-in-Failed-clause-err
returns-in-Failed-clause-err g c =
    lacks_read c.args.limit c.args.name.now _ _ _ _ _ (c.in-Failed.ensures.fetches.failed refl)

pub returns-in-Memory-clause-err : goal.returns-in-Memory-clause-err
returns-in-Memory-clause-err g c = lacks_memory c.args.limit c.args.name.now _ _ _ _ _

pub returns-then-len-limit-clause-err : goal.returns-then-len-limit-clause-err
returns-then-len-limit-clause-err g c =
    let counted = c.len.ensures in
    let items = c.fetch.new.into.ok in
    let more = c.if-len-limit.true in
    lacks_long c.args.limit c.args.name.now _ _ _ _ _
    (fetched_long _ c.args.name.now _ c.args.limit c.in-Got.ensures.fetches.gives (omega (arith, counted, items, more)))

pub returns-else-len-limit-clause-ok : goal.returns-else-len-limit-clause-ok
returns-else-len-limit-clause-ok g c =
    let counted = c.len.ensures in
    let items = c.fetch.new.into.ok in
    let within = c.if-len-limit.false in
    fetched _ c.args.name.now _ c.args.limit c.in-Got.ensures.fetches.gives (omega (arith, counted, items, within))
