use Rattle.std.proofs.Common.{ap, map}
use Rattle.anchor_cache.specs.Contents.{cached}
use Rattle.session_model.specs.Step.{plan_shown}
use Rattle.session_engine.proofs.WholeLists.{shown_all}
use Rattle.session_engine.proofs.showing.shown_plans.Goals as goal

pub returns : goal.returns
returns c =
    shown_all (plan_shown c.args.q.now c.args.cache.now.anchors) cached c.plans-kept-items.result.now
    (map cached c.args.cache.now.plans) c.loop-i.plans c.loop-i.i c.loop-i.invariant c.loop-i-test.false
    (ap (map cached) c.plans-kept-items.ensures.value)
