use Rattle.anchor_cache.specs.Anchors.{held}
use Rattle.session_model.specs.Step.{anchor_shown}
use Rattle.session_engine.proofs.WholeLists.{shown_all}
use Rattle.session_engine.proofs.showing.shown_anchors.Goals as goal

pub returns : goal.returns
returns c =
    shown_all anchor_shown held c.anchors-anchor-items.result.now c.args.cache.now.anchors c.loop-anchor.anchors
    c.loop-anchor.anchor-index c.loop-anchor.invariant c.loop-anchor-test.false c.anchors-anchor-items.ensures.value
