use Rattle.std.proofs.Common.{◌≡◌, map, take}
use Rattle.anchor_cache.specs.Anchors.{held}
use Rattle.anchor_cache.specs.declared.anchors.Anchor.{Anchor}
use Rattle.session_model.specs.Step.{anchor_shown}
use Rattle.session_engine.proofs.showing.shown_anchors.Given as goal

-- the anchors so far
abbrev pub invariant-loop-anchor : goal.invariant-loop-anchor
invariant-loop-anchor l = l.anchors ≡ map (λ (a : Anchor). anchor_shown (held a)) (take l.anchor-index l.anchor-items)
