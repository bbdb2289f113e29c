use Rattle.std.proofs.Common.{◌≡◌, map, take}
use Rattle.anchor_cache.specs.Contents.{cached}
use Rattle.anchor_cache.specs.declared.kept_plans.Kept.{Kept}
use Rattle.session_model.specs.Step.{plan_shown}
use Rattle.session_engine.proofs.showing.shown_plans.Given as goal

-- the plans so far
abbrev pub invariant-loop-i : goal.invariant-loop-i
invariant-loop-i l = l.plans ≡ map (λ (k : Kept). plan_shown l.q l.cache.anchors (cached k)) (take l.i l.kept-items)
