-- Anchors stay but those of the plan that goes, and so do plans; the new plan stands behind them.
use Rattle.std.proofs.Common.{ℕ, ◌≡◌, ◌<◌, ◌++◌, ◌∷◌, [], List, All, length, ap, subst, sym, ◌∙◌}
use Rattle.cache_model.specs.Caches.{Anchor, CacheState}
use Rattle.cache_model.specs.Keeping.{with_room}
use Rattle.cache_model.specs.declared.limits.TheConstants.{ANCHOR_LIMIT}
use Rattle.anchor_cache.specs.declared.kept_plans.Kept.{Kept}
use Rattle.anchor_cache.specs.Contents.{Contents, state_of}
use Rattle.session_engine.specs.Keeping.{WasOrIsNew}
use Rattle.session_engine.proofs.Staying.{each_with_room, few_with_room, was_or_is_new}
use Rattle.session_engine.proofs.keeping.keep_with_new.Goals as goal

anchors_left : (before with_plan made : Contents) (budget : ℕ) → with_plan.anchors ≡ made.anchors
    → state_of made ≡ with_room (state_of before) budget
    → with_plan.anchors ≡ (with_room (state_of before) budget).anchors
anchors_left before with_plan made budget same e = same ∙ ap (λ (cache : CacheState). cache.anchors) e

pub add_anchor-requires-clause-few : goal.add_anchor-requires-clause-few
add_anchor-requires-clause-few c =
    let left = anchors_left c.args.cache.now c.add_plan.new.self c.make_room-evicted.new.cache c.args.budget
    (ap (λ (cache : Contents). cache.anchors) c.add_plan.ensures.value) c.make_room-evicted.ensures.state in
    subst (λ (anchors : List Anchor). length anchors < ANCHOR_LIMIT) (sym left)
    (few_with_room (state_of c.args.cache.now) c.args.budget ANCHOR_LIMIT c.requires.few)

pub add_anchor-requires-clause-later : goal.add_anchor-requires-clause-later
add_anchor-requires-clause-later c =
    let left = anchors_left c.args.cache.now c.add_plan.new.self c.make_room-evicted.new.cache c.args.budget
    (ap (λ (cache : Contents). cache.anchors) c.add_plan.ensures.value) c.make_room-evicted.ensures.state in
    let execution = ap (λ (anchor : Anchor). anchor.execution) c.anchor_with-anchor.ensures in
    subst (All (λ anchor. anchor.execution < c.anchor_with-anchor.result.execution)) (sym left)
    (each_with_room (λ anchor. anchor.execution < c.anchor_with-anchor.result.execution) (state_of c.args.cache.now)
    c.args.budget
    (subst (λ n. All (λ (anchor : Anchor). anchor.execution < n) c.args.cache.now.anchors) (sym execution)
    c.requires.later))

pub returns-clause-plans : goal.returns-clause-plans
returns-clause-plans c =
    subst (All (WasOrIsNew c.args.cache.now.plans c.args.optimum.costed))
    (sym
    (ap (λ (cache : Contents). cache.plans) c.add_anchor.ensures.value
    ∙ ap (λ (cache : Contents). cache.plans) c.add_plan.ensures.value
    ∙ ap (λ (plans : List Kept). plans ++ record {
      number = c.make_room-evicted.new.cache.next_plan;
      costed = c.args.optimum.costed;
    } ∷ []) c.make_room-evicted.ensures.plans))
    (was_or_is_new c.args.cache.now c.args.budget _)
