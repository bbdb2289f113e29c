use Rattle.std.proofs.Common.{ℕ, ◌<◌, ◌∙◌, List, ap, map, slice_index_or, subst, sym}
use Rattle.anchor_cache.specs.Contents.{Contents, state_of}
use Rattle.catalog_model.specs.Catalogs.{number_of}
use Rattle.script_report.specs.declared.replies.Reply.TheVariants as reply
use Rattle.script_report.specs.declared.shown.ShownAnchor.{ShownAnchor}
use Rattle.script_report.specs.declared.shown.ShownPlan.{ShownPlan}
use Rattle.session_model.specs.State.{State}
use Rattle.session_model.specs.Step.{ShowStep, anchor_shown, plan_shown}
use Rattle.session_engine.specs.Numbered.{Numbers}
use Rattle.session_engine.specs.Serving.{open_in}
use Rattle.session_engine.proofs.KeptCaches.{cache_less, number_less, show_kept}
use Rattle.session_engine.proofs.session.Session.show.Goals as goal

pub index-cache-requires : goal.index-cache-requires
index-cache-requires c =
    let is = subst (Numbers c.args.self.now.catalog.statements c.args.name.now) c.in-Ok.is c.in_ok-number.ensures in
    let number = ap (λ (s : State). number_of s.catalog.statements c.args.name.now) c.self.view_is ∙ is in
    subst (λ n. c.in-Ok.number < n) (sym c.self.inside.caches.ok.0)
    (cache_less c.self.inside.store.catalog c.self.inside.caches.items
    (open_in c.self.inside.store c.self.inside.waiting.items) c.self.inside.executions c.self.inside.settings
    c.in-Ok.number c.self.invariant.kept (number_less c.self.inside.store.catalog.statements c.args.name.now
    c.in-Ok.number number))

pub returns : goal.returns
returns c =
    let is = subst (Numbers c.args.self.now.catalog.statements c.args.name.now) c.in-Ok.is c.in_ok-number.ensures in
    let number = ap (λ (s : State). number_of s.catalog.statements c.args.name.now) c.self.view_is ∙ is in
    let plans = c.in_ok-shown_plans.ensures
    ∙ ap (λ (k : Contents). map (plan_shown c.query-q.result.now k.anchors) (state_of k).plans) c.index-cache.ensures in
    let anchors = c.in_ok-shown_anchors.ensures
    ∙ ap (λ (k : Contents). map anchor_shown k.anchors) c.index-cache.ensures in
    let says = ap (λ (n : List ℕ). reply.Shown n c.in_ok-shown_plans.field-0 c.in_ok-shown_anchors.field-0)
    c.in_ok-copy.ensures
    ∙ (ap (λ (ps : List ShownPlan). reply.Shown c.args.name.now ps c.in_ok-shown_anchors.field-0) plans
    ∙ ap (λ (some : List ShownAnchor). reply.Shown c.args.name.now (map (plan_shown c.query-q.result.now
    (slice_index_or c.self.inside.caches.items c.in-Ok.number c.index-cache.result.now).anchors)
    (state_of (slice_index_or c.self.inside.caches.items c.in-Ok.number c.index-cache.result.now)).plans) some) anchors)
    in
    subst (λ (s : State). ShowStep s c.args.name.now
    (reply.Shown c.in_ok-copy.field-0 c.in_ok-shown_plans.field-0 c.in_ok-shown_anchors.field-0) s) c.self.view_is
    (show_kept c.self.inside.store.catalog c.self.inside.caches.items
    (open_in c.self.inside.store c.self.inside.waiting.items) c.self.inside.executions c.self.inside.settings
    c.args.name.now c.in-Ok.number c.index-cache.result.now c.query-q.result.now
    (reply.Shown c.in_ok-copy.field-0 c.in_ok-shown_plans.field-0 c.in_ok-shown_anchors.field-0) c.self.invariant.kept
    number
    c.query-q.ensures.value says)
