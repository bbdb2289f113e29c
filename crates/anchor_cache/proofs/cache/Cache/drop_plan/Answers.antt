use Rattle.std.proofs.Common.{◌≡◌, ◌==◌, length, map, not, rules, subst, ◌∙◌, ap, arith, refl}
use Rattle.std.specs.List.{filter}
use Rattle.std.proofs.lemmas.Fn.{filter_same}
use Rattle.std.proofs.lemmas.List.{length-map}
use Rattle.std.proofs.lemmas.List.Filters.{length-filter_both}
use Rattle.cache_model.specs.Caches.{is_of}
use Rattle.anchor_cache.specs.declared.anchors.Anchor.{Anchor}
use Rattle.anchor_cache.specs.declared.kept_plans.PlanUses.{PlanUses}
use Rattle.anchor_cache.specs.declared.kept_plans.Kept.{Kept}
use Rattle.anchor_cache.specs.Anchors.{held}
use Rattle.anchor_cache.specs.Contents.{cached, has_number}
use Rattle.anchor_cache.specs.Window.{IsOrdered}
use Rattle.anchor_cache.proofs.Ordering.{as_many}
use Rattle.anchor_cache.proofs.Steps.{step_without}
use Rattle.anchor_cache.proofs.Views.{map_filter, state_by}
use Rattle.anchor_cache.proofs.cache.Cache.drop_plan.Goals as goal
use Rattle.anchor_cache.proofs.cache.Cache.drop_plan.Goals.{After-len}

plans_left : (c : After-len) → c.retain.new.self.items ≡ filter
    (λ (kept : Kept). not (has_number c.args.plan kept)) c.self.inside.plans.items
plans_left c = filter_same _ (λ (kept : Kept). not (has_number c.args.plan kept)) _
    (λ x b f h. search rules) _ _ c.retain.ensures.filtered

sums_left : (c : After-len) → c.retain-2.new.self.items ≡ filter
    (λ (sum : PlanUses). not (sum.plan == c.args.plan)) c.self.inside.sums.items
sums_left c = filter_same _ (λ (sum : PlanUses). not (sum.plan == c.args.plan)) _
    (λ x b f h. search rules) _ _ c.retain-2.ensures.filtered

anchors_left : (c : After-len) → map held c.retain-3.new.self.items
    ≡ filter (λ anchor. not (is_of c.args.plan anchor)) (map held c.self.inside.anchors.items)
anchors_left c =
    ap (map held) (filter_same _ (λ (anchor : Anchor). not (is_of c.args.plan (held anchor))) _
    (λ x b f h. search rules) _ _ c.retain-3.ensures.filtered)
    ∙ map_filter held (λ anchor. not (is_of c.args.plan anchor)) c.self.inside.anchors.items

pub put_in_order-requires : goal.put_in_order-requires
put_in_order-requires c =
    let many = as_many (map held c.self.inside.anchors.items) c.self.inside.ordered.items c.self.invariant.ordered in
    let long = length-map c.self.inside.anchors.items held in
    let fits = c.self.inside.ordered.ok.1 in
    let count = c.self.inside.ordered.ok.0 in
    let anchors = c.self.inside.anchors.ok.0 in
    record { room = omega arith }

pub invariant_of-self : goal.invariant_of-self
invariant_of-self c =
    let ordered : IsOrdered (filter (λ anchor. not (is_of c.args.plan anchor))
    (map held c.self.inside.anchors.items)) c.put_in_order.new.ordered.items =
    subst (λ xs. IsOrdered xs c.put_in_order.new.ordered.items)
    (ap (map held) c.as_slice.ensures.value ∙ anchors_left c) c.put_in_order.ensures.ordered in
    rw (plans_left c, sums_left c, anchors_left c)
    (step_without c.self.inside.plans.items
    (map held c.self.inside.anchors.items) c.self.inside.next_plan c.args.plan c.self.inside.sums.items
    c.self.inside.ordered.items c.put_in_order.new.ordered.items c.self.invariant ordered)

pub returns-clause-plans : goal.returns-clause-plans
returns-clause-plans c = rw (← c.self.view_is) (plans_left c)

pub returns-clause-count : goal.returns-clause-count
returns-clause-count c =
    let both = length-filter_both (is_of c.args.plan) (λ anchor. not (is_of c.args.plan anchor)) (λ anchor. refl)
    (map held c.self.inside.anchors.items) in
    let left = ap length (anchors_left c) in
    let before = length-map c.self.inside.anchors.items held in
    let after = length-map c.retain-3.new.self.items held in
    let held_before = c.self.inside.anchors.ok.0 in
    let held_after = c.retain-3.new.self.ok.0 in
    rw (← c.self.view_is) (omega arith)

pub returns-clause-state : goal.returns-clause-state
returns-clause-state c =
    rw (← c.self.view_is)
    (state_by _ _ _ _ c.self.inside.next_plan (ap (map cached) (plans_left c)
    ∙ map_filter cached (λ plan. not (plan.number == c.args.plan)) c.self.inside.plans.items) (anchors_left c))

pub returns-clause-spare_anchors : goal.returns-clause-spare_anchors
returns-clause-spare_anchors c =
    let fewer = c.retain-3.ensures.bound in
    let same = c.retain-3.ensures.capacity in
    let room = c.put_in_order.ensures.capacity in
    let many = as_many (map held c.self.inside.anchors.items) c.self.inside.ordered.items c.self.invariant.ordered in
    let after =
    as_many (map held c.as_slice.result.now) c.put_in_order.new.ordered.items c.put_in_order.ensures.ordered in
    let long = length-map c.self.inside.anchors.items held in
    let left = length-map c.as_slice.result.now held in
    let shown = c.as_slice.ensures.len in
    let entries = c.self.inside.ordered.ok.0 in
    let entries_after = c.put_in_order.new.ordered.ok.0 in
    let anchors = c.self.inside.anchors.ok.0 in
    rw (← c.self.view_is) (omega arith)
