-- The anchor has one use more, and so has its plan.
use Rattle.std.proofs.Common.{◌≡◌, ◌<◌, ◌+◌, ◌^◌, IfSome, length, map, rules, slice_get, slice_index_or, slice_set, Some, subst, sym, ◌∙◌, ap, arith, refl}
use Rattle.std.proofs.lemmas.List.{length-map}
use Rattle.cache_model.specs.Caches as model
use Rattle.anchor_cache.specs.declared.anchors.Anchor.{Anchor}
use Rattle.anchor_cache.specs.Anchors.{held}
use Rattle.anchor_cache.specs.Contents.{IsInStep, state_of}
use Rattle.anchor_cache.proofs.Steps.{step_used, sums_fit}
use Rattle.anchor_cache.proofs.Views.{contents_by, held_at, held_used, used}
use Rattle.anchor_cache.proofs.cache.Cache.used.Goals as goal

pub add_uses-requires : goal.add_uses-requires
add_uses-requires c =
    sums_fit c.self.inside.plans.items
    (map held c.self.inside.anchors.items) c.self.inside.next_plan c.self.inside.sums.items
    c.self.inside.ordered.items 1 (omega arith) c.self.invariant

-- the anchors as the model has them
anchors_after : (anchors : _) (place : _) (anchor : Anchor) → anchor ≡ slice_index_or anchors place anchor
    → map held (slice_set anchors place (used anchor)) ≡ model.used_at (map held anchors) place
anchors_after anchors place anchor at = ap (λ (a : Anchor). map held (slice_set anchors place (used a))) at
    ∙ held_used anchors place anchor

pub invariant_of-self : goal.invariant_of-self
invariant_of-self c =
    let anchors = c.self.inside.anchors.items in
    let anchor = c.index_mut-anchor.result.now in
    let at : anchor ≡ slice_index_or anchors c.args.place anchor = search rules in
    let asked : c.args.place < length (map held anchors) = rw (← c.self.view_is) at c.requires.there in
    let inside : c.args.place < length anchors = subst (λ n. c.args.place < n) (length-map anchors held) asked in
    let there : slice_get (map held anchors) c.args.place ≡ Some (held anchor) =
    held_at anchors c.args.place anchor inside ∙ ap (λ (a : Anchor). Some (held a)) (sym at) in
    let fits : IfSome (slice_get (map held anchors) c.args.place) (λ a. a.uses + 1 < 2 ^ 64) =
    rw (← c.self.view_is) at c.requires.fits in
    let one_more : anchor.uses + 1 < 2 ^ 64 = subst (λ o. IfSome o (λ a. a.uses + 1 < 2 ^ 64)) there fits in
    subst (λ xs. IsInStep c.self.inside.plans.items xs c.self.inside.next_plan c.add_uses.new.sums.items
    c.self.inside.ordered.items) (sym (anchors_after anchors c.args.place anchor at))
    (rw c.add_uses.ensures.items
    (step_used c.self.inside.plans.items
    (map held anchors) c.self.inside.next_plan c.self.inside.sums.items c.self.inside.ordered.items c.args.place
    (held anchor) there one_more c.self.invariant))

pub returns-clause-value : goal.returns-clause-value
returns-clause-value c =
    let anchors = c.self.inside.anchors.items in
    let anchor = c.index_mut-anchor.result.now in
    let at : anchor ≡ slice_index_or anchors c.args.place anchor = search rules in
    rw (← c.self.view_is)
    (contents_by c.self.inside.plans.items _ _ c.self.inside.next_plan _ _ _ _
    (anchors_after anchors c.args.place anchor at) (rw
    (c.add_uses.ensures.capacity, c.add_uses.ensures.len) refl) refl)

pub returns-clause-state : goal.returns-clause-state
returns-clause-state c = ap state_of (returns-clause-value c)
