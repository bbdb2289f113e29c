-- The anchor stands last, and its plan has its uses.
use Rattle.std.proofs.Common.{◌<◌, ◌∷◌, [], All, IsTrue, length, map, ◌∙◌, ap, arith, refl}
use Rattle.std.proofs.lemmas.List.{map-append}
use Rattle.cache_model.specs.declared.limits.TheConstants.{ANCHOR_LIMIT}
use Rattle.anchor_cache.specs.Anchors.{held}
use Rattle.anchor_cache.specs.Contents.{IsKeptAnchor, has_plan}
use Rattle.anchor_cache.proofs.Steps.{step_with_anchor, sums_fit}
use Rattle.anchor_cache.proofs.Views.{contents_by}
use Rattle.anchor_cache.proofs.cache.Cache.add_anchor.Goals as goal

pub add_uses-requires : goal.add_uses-requires
add_uses-requires c =
    sums_fit c.self.inside.plans.items
    (map held c.self.inside.anchors.items) c.self.inside.next_plan c.self.inside.sums.items
    c.self.inside.ordered.items c.args.a.uses (omega arith) c.self.invariant

pub invariant_of-self : goal.invariant_of-self
invariant_of-self c =
    let anchors = map held c.self.inside.anchors.items in
    let new = held c.args.a in
    let few : length anchors < ANCHOR_LIMIT = rw (← c.self.view_is) at c.requires.few in
    let later : All (λ anchor. anchor.execution < new.execution) anchors = rw (← c.self.view_is) at c.requires.later in
    let planned : IsTrue (has_plan c.self.inside.plans.items new.plan) = rw (← c.self.view_is) at c.requires.planned in
    let sound : IsKeptAnchor c.self.inside.plans.items new =
    record {
      planned = planned;
      numbers = c.requires.numbers;
      least = c.requires.least;
      plan_cost =
          c.requires.plan_cost;
      uses = omega arith;
    } in
    rw (
      c.push_reserved.ensures.items,
      c.add_uses.ensures.items,
      map-append held c.self.inside.anchors.items
          (c.args.a ∷ []),
    )
    (step_with_anchor c.self.inside.plans.items anchors c.self.inside.next_plan c.self.inside.sums.items
    c.self.inside.ordered.items c.insert.new.ordered.items new c.self.invariant few later sound
    (c.insert.ensures.ordered anchors c.self.invariant.ordered))

pub returns-clause-value : goal.returns-clause-value
returns-clause-value c =
    let room = rw (← c.self.view_is) at c.requires.room in
    let length_after = c.push_reserved.ensures.len in
    let capacity_after = c.push_reserved.ensures.capacity in
    let entries = c.insert.ensures.len in
    let entries_room = c.insert.ensures.capacity in
    rw (← c.self.view_is)
    (contents_by c.self.inside.plans.items _ _ c.self.inside.next_plan _ _ _ _
    (ap (map held) c.push_reserved.ensures.items ∙ map-append held c.self.inside.anchors.items (c.args.a ∷ []))
    (rw (c.add_uses.ensures.capacity, c.add_uses.ensures.len) refl) (omega arith))
