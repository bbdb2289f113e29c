-- The anchor at the place is the model's, and its plan's cost is looked up by number.
use Rattle.std.proofs.Common.{◌≤◌, ◌^◌, false, ap, sym, ◌∙◌}
use Rattle.std.specs.List.{find}
use Rattle.std.specs.Option.{option_map, option_map_or}
use Rattle.cache_model.specs.Choices.{greater_product, is_cheap_enough}
use Rattle.anchor_cache.specs.Anchors.{held}
use Rattle.anchor_cache.specs.Contents.{IsKeptAnchor, has_number}
use Rattle.anchor_cache.specs.Instances.{cost_at}
use Rattle.anchor_cache.proofs.Views.{has_there, there_at}
use Rattle.cost_check.specs.Answers.{passes_by_cost}
use Rattle.cost_check.proofs.Costing.{cost_some, enough_there, none_enough}
use Rattle.cost_check.proofs.check.passes.Goals as goal

pub is_enough-requires : goal.is_enough-requires
is_enough-requires c =
    let anchor = c.index-anchors-place.result in
    let there = there_at c.anchors.result.now c.args.cache.now.anchors c.args.place anchor c.anchors.ensures.value
    c.index-anchors-place.is c.requires.there in
    let kept : IsKeptAnchor c.args.cache.now.plans (held anchor) =
    has_there (IsKeptAnchor c.args.cache.now.plans) c.args.cache.now.anchors c.args.place (held anchor)
    c.anchors.ensures.sound.kept there in
    record {
      cost = cost_some c.args.q.now c.args.cache.now.plans anchor.plan c.in-Some.cost c.requires.costs
          (ap (λ plans. option_map (cost_at c.args.q.now) (find (has_number anchor.plan) plans)) (sym
          c.plans.ensures.value)
          ∙ sym c.cost_of.ensures ∙ c.in-Some.is);
      numbers = c.requires.instance.numbers;
      least = kept.least;
      near = has_there (λ a. greater_product c.args.q.now a.at ≤ 2 ^ 63) c.args.cache.now.anchors c.args.place
          (held anchor) c.requires.instance.near there;
    }

pub returns-in-Some : goal.returns-in-Some
returns-in-Some c =
    let anchor = c.index-anchors-place.result in
    let there = there_at c.anchors.result.now c.args.cache.now.anchors c.args.place anchor c.anchors.ensures.value
    c.index-anchors-place.is c.requires.there in
    c.is_enough.ensures
    ∙ sym (enough_there (is_cheap_enough c.args.lambda c.args.q.now (held anchor)) c.args.q.now
    (find (has_number anchor.plan) c.args.cache.now.plans) c.in-Some.cost
    (ap (λ plans. option_map (cost_at c.args.q.now) (find (has_number anchor.plan) plans)) (sym c.plans.ensures.value)
    ∙ sym c.cost_of.ensures ∙ c.in-Some.is))
    ∙ sym (ap (λ found. option_map_or (passes_by_cost c.args.cache.now.plans c.args.lambda c.args.q.now) found false)
    there)

pub returns-in-None : goal.returns-in-None
returns-in-None c =
    let anchor = c.index-anchors-place.result in
    let there = there_at c.anchors.result.now c.args.cache.now.anchors c.args.place anchor c.anchors.ensures.value
    c.index-anchors-place.is c.requires.there in
    sym
    (ap (λ found. option_map_or (passes_by_cost c.args.cache.now.plans c.args.lambda c.args.q.now) found false) there
    ∙ none_enough (is_cheap_enough c.args.lambda c.args.q.now (held anchor)) c.args.q.now
    (find (has_number anchor.plan) c.args.cache.now.plans)
    (ap (λ plans. option_map (cost_at c.args.q.now) (find (has_number anchor.plan) plans)) (sym c.plans.ensures.value)
    ∙ sym c.cost_of.ensures ∙ c.in-None.is))
