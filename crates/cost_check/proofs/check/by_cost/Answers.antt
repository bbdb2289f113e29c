-- The near ones are the candidates, and each is tried in turn.
use Rattle.std.proofs.Common.{◌≤◌, ◌<◌, ◌+◌, ◌^◌, drop, length, ap, sym, ◌∙◌, subst, arith}
use Rattle.std.proofs.lemmas.List.{length-map}
use Rattle.std.proofs.lemmas.Option.{slice_get_within}
use Rattle.cache_model.specs.Choices.{ByCost, candidates_of, greater_product}
use Rattle.anchor_cache.specs.Contents.{IsKeptAnchor}
use Rattle.anchor_cache.proofs.Views.{all_held}
use Rattle.cost_check.specs.declared.nearest.Near.{Near}
use Rattle.cost_check.specs.Answers.{passes_by_cost}
use Rattle.cost_check.specs.Nearest.{near_of}
use Rattle.cost_check.proofs.Agreeing.{choice_agrees}
use Rattle.cost_check.proofs.Trying.{are_candidates, found_at, goes_on, none_left, stops, tested}
use Rattle.cost_check.proofs.check.by_cost.Goals as goal

pub nearest_of-nearest-requires : goal.nearest_of-nearest-requires
nearest_of-nearest-requires c =
    let kept = all_held (IsKeptAnchor c.args.cache.now.plans) c.anchors.result.now c.args.cache.now.anchors
    c.anchors.ensures.value c.anchors.ensures.sound.kept in
    let near = all_held (λ a. greater_product c.args.q.now a.at ≤ 2 ^ 63) c.anchors.result.now c.args.cache.now.anchors
    c.anchors.ensures.value c.requires.instance.near in
    record {
      limit = omega arith;
      numbers = λ k d less. (kept k d less).numbers;
      near = λ k d less. let h = near k d less in omega arith;
    }

none : Near
none = record { position = 0; greater = 0; lesser = 0 }

pub passes-requires-clause-there : goal.passes-requires-clause-there
unfolding none
passes-requires-clause-there c =
    let found = found_at c.args.q.now c.args.recosts c.args.cache.now.anchors c.as_slice-near-items.result.now
    c.loop-near.near-index none (are_candidates c.args.q.now c.args.recosts c.args.cache.now.anchors
    c.anchors.result.now
    c.as_slice-near-items.result.now c.nearest_of-nearest.result.items c.as_slice-near-items.ensures.value
    c.nearest_of-nearest.ensures c.anchors.ensures.value) c.loop-near-test.true in
    subst (λ n. n < length c.args.cache.now.anchors) (sym found.1)
    (slice_get_within c.args.cache.now.anchors found.0.position found.0.anchor found.2)

pub returns-then-passes-clause-answer : goal.returns-then-passes-clause-answer
unfolding none
returns-then-passes-clause-answer c =
    let test = passes_by_cost c.args.cache.now.plans c.args.lambda c.args.q.now in
    let candidates = candidates_of c.args.q.now c.args.recosts c.args.cache.now.anchors in
    let found = found_at c.args.q.now c.args.recosts c.args.cache.now.anchors c.as_slice-near-items.result.now
    c.loop-near.near-index none (are_candidates c.args.q.now c.args.recosts c.args.cache.now.anchors
    c.anchors.result.now
    c.as_slice-near-items.result.now c.nearest_of-nearest.result.items c.as_slice-near-items.ensures.value
    c.nearest_of-nearest.ensures c.anchors.ensures.value) c.loop-near-test.true in
    sym
    (c.loop-near.invariant.choice
    ∙ stops test c.loop-near.tried found.0 (drop c.loop-near.near-index candidates)
    (drop (c.loop-near.near-index + 1) candidates) found.3
    (sym (tested test c.args.cache.now.anchors _ found.0 found.1 found.2) ∙ sym c.passes.ensures ∙ c.if-passes.true)
    ∙ ap (λ n. ByCost n (c.loop-near.tried + 1)) (sym found.1))

pub returns-then-passes-clause-choice : goal.returns-then-passes-clause-choice
returns-then-passes-clause-choice c = λ statement s h.
    returns-then-passes-clause-answer c
    ∙ choice_agrees statement s c.args.lambda c.args.q.now c.args.cache.now.plans
    (candidates_of c.args.q.now c.args.recosts c.args.cache.now.anchors) h

pub loop-near-preserved : goal.loop-near-preserved
unfolding none
loop-near-preserved c =
    let test = passes_by_cost c.args.cache.now.plans c.args.lambda c.args.q.now in
    let candidates = candidates_of c.args.q.now c.args.recosts c.args.cache.now.anchors in
    let counts = c.loop-near.invariant.counted in
    let found = found_at c.args.q.now c.args.recosts c.args.cache.now.anchors c.as_slice-near-items.result.now
    c.loop-near.near-index none (are_candidates c.args.q.now c.args.recosts c.args.cache.now.anchors
    c.anchors.result.now
    c.as_slice-near-items.result.now c.nearest_of-nearest.result.items c.as_slice-near-items.ensures.value
    c.nearest_of-nearest.ensures c.anchors.ensures.value) c.loop-near-test.true in
    record {
      counted = omega arith;
      choice = c.loop-near.invariant.choice
          ∙ goes_on test c.loop-near.tried found.0 (drop c.loop-near.near-index candidates)
          (drop (c.loop-near.near-index + 1) candidates) found.3
          (sym (tested test c.args.cache.now.anchors _ found.0 found.1 found.2) ∙ sym c.passes.ensures
          ∙ c.if-passes.false);
    }

pub returns-clause-answer : goal.returns-clause-answer
returns-clause-answer c =
    let candidates = candidates_of c.args.q.now c.args.recosts c.args.cache.now.anchors in
    let long = ap length (are_candidates c.args.q.now c.args.recosts c.args.cache.now.anchors c.anchors.result.now
    c.as_slice-near-items.result.now c.nearest_of-nearest.result.items c.as_slice-near-items.ensures.value
    c.nearest_of-nearest.ensures c.anchors.ensures.value) in
    let mapped = length-map candidates (near_of c.args.q.now) in
    sym
    (c.loop-near.invariant.choice
    ∙ none_left (passes_by_cost c.args.cache.now.plans c.args.lambda c.args.q.now) c.loop-near.tried
    c.loop-near.near-index candidates (omega arith))

pub returns-clause-choice : goal.returns-clause-choice
returns-clause-choice c = λ statement s h.
    returns-clause-answer c
    ∙ choice_agrees statement s c.args.lambda c.args.q.now c.args.cache.now.plans
    (candidates_of c.args.q.now c.args.recosts c.args.cache.now.anchors) h
