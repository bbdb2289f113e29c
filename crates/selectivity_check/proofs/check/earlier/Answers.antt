-- An entry's anchor takes the place where it passes and stands before; else the place found so far stays.
use Rattle.std.proofs.Common.{◌≡◌, ◌≤◌, ◌<◌, ◌^◌, map, length, slice_get, Some, subst, sym, ◌∙◌, arith}
use Rattle.std.proofs.lemmas.List.Quantifiers.{position-Some}
use Rattle.cache_model.specs.Choices.{greater_product, passes_selectivity_check}
use Rattle.anchor_cache.specs.declared.anchors.Anchor.{Anchor}
use Rattle.anchor_cache.specs.Anchors.{held}
use Rattle.anchor_cache.specs.Contents.{IsKeptAnchor}
use Rattle.anchor_cache.proofs.Views.{has_there, there_at}
use Rattle.selectivity_check.specs.Search.{place_in}
use Rattle.selectivity_check.proofs.Places.{after_fails, after_later, first_stays, first_taken, looked_up}
use Rattle.selectivity_check.proofs.Places.{passes_here, rise_held}
use Rattle.selectivity_check.proofs.check.earlier.Goals as goal
use Rattle.selectivity_check.proofs.check.earlier.Goals.{else-is_before-via-then-is_before+else-passes}
use Rattle.selectivity_check.proofs.check.earlier.Goals.{else-is_before-via-else-is_before}

pub place_of-requires : goal.place_of-requires
place_of-requires c =
    rise_held c.anchors-anchors.result.now c.args.cache.now.anchors c.anchors-anchors.ensures.value
    c.anchors-anchors.ensures.sound.executions_rise

pub passes-requires : goal.passes-requires
passes-requires c =
    let anchors = c.args.cache.now.anchors in
    let anchor = c.index-anchors-place.result in
    let at : place_in anchors c.args.entry.execution ≡ Some c.in-Some.place =
    looked_up c.anchors-anchors.result.now anchors c.args.entry.execution c.in-Some.place
    c.anchors-anchors.ensures.value (sym c.place_of.ensures ∙ c.in-Some.is) in
    let inside = (position-Some _ anchors c.in-Some.place (held anchor) at).0 in
    let there = there_at c.anchors-anchors.result.now anchors c.in-Some.place anchor c.anchors-anchors.ensures.value
    c.index-anchors-place.is inside in
    let kept : IsKeptAnchor c.args.cache.now.plans (held anchor) =
    has_there (IsKeptAnchor c.args.cache.now.plans) anchors c.in-Some.place (held anchor)
    c.anchors-anchors.ensures.sound.kept there in
    let least = kept.least in
    let dear = kept.plan_cost in
    record {
      numbers = c.requires.numbers;
      anchor_numbers = kept.numbers;
      least = kept.least;
      plan_cost = omega arith;
      near = has_there (λ a. greater_product c.args.q.now a.at ≤ 2 ^ 63) anchors c.in-Some.place (held anchor)
          c.requires.near there;
    }

pub returns-then-passes : goal.returns-then-passes
returns-then-passes c = λ entries h.
    let anchors = c.args.cache.now.anchors in
    let anchor = c.index-anchors-place.result in
    let test = passes_selectivity_check c.args.lambda c.args.q.now in
    let at : place_in anchors c.args.entry.execution ≡ Some c.in-Some.place =
    looked_up c.anchors-anchors.result.now anchors c.args.entry.execution c.in-Some.place
    c.anchors-anchors.ensures.value (sym c.place_of.ensures ∙ c.in-Some.is) in
    let inside = (position-Some _ anchors c.in-Some.place (held anchor) at).0 in
    let there = there_at c.anchors-anchors.result.now anchors c.in-Some.place anchor c.anchors-anchors.ensures.value
    c.index-anchors-place.is inside in
    first_taken test anchors entries c.args.entry c.args.found c.in-Some.place h at
    (passes_here test anchors c.in-Some.place (held anchor) there (sym c.passes.ensures ∙ c.if-passes.true))
    (sym c.is_before.ensures ∙ c.if-is_before.true)

pub returns-else-is_before : goal.returns-else-is_before
returns-else-is_before c = λ entries h.
    let anchors = c.args.cache.now.anchors in
    let test = passes_selectivity_check c.args.lambda c.args.q.now in
    let at : place_in anchors c.args.entry.execution ≡ Some c.in-Some.place =
    looked_up c.anchors-anchors.result.now anchors c.args.entry.execution c.in-Some.place
    c.anchors-anchors.ensures.value (sym c.place_of.ensures ∙ c.in-Some.is) in
    first_stays test anchors entries c.args.entry c.args.found h
    (elim c.else-is_before.branch [
      | else-is_before-via-then-is_before+else-passes w ↦
          after_fails test anchors c.args.entry c.args.found c.in-Some.place (held w.index-anchors-place.result) at
          (there_at c.anchors-anchors.result.now anchors c.in-Some.place w.index-anchors-place.result
          c.anchors-anchors.ensures.value w.index-anchors-place.is
          (position-Some _ anchors c.in-Some.place (held w.index-anchors-place.result) at).0)
          (sym w.passes.ensures ∙ w.if-passes.false)
      | else-is_before-via-else-is_before w ↦
          after_later test anchors c.args.entry c.args.found c.in-Some.place at
          (sym c.is_before.ensures ∙ w.if-is_before.false)
    ])
