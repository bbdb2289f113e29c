-- The entries of the window, one after the other; all others fail.
use Rattle.std.proofs.Common.{◌≡◌, ◌+◌, length, map, slice_index, take, Option, subst, sym, ◌∙◌, ap, rules, arith}
use Rattle.std.specs.List.{filter}
use Rattle.std.proofs.lemmas.List.{take_all, take_more}
use Rattle.cache_model.specs.Choices.{passes_selectivity_check}
use Rattle.anchor_cache.specs.declared.window.WindowEntry.{WindowEntry}
use Rattle.selectivity_check.specs.Near.{is_near}
use Rattle.selectivity_check.specs.Search.{IsFirstOf}
use Rattle.selectivity_check.proofs.Outside.{all_fail_far}
use Rattle.selectivity_check.proofs.Places.{first_of_all, none_yet}
use Rattle.selectivity_check.proofs.check.by_selectivity.Goals as goal

pub loop-entry-init : goal.loop-entry-init
loop-entry-init c = none_yet (passes_selectivity_check c.args.lambda c.args.q.now) c.args.cache.now.anchors

pub loop-entry-preserved : goal.loop-entry-preserved
loop-entry-preserved c =
    subst (λ xs. IsFirstOf (passes_selectivity_check c.args.lambda c.args.q.now) c.args.cache.now.anchors xs
    c.earlier-found.result)
    (sym (take_more c.window-near.result.now c.loop-entry.entry-index _ (omega arith)))
    (c.earlier-found.ensures (take c.loop-entry.entry-index c.window-near.result.now) c.loop-entry.invariant)

pub returns : goal.returns
returns c =
    let anchors = c.args.cache.now.anchors in
    let entries = c.by_first_selectivity.result.now in
    let test = passes_selectivity_check c.args.lambda c.args.q.now in
    let first : c.unwrap_or-first.result ≡ slice_index c.args.q.now 0 = search rules in
    let near : c.window-near.result.now
    ≡ filter (λ (entry : WindowEntry). is_near c.args.lambda (slice_index c.args.q.now 0) entry.first) entries =
    c.window-near.ensures ∙ ap (λ n. filter (λ (entry : WindowEntry). is_near c.args.lambda n entry.first) entries)
    first in
    let whole : IsFirstOf test anchors c.window-near.result.now c.loop-entry.found =
    subst (λ xs. IsFirstOf test anchors xs c.loop-entry.found)
    (take_all c.loop-entry.entry-index c.window-near.result.now (omega arith)) c.loop-entry.invariant in
    sym
    (first_of_all test anchors entries (λ entry. is_near c.args.lambda (slice_index c.args.q.now 0) entry.first)
    c.loop-entry.found c.by_first_selectivity.ensures.sound.executions_rise c.by_first_selectivity.ensures.ordered.each
    (all_fail_far c.args.lambda c.args.q.now c.args.cache.now.plans anchors c.by_first_selectivity.ensures.sound.kept
    c.requires.as_long)
    (subst (λ xs. IsFirstOf test anchors xs c.loop-entry.found) near whole))
