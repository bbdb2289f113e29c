use Rattle.std.proofs.lemmas.Option.{slice_get-get_or}
use Rattle.plan_trees.specs.Lists.{IsAccessOf}
use Rattle.plan_costs.proofs.Listed.{item_listed, same_list}
use Rattle.join_optimizer.proofs.Offers.{list_all, list_more, list_start}
use Rattle.join_optimizer.proofs.Parts.{access_stays}
use Rattle.join_optimizer.proofs.last_places.by_accesses.Goals as goal

pub loop-access-init : goal.loop-access-init
loop-access-init c = list_start c.args.q.now c.args.stats.now c.args.s.now _ _ _ c.args.first c.requires.first

pub offer_access-requires-clause-valid : goal.offer_access-requires-clause-valid
offer_access-requires-clause-valid c =
    let all = same_list (λ indexed. IsAccessOf c.args.q.now indexed c.args.place) _ _ _ _ c.indexed.ensures
    c.deref-access-items.ensures.value c.in_ok-list.ensures in
    item_listed (IsAccessOf c.args.q.now c.args.stats.now.indexed c.args.place) c.deref-access-items.result.now
    c.loop-access.access-index _ all c.loop-access-test.true

pub loop-access-preserved : goal.loop-access-preserved
loop-access-preserved c =
    list_more c.args.q.now c.args.stats.now c.args.s.now _ _ _ _ _ _ _ _
    (access_stays c.args.q.now c.args.stats.now c.args.s.now) c.loop-access.invariant
    (slice_get-get_or c.deref-access-items.result.now c.loop-access.access-index _ c.loop-access-test.true)
    c.in_ok-best.ensures

pub returns : goal.returns
returns c =
    let all = same_list (λ indexed. IsAccessOf c.args.q.now indexed c.args.place) _ _ _ _ c.indexed.ensures
    c.deref-access-items.ensures.value c.in_ok-list.ensures in
    list_all c.args.q.now c.args.stats.now c.args.s.now _ _ _ _ _ _ _ all c.loop-access-test.false
    c.loop-access.invariant
