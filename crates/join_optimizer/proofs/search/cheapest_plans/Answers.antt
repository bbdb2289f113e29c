use Rattle.std.proofs.Common.{◌≡◌, ◌<◌, ◌-◌, ◌^◌, ◌∙◌, List, ap, arith, length, pow_pos, subst}
use Rattle.row_values.specs.declared.statement.Place.{Place}
use Rattle.plan_trees.specs.PlaceSets.{all_below}
use Rattle.join_optimizer.specs.Search.{AreCheapest}
use Rattle.join_optimizer.proofs.Filling.{cheapest_more}
use Rattle.join_optimizer.proofs.search.cheapest_plans.Goals as goal

pub loop-set-preserved : goal.loop-set-preserved
loop-set-preserved c =
    cheapest_more c.args.q.now c.args.stats.now c.args.s.now _ _ _ c.loop-set.set _ c.loop-set.invariant
    (omega arith) c.in_ok-best.ensures.found c.deref.ensures.value c.in_ok-best.ensures.feasible
    c.in_ok-push-2.ensures.items

pub returns : goal.returns
returns c =
    let some : 0 < 2 ^ length c.args.q.now.places = pow_pos (length c.args.q.now.places) in
    let all : c.all_places-end.result ≡ 2 ^ length c.args.q.now.places - 1 = c.all_places-end.ensures.value
    ∙ ap (λ (places : List Place). all_below (length places)) c.places.ensures.value in
    let same : c.loop-set.set ≡ 2 ^ length c.args.q.now.places = omega arith in
    subst (λ n. AreCheapest c.args.q.now c.args.stats.now c.args.s.now c.loop-set.cells.items n) same
    c.loop-set.invariant
