use Rattle.std.proofs.Common.{◌≡◌, ◌≤◌, ◌∙◌, ap, subst}
use Rattle.std.proofs.lemmas.Option.{slice_get-get_or}
use Rattle.plan_trees.specs.Lists.{IsAccessOf}
use Rattle.cost_model.specs.Costs.{access_unit}
use Rattle.plan_costs.proofs.Least.{one_of_accesses}
use Rattle.plan_costs.proofs.Listed.{above_all, above_more, same_list}
use Rattle.plan_costs.proofs.cheapest_accesses.least_access.Goals as goal

pub loop-access-preserved : goal.loop-access-preserved
loop-access-preserved c =
    let q = c.args.q.now in
    let s = c.args.stats.now in
    let vector = c.args.s.now in
    let price : c.priced_access.result.unit ≡ access_unit q s vector _ =
    c.priced_access.ensures.priced.unit ∙ ap (access_unit q s vector) c.priced_access.ensures.same in (
      one_of_accesses q s vector c.args.place _ _ _ c.cheaper_access-best.ensures.one c.loop-access.invariant.0
          c.priced_access.ensures.priced,
      above_more (access_unit q s vector) c.deref-access-items.result.now c.loop-access.access-index _ _ _
          c.cheaper_access-best.ensures.below_best
          (subst (λ n. c.cheaper_access-best.result.unit ≤ n) price c.cheaper_access-best.ensures.below_other)
          (slice_get-get_or c.deref-access-items.result.now c.loop-access.access-index _ c.loop-access-test.true)
          c.loop-access.invariant.1,
    )

pub returns : goal.returns
returns c =
    let q = c.args.q.now in
    let s = c.args.stats.now in
    let all = same_list (λ indexed. IsAccessOf q indexed c.args.place) _ _ _ _ c.indexed.ensures
    c.deref-access-items.ensures.value c.in_ok-list.ensures in
    record {
      priced = c.loop-access.invariant.0;
      below_all = above_all (IsAccessOf q s.indexed c.args.place) (access_unit q s c.args.s.now)
          c.deref-access-items.result.now c.loop-access.access-index _ all c.loop-access-test.false
          c.loop-access.invariant.1;
    }
