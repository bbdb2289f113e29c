use Rattle.std.proofs.Common.{◌≢◌, ◌<◌, ◌+◌, ◌^◌, length, rules, subst, sym, ◌∙◌, arith, get_or-set_other, length-set}
use Rattle.std.proofs.lemmas.List.Edits.{map_over_more}
use Rattle.anchor_cache.specs.declared.kept_plans.PlanUses.{PlanUses}
use Rattle.anchor_cache.specs.Sums.{used_more}
use Rattle.anchor_cache.proofs.kept_plans.add_uses.Goals as goal

pub loop-sum-preserved : goal.loop-sum-preserved
loop-sum-preserved c =
    let items = c.loop-sum.sum-items in
    let index = c.loop-sum.sum-index in
    let inside : index < length items = omega arith in
    record {
      done =
          rw c.with_more.ensures
          (map_over_more (used_more c.args.plan c.args.uses) c.args.sums.now.items items index _
          (omega (arith, c.loop-sum.invariant.long)) c.loop-sum.invariant.done (search rules));
      long = length-set items index c.with_more.result ∙ c.loop-sum.invariant.long;
      fits = λ k d above less.
          let other : k ≢ index = omega arith in
          let short = length-set items index c.with_more.result in
          subst (λ (sum : PlanUses). sum.uses + c.args.uses < 2 ^ 128)
          (sym (get_or-set_other items index k c.with_more.result d other))
          (c.loop-sum.invariant.fits k d (omega arith) (omega arith));
    }
