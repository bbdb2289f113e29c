use Rattle.std.proofs.Common.{◌≡◌, ◌==◌, rules, ◌∙◌, ap}
use Rattle.std.specs.List.{find}
use Rattle.std.specs.Option.{option_map}
use Rattle.anchor_cache.specs.declared.kept_plans.PlanUses.{PlanUses}
use Rattle.anchor_cache.proofs.Summing.{uses_found}
use Rattle.anchor_cache.proofs.cache.Cache.plan_uses.Goals as goal

pub returns : goal.returns
returns c =
    let told : c.map.result ≡ option_map (λ sum. sum.uses) c.find_uses.result = search rules in
    let from : c.as_slice.result.now ≡ c.self.inside.sums.items = c.as_slice.ensures.value in
    rw (← c.self.view_is)
    (told ∙ ap (option_map (λ (sum : PlanUses). sum.uses))
    (c.find_uses.ensures ∙ ap (find (λ (sum : PlanUses). sum.plan == c.args.plan))
    (from ∙ c.self.invariant.summed)) ∙ uses_found c.self.inside.plans.items _ c.args.plan)
