-- The sums stand in the order of the plans, so the first least of the one is that of the other.
use Rattle.std.proofs.Common.{◌≡◌, List, map, rules, Option, Some, None, ap, sym, ◌∙◌, refl}
use Rattle.std.specs.Option.{option_map}
use Rattle.cache_model.specs.Caches.{Anchor, uses_of}
use Rattle.cache_model.specs.Keeping.{first_least}
use Rattle.anchor_cache.specs.declared.kept_plans.Kept.{Kept}
use Rattle.anchor_cache.specs.declared.kept_plans.PlanUses.{PlanUses}
use Rattle.anchor_cache.specs.Contents.{cached}
use Rattle.anchor_cache.specs.Sums.{sum_of, sums_of}
use Rattle.anchor_cache.proofs.FirstLeast.{least_map}
use Rattle.plan_eviction.proofs.victim.Goals as goal

number_either : (anchors : List Anchor) (found : Option Kept)
    → option_map (λ (sum : PlanUses). sum.plan) (option_map (sum_of anchors) found)
    ≡ option_map (λ plan. plan.number) (option_map cached found)
number_either anchors None = refl
number_either anchors (Some kept) = refl

least_used_plan : (plans : List Kept) (anchors : List Anchor)
    → option_map (λ (sum : PlanUses). sum.plan) (first_least (λ sum. sum.uses) (sums_of plans anchors))
    ≡ option_map (λ plan. plan.number) (first_least (λ plan. uses_of anchors plan.number) (map cached plans))
least_used_plan plans anchors =
    ap (option_map (λ (sum : PlanUses). sum.plan)) (least_map (sum_of anchors) (λ sum. sum.uses) plans)
    ∙ number_either anchors (first_least (λ kept. uses_of anchors kept.number) plans)
    ∙ sym (ap (option_map (λ plan. plan.number)) (least_map cached (λ plan. uses_of anchors plan.number) plans))

pub returns : goal.returns
returns c =
    let told : c.map.result ≡ option_map (λ sum. sum.plan) c.least.result = search rules in
    told ∙ ap (option_map (λ (sum : PlanUses). sum.plan)) (c.least.ensures
    ∙ ap (first_least (λ (sum : PlanUses). sum.uses)) c.uses.ensures)
    ∙ least_used_plan c.args.cache.now.plans c.args.cache.now.anchors
