-- The same plan comes first, and else the cheapest that covers.
use Rattle.std.proofs.Common.{ap, sym, ◌∙◌}
use Rattle.std.specs.Option.{option_map, option_or}
use Rattle.plan_trees.specs.Trees.{top_tree}
use Rattle.anchor_cache.specs.declared.kept_plans.Kept.{Kept}
use Rattle.redundancy_check.specs.Covering.{cheapest_serving}
use Rattle.session_engine.proofs.OldPlans.{old_numbers}
use Rattle.session_engine.proofs.keeping.old_number.Goals as goal

pub returns-in-Some : goal.returns-in-Some
returns-in-Some c =
    sym
    (old_numbers c.args.optimum.now c.args.keep c.args.cache.now.plans _ c.find_same.result
    (ap top_tree c.deref.ensures) c.find_same.ensures
    ∙ ap (λ found. option_or found (option_map (λ (kept : Kept). kept.number)
    (cheapest_serving c.args.keep c.args.optimum.now.least c.args.optimum.now.at c.args.cache.now.plans))) c.in-Some.is)

pub returns-in-None : goal.returns-in-None
returns-in-None c =
    c.covering.ensures.value
    ∙ ap (λ q. option_map (λ (kept : Kept). kept.number)
    (cheapest_serving c.args.keep c.args.optimum.now.least q c.args.cache.now.plans)) c.as_slice.ensures
    ∙ sym
    (old_numbers c.args.optimum.now c.args.keep c.args.cache.now.plans _ c.find_same.result
    (ap top_tree c.deref.ensures) c.find_same.ensures
    ∙ ap (λ found. option_or found (option_map (λ (kept : Kept). kept.number)
    (cheapest_serving c.args.keep c.args.optimum.now.least c.args.optimum.now.at c.args.cache.now.plans))) c.in-None.is)
