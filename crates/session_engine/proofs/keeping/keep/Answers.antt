-- Where there is room for an anchor, the rule keeps it with the old plan that serves, else with its own.
use Rattle.std.proofs.Common.{◌<◌, length, ap, subst, sym, ◌∙◌, arith}
use Rattle.std.proofs.lemmas.List.{length-map}
use Rattle.cost_model.specs.Costs.{top_cost}
use Rattle.cache_model.specs.declared.limits.TheConstants.{ANCHOR_LIMIT}
use Rattle.anchor_cache.specs.Anchors.{held}
use Rattle.session_engine.specs.Keeping.{IsKept}
use Rattle.session_engine.proofs.KeepingRule.{rule_with_new, rule_with_old}
use Rattle.session_engine.proofs.keeping.keep.Goals as goal

pub returns-in-Some-clause-kept : goal.returns-in-Some-clause-kept
returns-in-Some-clause-kept c = λ q s h least.
    let long = ap length c.anchors.ensures.value in
    let same = length-map c.anchors.result.now held in
    let few : length c.args.cache.now.anchors < ANCHOR_LIMIT = omega arith in
    subst (λ keeping. IsKept keeping c.keep_with_old.new.cache c.keep_with_old.result)
    (rule_with_old c.args.cache.now c.args.optimum (top_cost q s c.args.optimum.at) c.args.keep c.args.budget
    c.in-Some.old few h (sym c.old_plan.ensures.value ∙ c.in-Some.is)) c.keep_with_old.ensures.kept

pub returns-in-None-clause-kept : goal.returns-in-None-clause-kept
returns-in-None-clause-kept c = λ q s h least.
    let long = ap length c.anchors.ensures.value in
    let same = length-map c.anchors.result.now held in
    let few : length c.args.cache.now.anchors < ANCHOR_LIMIT = omega arith in
    subst (λ keeping. IsKept keeping c.keep_with_new.new.cache c.keep_with_new.result)
    (rule_with_new c.args.cache.now c.args.optimum (top_cost q s c.args.optimum.at) c.args.keep c.args.budget few h
    least (sym c.old_plan.ensures.value ∙ c.in-None.is)) c.keep_with_new.ensures.kept
