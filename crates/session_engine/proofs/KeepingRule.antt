-- What is kept with an old plan, or with its own, is what the rule of the model keeps.
use Rattle.std.proofs.Common.{ℕ, ◌≡◌, ◌<◌, nat_lt, length, map, All, Option, Some, None, ap, sym, ◌∙◌, refl}
use Rattle.std.specs.Option.{option_map, option_map_or}
use Rattle.std.proofs.lemmas.Bool.{cond-true, lt-ltb}
use Rattle.std.proofs.lemmas.Option.{none-some, same_Some}
use Rattle.fraction_math.specs.Fraction.{Fraction}
use Rattle.plan_trees.specs.Trees.{TopTree, top_tree}
use Rattle.cache_model.specs.declared.limits.TheConstants.{ANCHOR_LIMIT}
use Rattle.cache_model.specs.Keeping as model
use Rattle.cache_model.proofs.Lists.{each_from}
use Rattle.anchor_cache.specs.declared.kept_plans.Kept.{Kept}
use Rattle.anchor_cache.specs.Contents.{Contents, cached, state_of}
use Rattle.session_engine.specs.declared.keeping.OldPlan.{OldPlan}
use Rattle.session_engine.specs.declared.keeping.Optimum.{Optimum}
use Rattle.session_engine.specs.Keeping.{CostsAt, kept_with_number, old_kept, old_plan_at, optimum_of}
use Rattle.session_engine.proofs.OldPlans.{old_agrees, old_has}

abbrev nothing : Contents → model.Keeping
nothing cache = record { cache = state_of cache; evicted = None; kept = model.KeptNothing }

-- where there is room for an anchor
rule_with_room : (cache : Contents) (optimum : Optimum) (cost : TopTree → ℕ) (keep : Fraction) (budget : ℕ)
    → length cache.anchors < ANCHOR_LIMIT → All (CostsAt cost optimum.at) cache.plans
    → option_map_or (model.kept_with_old (state_of cache) (optimum_of optimum) cost)
    (option_map cached (old_kept optimum keep cache.plans))
    (model.kept_with_new (state_of cache) (optimum_of optimum) cost budget)
    ≡ model.kept_at (state_of cache) (optimum_of optimum) cost keep budget
rule_with_room cache optimum cost keep budget few h =
    let new = model.kept_with_new (state_of cache) (optimum_of optimum) cost budget in
    let old = model.old_plan (optimum_of optimum) keep cost (map cached cache.plans) in
    ap (λ found. option_map_or (model.kept_with_old (state_of cache) (optimum_of optimum) cost) found new)
    (old_agrees optimum keep cost cache.plans h)
    ∙ sym (cond-true (nat_lt (length cache.anchors) ANCHOR_LIMIT)
    (option_map_or (model.kept_with_old (state_of cache) (optimum_of optimum) cost) old new) (nothing cache)
    (lt-ltb (length cache.anchors) ANCHOR_LIMIT few))

-- An old plan.

old_by : (cache : Contents) (optimum : Optimum) (cost : TopTree → ℕ) (keep : Fraction) (old : OldPlan)
    (new : model.Keeping) → All (CostsAt cost optimum.at) cache.plans → (found : Option Kept)
    → old_kept optimum keep cache.plans ≡ found → option_map (old_plan_at optimum.at) found ≡ Some old
    → kept_with_number cache optimum old
    ≡ option_map_or (model.kept_with_old (state_of cache) (optimum_of optimum) cost) (option_map cached found) new
old_by cache optimum cost keep old new h None e same = absurd (none-some old same)
old_by cache optimum cost keep old new h (Some kept) e same =
    ap (λ (o : OldPlan). kept_with_number cache optimum o) (sym (same_Some (old_plan_at optimum.at kept) old same))
    ∙ ap (λ (n : ℕ). kept_with_number cache optimum (record { number = kept.number; cost = n }))
    (old_has (CostsAt cost optimum.at) optimum keep cache.plans kept
    (each_from (CostsAt cost optimum.at) cache.plans h) e)

pub rule_with_old : (cache : Contents) (optimum : Optimum) (cost : TopTree → ℕ) (keep : Fraction) (budget : ℕ)
    (old : OldPlan) → length cache.anchors < ANCHOR_LIMIT → All (CostsAt cost optimum.at) cache.plans
    → option_map (old_plan_at optimum.at) (old_kept optimum keep cache.plans) ≡ Some old
    → kept_with_number cache optimum old ≡ model.kept_at (state_of cache) (optimum_of optimum) cost keep budget
rule_with_old cache optimum cost keep budget old few h same =
    old_by cache optimum cost keep old (model.kept_with_new (state_of cache) (optimum_of optimum) cost budget) h
    (old_kept optimum keep cache.plans) refl same
    ∙ rule_with_room cache optimum cost keep budget few h

-- Its own.

new_by : (cache : Contents) (optimum : Optimum) (cost : TopTree → ℕ) (new : model.Keeping) (found : Option Kept)
    → option_map (old_plan_at optimum.at) found ≡ None
    → new
    ≡ option_map_or (model.kept_with_old (state_of cache) (optimum_of optimum) cost) (option_map cached found) new
new_by cache optimum cost new None none = refl
new_by cache optimum cost new (Some kept) none = absurd (none-some (old_plan_at optimum.at kept) (sym none))

pub rule_with_new : (cache : Contents) (optimum : Optimum) (cost : TopTree → ℕ) (keep : Fraction) (budget : ℕ)
    → length cache.anchors < ANCHOR_LIMIT → All (CostsAt cost optimum.at) cache.plans
    → cost (top_tree optimum.costed.plan.value) ≡ optimum.least
    → option_map (old_plan_at optimum.at) (old_kept optimum keep cache.plans) ≡ None
    → model.kept_with_new (state_of cache) (optimum_of optimum) (λ top. optimum.least) budget
    ≡ model.kept_at (state_of cache) (optimum_of optimum) cost keep budget
rule_with_new cache optimum cost keep budget few h least none =
    ap (λ (n : ℕ). model.kept_with_new (state_of cache) (optimum_of optimum) (λ top. n) budget) (sym least)
    ∙ new_by cache optimum cost (model.kept_with_new (state_of cache) (optimum_of optimum) cost budget)
    (old_kept optimum keep cache.plans) none
    ∙ rule_with_room cache optimum cost keep budget few h
