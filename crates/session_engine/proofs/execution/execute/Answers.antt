use Rattle.std.proofs.Common.{ℕ, ◌≡◌, List, All, ap, subst, sym}
use Rattle.cost_model.specs.Costs.{top_cost}
use Rattle.cache_model.specs.Choices.{ByCost, BySelectivity, choice_of, position_chosen}
use Rattle.anchor_cache.specs.Contents.{state_of}
use Rattle.anchor_cache.specs.Instances.{IsInstanceFor}
use Rattle.session_model.proofs.Reuse.{within_bound}
use Rattle.session_engine.specs.Keeping.{CostsAt}
use Rattle.session_engine.proofs.Serving.{costs_are, instance_served}
use Rattle.session_engine.proofs.execution.execute.Goals as goal

pub choose-requires-clause-instance : goal.choose-requires-clause-instance
choose-requires-clause-instance g c =
    subst (λ (v : List ℕ). IsInstanceFor c.args.cache.now.anchors v) (sym c.as_slice-at.ensures)
    (instance_served c.args.source.now.q.now c.args.instance.now.stats c.args.executions c.args.settings.budget
    c.args.cache.now c.args.instance.now.at c.sound.ensures.value c.requires.ready.stats c.requires.serving
    c.requires.ready.vector)

pub reuse-requires-clause-bound : goal.reuse-requires-clause-bound
reuse-requires-clause-bound g c =
    let costs = subst (λ (v : List ℕ). All (CostsAt (top_cost c.args.source.now.q.now c.args.instance.now.stats v) v)
    c.args.cache.now.plans) (sym c.as_slice-at.ensures)
    (costs_are c.args.source.now.q.now c.args.instance.now.stats c.args.executions c.args.settings.budget
    c.args.cache.now c.args.instance.now.at c.requires.serving c.requires.ready.vector) in
    let choice = subst (λ (v : List ℕ). BySelectivity c.in-BySelectivity.place
    ≡ choice_of (state_of c.args.cache.now) c.args.source.now.q.now c.args.instance.now.stats v c.args.settings.lambda
    c.args.settings.recosts) c.as_slice-at.ensures
    (c.in-BySelectivity.ensures c.args.source.now.q.now c.args.instance.now.stats costs) in
    within_bound (state_of c.args.cache.now) c.args.source.now.q.now c.args.instance.now.stats c.args.executions
    c.args.settings.budget c.args.instance.now.at c.args.settings.lambda c.args.settings.recosts
    c.in-BySelectivity.place c.requires.serving.faithful c.requires.ready.vector (ap position_chosen (sym choice))

pub reuse-requires-in-ByCost-clause-bound : goal.reuse-requires-in-ByCost-clause-bound
reuse-requires-in-ByCost-clause-bound g c =
    let costs = subst (λ (v : List ℕ). All (CostsAt (top_cost c.args.source.now.q.now c.args.instance.now.stats v) v)
    c.args.cache.now.plans) (sym c.as_slice-at.ensures)
    (costs_are c.args.source.now.q.now c.args.instance.now.stats c.args.executions c.args.settings.budget
    c.args.cache.now c.args.instance.now.at c.requires.serving c.requires.ready.vector) in
    let choice = subst (λ (v : List ℕ). ByCost c.in-ByCost.place c.in-ByCost.tried
    ≡ choice_of (state_of c.args.cache.now) c.args.source.now.q.now c.args.instance.now.stats v c.args.settings.lambda
    c.args.settings.recosts) c.as_slice-at.ensures
    (c.in-ByCost.ensures c.args.source.now.q.now c.args.instance.now.stats costs) in
    within_bound (state_of c.args.cache.now) c.args.source.now.q.now c.args.instance.now.stats c.args.executions
    c.args.settings.budget c.args.instance.now.at c.args.settings.lambda c.args.settings.recosts
    c.in-ByCost.place c.requires.serving.faithful c.requires.ready.vector (ap position_chosen (sym choice))
