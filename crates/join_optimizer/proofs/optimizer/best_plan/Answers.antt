use Rattle.std.proofs.Common.{◌∙◌, ℕ, List, IsSome, ap, ap₂, length, refl, slice_index_or, subst, sym}
use Rattle.row_values.specs.declared.statement.Place.{Place}
use Rattle.plan_trees.specs.PlaceSets.{all_below}
use Rattle.plan_trees.specs.PlanSpace.{wants_order}
use Rattle.plan_trees.specs.Trees.{top_tree}
use Rattle.cost_model.specs.LeastCost.{whole_set}
use Rattle.join_optimizer.specs.declared.found.Cheapest.{Cheapest}
use Rattle.join_optimizer.specs.Found.{AreFound, found_in, nothing, plan_in}
use Rattle.join_optimizer.proofs.Wholes.{any_there, in_order_there, is_best, rest_there, whole_there}
use Rattle.join_optimizer.proofs.optimizer.best_plan.Goals as goal

pub best_top-requires-clause-whole : goal.best_top-requires-clause-whole
best_top-requires-clause-whole c =
    let all = c.all_places-all.ensures.value ∙ ap
    (λ (places : List Place). all_below (length places)) c.places.ensures.value in
    let cell = c.cell_at.ensures ∙ ap₂ (λ (xs : List Cheapest) (n : ℕ). slice_index_or xs n nothing)
    c.deref-3.ensures.value all in
    subst (λ (x : Cheapest). AreFound c.args.q.now c.args.stats.now c.args.s.now (whole_set c.args.q.now) (plan_in x))
    (sym cell) (c.in_ok-cells.ensures.found (whole_set c.args.q.now))

pub best_top-requires-clause-some : goal.best_top-requires-clause-some
best_top-requires-clause-some c =
    let all = c.all_places-all.ensures.value ∙ ap
    (λ (places : List Place). all_below (length places)) c.places.ensures.value in
    let cell = c.cell_at.ensures ∙ ap₂ (λ (xs : List Cheapest) (n : ℕ). slice_index_or xs n nothing)
    c.deref-3.ensures.value all in
    subst (λ (x : Cheapest). IsSome x.any) (sym cell)
    (any_there c.args.q.now c.args.stats.now c.args.s.now _ (whole_set c.args.q.now) c.in_ok-cells.ensures
    (whole_there c.args.q.now c.args.stats.now.indexed c.places.ensures.sound))

pub best_top-requires-clause-in_order : goal.best_top-requires-clause-in_order
best_top-requires-clause-in_order c =
    let all = c.all_places-all.ensures.value ∙ ap
    (λ (places : List Place). all_below (length places)) c.places.ensures.value in
    let cell = c.cell_at.ensures ∙ ap₂ (λ (xs : List Cheapest) (n : ℕ). slice_index_or xs n nothing)
    c.deref-3.ensures.value all in
    λ rows. subst (λ (x : Cheapest). IsSome (found_in (wants_order c.args.q.now) x)) (sym cell)
    (in_order_there c.args.q.now c.args.stats.now c.args.s.now _ c.places.ensures.sound c.in_ok-cells.ensures rows)

pub potentials_of-requires : goal.potentials_of-requires
potentials_of-requires c = rest_there c.args.q.now c.args.stats.now c.args.s.now _ _ c.in_ok-cells.ensures
    c.deref-4.ensures.value

pub returns : goal.returns
returns c =
    let all = c.all_places-all.ensures.value ∙ ap
    (λ (places : List Place). all_below (length places)) c.places.ensures.value in
    let cell = c.cell_at.ensures ∙ ap₂ (λ (xs : List Cheapest) (n : ℕ). slice_index_or xs n nothing)
    c.deref-3.ensures.value all in
    is_best c.args.q.now c.args.stats.now c.args.s.now _ _ _ _ _ _ c.in_ok-cells.ensures cell c.deref-4.ensures.value
    c.in_ok-list.ensures c.in_ok-finished.ensures
    (ap top_tree c.in_ok-new.ensures.ok) refl c.of.ensures
