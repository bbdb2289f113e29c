use Rattle.std.proofs.Common.{◌≡◌, ◌<◌, ◌*◌, ◌^◌, ◌∙◌, List, ap, ap₂, arith, length}
use Rattle.row_values.specs.declared.statement.Place.{Place}
use Rattle.plan_trees.specs.PlaceSets.{all_below}
use Rattle.plan_trees.specs.declared.statistics.Weights.{Weights}
use Rattle.cost_model.specs.LeastCost.{whole_set}
use Rattle.cost_model.specs.Cardinalities.{card_of}
use Rattle.join_optimizer.proofs.CostSums.{any_fits, one_more_fits, sorted_fits, weighed_below}
use Rattle.join_optimizer.proofs.Finishing.{groups_best}
use Rattle.join_optimizer.proofs.tops.best_groups.Goals as goal

pub overflow_mul-by_hash : goal.overflow_mul-by_hash
overflow_mul-by_hash c =
    let less : c.from.result * c.card-rows.result < 2 ^ 124 =
    weighed_below c.args.q.now c.args.stats.now c.args.s.now _ c.args.stats.now.weights.hash _ _ c.requires.query
    c.requires.sound c.requires.vector c.requires.sound.weights.hash.high
    (c.from.ensures ∙ ap (λ (w : Weights). w.hash) c.weights.ensures) c.card-rows.ensures.value in
    omega arith

pub overflow_mul-by_order : goal.overflow_mul-by_order
overflow_mul-by_order c =
    let less : c.from-2.result * c.card-rows.result < 2 ^ 124 =
    weighed_below c.args.q.now c.args.stats.now c.args.s.now _ c.args.stats.now.weights.row _ _ c.requires.query
    c.requires.sound c.requires.vector c.requires.sound.weights.row.high
    (c.from-2.ensures ∙ ap (λ (w : Weights). w.row) c.weights-2.ensures) c.card-rows.ensures.value in
    omega arith

pub hash_groups_over-requires-clause-fits : goal.hash_groups_over-requires-clause-fits
hash_groups_over-requires-clause-fits c =
    one_more_fits _ _
    (weighed_below c.args.q.now c.args.stats.now c.args.s.now _ c.args.stats.now.weights.hash _ _ c.requires.query
    c.requires.sound c.requires.vector c.requires.sound.weights.hash.high
    (c.from.ensures ∙ ap (λ (w : Weights). w.hash) c.weights.ensures) c.card-rows.ensures.value)
    (any_fits c.args.q.now c.args.stats.now c.args.s.now
    (whole_set c.args.q.now) c.args.whole.now c.requires.query c.requires.sound c.requires.vector c.requires.whole)

pub or_sorted_groups-requires : goal.or_sorted_groups-requires
or_sorted_groups-requires c =
    one_more_fits _ _
    (weighed_below c.args.q.now c.args.stats.now c.args.s.now _ c.args.stats.now.weights.row _ _ c.requires.query
    c.requires.sound c.requires.vector c.requires.sound.weights.row.high
    (c.from-2.ensures ∙ ap (λ (w : Weights). w.row) c.weights-2.ensures) c.card-rows.ensures.value)
    (sorted_fits c.args.q.now c.args.stats.now c.args.s.now
    (whole_set c.args.q.now) c.args.whole.now c.requires.query c.requires.sound c.requires.vector c.requires.whole)

pub returns : goal.returns
returns c =
    let card : c.card-rows.result ≡ card_of c.args.q.now c.args.stats.now c.args.s.now (whole_set c.args.q.now) =
    c.card-rows.ensures.value ∙ ap (λ set. card_of c.args.q.now c.args.stats.now c.args.s.now set)
    (c.all_places.ensures.value ∙ ap (λ (places : List Place). all_below (length places)) c.places.ensures.value) in
    groups_best c.args.q.now c.args.stats.now c.args.s.now c.args.whole.now _ _ _ _ c.requires.grouped c.requires.whole
    (ap₂ (λ m n. m * n) (c.from.ensures ∙ ap (λ (w : Weights). w.hash) c.weights.ensures) card)
    (ap₂ (λ m n. m * n) (c.from-2.ensures ∙ ap (λ (w : Weights). w.row) c.weights-2.ensures) card)
    c.in_ok-hashed.ensures c.in_ok-finished.ensures
