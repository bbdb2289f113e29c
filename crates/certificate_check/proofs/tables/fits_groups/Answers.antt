use Rattle.std.proofs.Common.{◌≡◌, ◌*◌, length, ap, ◌∙◌}
use Rattle.plan_trees.specs.PlaceSets.{all_below}
use Rattle.cost_model.specs.Cardinalities.{card_of}
use Rattle.cost_model.specs.LeastCost.{whole_set}
use Rattle.certificate_check.specs.Bounds.{costs_of}
use Rattle.certificate_check.proofs.Answering.{told}
use Rattle.certificate_check.proofs.Feasible.{hashed_told, weighed_below}
use Rattle.certificate_check.proofs.tables.fits_groups.Goals as goal

pub grouping_cost-requires : goal.grouping_cost-requires
grouping_cost-requires c =
    weighed_below c.args.q.now c.args.stats.now c.args.s.now c.all_places.result c.args.stats.now.weights.row _ _
    c.requires.query c.requires.sound c.requires.vector c.requires.sound.weights.row.high
    (ap (λ w. w.row) c.weights-weights.ensures) c.card-rows.ensures.value

pub grouping_cost-requires-2 : goal.grouping_cost-requires-2
grouping_cost-requires-2 c =
    weighed_below c.args.q.now c.args.stats.now c.args.s.now c.all_places.result c.args.stats.now.weights.hash _ _
    c.requires.query c.requires.sound c.requires.vector c.requires.sound.weights.hash.high
    (ap (λ w. w.hash) c.weights-weights.ensures) c.card-rows.ensures.value

pub returns : goal.returns
returns c =
    let whole : c.all_places.result ≡ whole_set c.args.q.now =
    c.all_places.ensures.value ∙ ap (λ xs. all_below (length xs)) c.places.ensures.value in
    let rows : c.card-rows.result ≡ card_of c.args.q.now c.args.stats.now c.args.s.now (whole_set c.args.q.now) =
    c.card-rows.ensures.value ∙ ap (card_of c.args.q.now c.args.stats.now c.args.s.now) whole in
    hashed_told c.args.q.now c.args.stats.now c.args.s.now c.args.least c.grouping_cost.result
    c.grouping_cost-2.result c.card-rows.result (costs_of c.args.whole) c.is_at_most_over-2.result
    (c.grouping_cost.ensures ∙ ap (λ w. w.row * c.card-rows.result) c.weights-weights.ensures)
    (c.grouping_cost-2.ensures ∙ ap (λ w. w.hash * c.card-rows.result) c.weights-weights.ensures) rows
    (told c.is_at_most_over.result c.is_at_most_over.ensures (cc)) c.is_at_most_over-2.ensures
