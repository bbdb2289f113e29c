use Rattle.std.proofs.Common.{arith, ◌≡◌, ◌*◌, ◌∙◌, subst, map}
use Rattle.plan_trees.specs.PlaceSets.{has}
use Rattle.plan_trees.specs.Statistics.{selectivity_places}
use Rattle.cost_model.specs.Cardinalities.{card_of, marked_product}
use Rattle.plan_costs.proofs.Cards.{are_parts, card_made}
use Rattle.plan_costs.proofs.cardinalities.card.Goals as goal

pub selected_product-selected-requires-clause-some : goal.selected_product-selected-requires-clause-some
selected_product-selected-requires-clause-some c =
    (are_parts c.args.q.now c.args.stats.now c.args.s.now c.args.set c.preds.ensures.sound c.requires.sound
    c.requires.vector).numbers

pub selected_product-selected-requires-clause-small : goal.selected_product-selected-requires-clause-small
selected_product-selected-requires-clause-small c =
    rw (c.preds.ensures.value)
    (are_parts c.args.q.now c.args.stats.now c.args.s.now c.args.set c.preds.ensures.sound c.requires.sound
    c.requires.vector).selected_few

made : (c : goal.After-from) → c.constant_part.result * c.from.result ≡ card_of c.args.q.now c.args.stats.now
    c.args.s.now c.args.set
made c =
    card_made c.args.q.now c.args.stats.now c.args.s.now c.args.set c.constant_part.result c.from.result
    c.constant_part.ensures
    (c.from.ensures
    ∙ subst (λ ps. c.selected_product-selected.result ≡ marked_product
    (map (has c.args.set) (selectivity_places ps)) c.args.s.now) c.preds.ensures.value
    c.selected_product-selected.ensures)

pub overflow_mul-result : goal.overflow_mul-result
overflow_mul-result c =
    let e = made c in
    let few =
    (are_parts c.args.q.now c.args.stats.now c.args.s.now c.args.set c.preds.ensures.sound c.requires.sound
    c.requires.vector).card_few in
    omega arith

pub returns : goal.returns
returns c = record { value = made c }
