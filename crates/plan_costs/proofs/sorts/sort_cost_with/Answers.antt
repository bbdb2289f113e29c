use Rattle.std.proofs.Common.{ap, ◌∙◌, ◌*◌}
use Rattle.cost_model.specs.Cardinalities.{product_over}
use Rattle.cost_model.specs.Costs.{digits}
use Rattle.plan_costs.proofs.StepParts.{card_read, card_there, sort_parts_fit}
use Rattle.plan_costs.proofs.sorts.sort_cost_with.Goals as goal

pub card_at-requires : goal.card_at-requires
card_at-requires c = card_there _ _ _ _ _ c.requires.cards c.requires.there

pub sort_cost_of-requires-clause-fits : goal.sort_cost_of-requires-clause-fits
sort_cost_of-requires-clause-fits c =
    sort_parts_fit c.args.q.now c.args.stats.now c.args.s.now c.args.set _ c.sound.ensures.value c.requires.sound
    c.requires.vector
    (card_read c.args.q.now c.args.stats.now c.args.s.now c.args.cards.now c.args.set c.args.set _ c.requires.cards
    c.requires.there (cc) c.card_at.ensures)

pub returns : goal.returns
returns c =
    record {
      value = c.sort_cost_of.ensures.value
          ∙ ap (λ n. c.args.stats.now.weights.sort * digits (product_over c.args.set 0 c.args.stats.now.rows) * n)
          (card_read c.args.q.now c.args.stats.now c.args.s.now c.args.cards.now c.args.set c.args.set _
          c.requires.cards c.requires.there (cc) c.card_at.ensures);
    }
