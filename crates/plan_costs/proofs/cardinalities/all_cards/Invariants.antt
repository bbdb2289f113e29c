use Rattle.plan_costs.specs.Cards.{AreCardsBelow}
use Rattle.plan_costs.proofs.cardinalities.all_cards.Given as goal

-- the sets so far have their cardinalities
abbrev pub invariant-loop-set : goal.invariant-loop-set
invariant-loop-set l = AreCardsBelow l.q l.stats l.s l.set l.list.items
