-- At a sound vector each selectivity has a number, and the cost fits.
use Rattle.std.proofs.Common.{sym, subst}
use Rattle.plan_trees.specs.Trees.{top_tree}
use Rattle.cost_model.specs.Laws.{IsCost}
use Rattle.cost_model.proofs.CostBounds.{costs_fit}
use Rattle.plan_costs.proofs.Ones.{counts_some}
use Rattle.plan_recost.proofs.kept_costs.Costed.of.Goals as goal

pub returns-clause-fits : goal.returns-clause-fits
returns-clause-fits c = λ s v.
    let fits = (costs_fit c.args.q.now c.args.stats.now s c.sound.ensures.value c.requires.sound v).tops
    (top_tree c.args.plan.value) c.requires.valid in
    let cost = rw c.deref.ensures at (c.in_ok-poly.ensures.value s v.one_each) in (
      c.in_ok-poly.ensures.vectors s v.one_each (counts_some c.args.q.now c.args.stats.now s v),
      subst (λ n. IsCost n) (sym cost) fits,
    )
