use Rattle.plan_trees.specs.Trees.{top_tree}
use Rattle.plan_costs.proofs.FormulaShapes.{top_shape}
use Rattle.plan_costs.proofs.FormulaValues.{top_value}
use Rattle.plan_costs.proofs.formulas.expr_of.Goals as goal

pub returns-clause-value : goal.returns-clause-value
returns-clause-value c = λ s h. rw c.in_ok-cost.ensures
    (top_value c.args.q.now c.args.stats.now s (top_tree c.args.p.now) h)

pub returns-clause-sound : goal.returns-clause-sound
returns-clause-sound c = rw c.in_ok-cost.ensures
    (top_shape c.args.q.now c.args.stats.now (top_tree c.args.p.now) c.sound.ensures.value c.requires.sound
    c.requires.valid)
