use Rattle.std.proofs.Common.{true≢false, ◌∙◌, sym, refl}
use Rattle.plan_trees.specs.Trees.{top_tree}
use Rattle.growth_checker.specs.Expression.{formula}
use Rattle.plan_costs.proofs.FormulaShapes.{counts_serve, never_large}
use Rattle.plan_costs.proofs.Ones.{ones, ones_sound}
use Rattle.plan_costs.proofs.polynomials.poly_of.Goals as goal

pub returns-in-Ok-clause-vectors : goal.returns-in-Ok-clause-vectors
returns-in-Ok-clause-vectors c = λ s each some. c.in-Ok.ensures.vectors s
    (counts_serve c.args.q.now s (formula c.in_ok-cost.cost) c.in_ok-cost.ensures.sound each some)

pub unreachable-requires : goal.unreachable-requires
unreachable-requires c =
    let first = c.in-Err-Shared.ensures.shared c.in-Err-Shared.field-0-0 (rw c.in-Err-Shared.field-0-is refl) in
    true≢false (sym first.shared ∙ c.in_ok-cost.ensures.sound.unshared c.in-Err-Shared.field-0-0)

pub unreachable-requires-in-Err-Large : goal.unreachable-requires-in-Err-Large
unreachable-requires-in-Err-Large c =
    let large = c.in-Err-Large.ensures.large (rw c.in-Err-Large.field-0-is refl) in
    let v = ones_sound c.args.q.now c.args.stats.now c.sound.ensures.value c.requires.sound in
    never_large c.args.q.now c.args.stats.now (top_tree c.args.p.now)
    (formula c.in_ok-cost.cost) c.sound.ensures.value c.requires.sound c.requires.valid c.in_ok-cost.ensures.sound
    (c.in_ok-cost.ensures.value (ones c.args.q.now) v.one_each) large.1
