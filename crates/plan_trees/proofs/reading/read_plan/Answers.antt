use Rattle.std.proofs.Common.{◌≡◌, ◌∙◌, Some, ap, sym, subst}
use Rattle.plan_trees.specs.Reading.{top_at}
use Rattle.plan_trees.specs.Spelling.{IsPlanText}
use Rattle.plan_trees.specs.Trees.{top_tree}
use Rattle.plan_trees.specs.declared.plans.Top.{Top}
use Rattle.plan_trees.proofs.PlanLaws.{top_taken}
use Rattle.plan_trees.proofs.reading.read_plan.Goals as goal

-- what the reader answers is read from the whole text, and the pointer holds it
pub returns-in-Ok-clause-found : goal.returns-in-Ok-clause-found
returns-in-Ok-clause-found c =
    let read : top_at c.args.q.now c.args.text.now ≡ Some (top_tree c.in_ok-top.top) =
    ap (top_at c.args.q.now) (sym c.as_bytes.ensures.value) ∙ c.in_ok-top.ensures in
    subst (λ (top : Top). IsPlanText c.args.q.now c.args.text.now (top_tree top)) (sym c.in-Ok.ensures.ok)
    (top_taken c.args.q.now c.args.text.now (top_tree c.in_ok-top.top) read)
