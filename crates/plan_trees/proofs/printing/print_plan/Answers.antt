use Rattle.std.proofs.Common.{◌≡◌, arith}
use Rattle.std.proofs.lemmas.Grind.{common_steps}
use Rattle.plan_trees.specs.Spelling.{top_text}
use Rattle.plan_trees.specs.Trees.{top_tree}
use Rattle.plan_trees.proofs.ValidPlans.{spelled_valid_as}
use Rattle.plan_trees.proofs.printing.print_plan.Goals as goal

-- what was written is the spelling, and a sound statement has at most five places
pub returns-clause-read : goal.returns-clause-read
returns-clause-read c indexed valid =
    let spelled : c.from_string.result ≡ top_text c.args.q.now.places (top_tree c.args.p.now) =
    grind (arith, common_steps) in
    spelled_valid_as c.args.q.now indexed c.from_string.result (top_tree c.args.p.now)
    c.places-places.ensures.sound.few_places spelled valid
