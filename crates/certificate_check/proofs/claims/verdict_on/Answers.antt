use Rattle.std.proofs.Common.{sym, ◌∙◌}
use Rattle.plan_trees.specs.Trees.{top_tree}
use Rattle.cache_model.proofs.Counts.{counts_some}
use Rattle.certificate_check.proofs.Answering.{told}
use Rattle.certificate_check.proofs.Comparing.{all_comparable, cost_some}
use Rattle.certificate_check.proofs.claims.verdict_on.Goals as goal

pub cost_verdict-requires-clause-cost : goal.cost_verdict-requires-clause-cost
cost_verdict-requires-clause-cost c =
    cost_some c.args.q.now c.args.stats.now c.args.s.now (top_tree c.args.plan.now) c.args.cost c.sound.ensures.value
    c.requires.sound c.requires.vector
    (rw c.indexed.ensures at (told c.valid.result c.valid.ensures (cc)))
    (sym c.if-cost_of-cost.false ∙ c.cost_of.ensures.value)

pub cost_verdict-requires-clause-numbers : goal.cost_verdict-requires-clause-numbers
cost_verdict-requires-clause-numbers c =
    counts_some c.args.q.now c.args.stats.now c.args.s.now c.requires.vector

pub cost_verdict-requires-clause-entries : goal.cost_verdict-requires-clause-entries
cost_verdict-requires-clause-entries c =
    all_comparable c.args.q.now c.args.stats.now c.args.s.now c.args.statement c.args.entries.now
    c.sound.ensures.value c.requires.sound c.requires.vector c.requires.entries
