use Rattle.plan_costs.proofs.StepParts.{fan_column}
use Rattle.plan_costs.proofs.formulas.run_expr.Goals as goal

pub edge_fan-found-requires-clause-column : goal.edge_fan-found-requires-clause-column
edge_fan-found-requires-clause-column c =
    fan_column c.args.q.now c.args.stats.now c.requires.valid.0 c.in-Probe.place c.in-Probe.edge c.requires.query
    c.requires.sound (rw c.in-Probe.is at c.requires.valid.1)
