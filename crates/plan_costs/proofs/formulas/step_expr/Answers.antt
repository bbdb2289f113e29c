use Rattle.plan_costs.proofs.formulas.step_expr.Goals as goal

pub run_expr-requires-clause-valid : goal.run_expr-requires-clause-valid
run_expr-requires-clause-valid c = (c.args.set, c.requires.valid)
