use Rattle.std.proofs.Common.{◌∷◌, [], arith}
use Rattle.plan_recost.proofs.tests.cost_with.Goals as goal

pub cost_at-requires-clause-vector : goal.cost_at-requires-clause-vector
cost_at-requires-clause-vector c = (c.in_ok-kept.ensures.fits (c.args.found ∷ []) (c.takes.ensures (cc))).0

pub cost_at-requires-clause-fits : goal.cost_at-requires-clause-fits
cost_at-requires-clause-fits c =
    let high = (c.in_ok-kept.ensures.fits (c.args.found ∷ []) (c.takes.ensures (cc))).1.high in
    omega arith
