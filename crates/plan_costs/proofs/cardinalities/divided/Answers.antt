use Rattle.std.proofs.Common.{sym}
use Rattle.plan_costs.proofs.Quotients.{quotient_one}
use Rattle.plan_costs.proofs.cardinalities.divided.Goals as goal

pub returns-then-factor-eq1 : goal.returns-then-factor-eq1
returns-then-factor-eq1 c = rw c.if-factor-eq1.true (sym (quotient_one c.args.number))
