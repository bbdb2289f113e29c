use Rattle.plan_costs.proofs.Digits.{digits_below_zeros}
use Rattle.plan_costs.proofs.accesses.digits.Goals as goal

pub returns : goal.returns
returns c = digits_below_zeros c.args.number c.ranges.number.fits
