use Rattle.cost_polynomials.proofs.Growth.{grow_value}
use Rattle.cost_polynomials.proofs.laws.grow_up.Goals as goal

pub returns : goal.returns
returns c = record { bound = (grow_value c.args.p.now c.args.q.now c.args.a.now c.requires).grows }
