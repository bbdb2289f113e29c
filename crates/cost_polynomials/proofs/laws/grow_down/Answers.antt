-- What shrinks from `a` to `q` grows from `q` to `a`.
use Rattle.std.proofs.Common.{sym}
use Rattle.cost_polynomials.proofs.Growth.{grow_value}
use Rattle.cost_polynomials.proofs.laws.grow_down.Goals as goal

pub returns : goal.returns
returns c = record { bound = (grow_value c.args.p.now c.args.a.now c.args.q.now (sym c.requires)).grows }
