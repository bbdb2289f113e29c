use Rattle.certificate_check.proofs.Bounding.{access_refused, access_sorted}
use Rattle.certificate_check.proofs.bounds.takes_access.Goals as goal

pub returns-then-cell-cost : goal.returns-then-cell-cost
returns-then-cell-cost c = access_refused c.args.q.now c.args.access c.args.cost c.args.cell c.if-cell-cost.true

pub returns : goal.returns
returns c = access_sorted c.args.q.now c.args.access c.args.cost c.args.cell c.is_at_most.result c.if-cell-cost.false
    (cc) c.is_at_most.ensures
