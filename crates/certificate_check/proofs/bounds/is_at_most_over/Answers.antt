use Rattle.certificate_check.proofs.Bounding.{no_bound, over_number}
use Rattle.certificate_check.proofs.bounds.is_at_most_over.Goals as goal

pub returns-in-Some-bound : goal.returns-in-Some-bound
returns-in-Some-bound c = over_number c.is_at_most_sum.result c.args.base c.args.bound c.in-Some-bound.number
    c.in-Some.cost c.args.more c.in-Some.is c.in-Some-bound.is c.is_at_most_sum.ensures

pub returns-in-None-bound : goal.returns-in-None-bound
returns-in-None-bound c = no_bound c.args.base c.args.bound c.in-Some.cost c.args.more c.in-Some.is c.in-None-bound.is
