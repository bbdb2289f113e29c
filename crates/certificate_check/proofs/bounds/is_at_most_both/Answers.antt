use Rattle.certificate_check.proofs.Bounding.{both_no_bound, both_numbers}
use Rattle.certificate_check.proofs.bounds.is_at_most_both.Goals as goal

pub returns-in-Some-bound : goal.returns-in-Some-bound
returns-in-Some-bound c = both_numbers c.is_at_most_sum_of_three.result c.args.outer c.args.bound
    c.in-Some-bound.number c.in-Some.cost c.args.inner c.args.more c.in-Some.is c.in-Some-bound.is
    c.is_at_most_sum_of_three.ensures

pub returns-in-None-bound : goal.returns-in-None-bound
returns-in-None-bound c = both_no_bound c.args.outer c.args.bound c.in-Some.cost c.args.inner c.args.more c.in-Some.is
    c.in-None-bound.is
