use Rattle.certificate_check.proofs.Answering.{refused, told}
use Rattle.certificate_check.proofs.Bounding.{over_refused, over_sorted}
use Rattle.certificate_check.proofs.bounds.takes_over.Goals as goal

pub returns-then-not-is_at_most_sum : goal.returns-then-not-is_at_most_sum
returns-then-not-is_at_most_sum c = over_refused c.args.outer c.args.cell c.args.more
    (refused c.is_at_most_sum.result c.is_at_most_sum.ensures (cc))

pub returns : goal.returns
returns c = over_sorted c.args.outer c.args.cell c.args.more c.is_at_most_over.result
    (told c.is_at_most_sum.result c.is_at_most_sum.ensures (cc)) c.is_at_most_over.ensures
