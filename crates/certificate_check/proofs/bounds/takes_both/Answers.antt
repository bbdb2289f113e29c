use Rattle.certificate_check.proofs.Answering.{refused, told}
use Rattle.certificate_check.proofs.Bounding.{both_refused, both_sorted}
use Rattle.certificate_check.proofs.bounds.takes_both.Goals as goal

pub returns-then-not-is_at_most_both : goal.returns-then-not-is_at_most_both
returns-then-not-is_at_most_both c = both_refused c.args.outer c.args.inner c.args.cell c.args.more
    (refused c.is_at_most_both.result c.is_at_most_both.ensures (cc))

pub returns : goal.returns
returns c = both_sorted c.args.outer c.args.inner c.args.cell c.args.more c.is_at_most_both-2.result
    (told c.is_at_most_both.result c.is_at_most_both.ensures (cc)) c.is_at_most_both-2.ensures
