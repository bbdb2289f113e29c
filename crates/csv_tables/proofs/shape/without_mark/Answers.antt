use Rattle.std.proofs.Common.{◌∙◌}
use Rattle.csv_tables.proofs.Widths.{with_mark, without_mark}
use Rattle.csv_tables.proofs.shape.without_mark.Goals as goal

pub returns-in-Some : goal.returns-in-Some
returns-in-Some c = c.in-Some.ensures.cases.1 ∙ with_mark c.args.bytes.now c.in-Some.ensures.cases.0

pub returns-in-None : goal.returns-in-None
returns-in-None c = without_mark c.args.bytes.now c.in-None.ensures.cases
