use Rattle.report_items.proofs.Fronts.{stripped}
use Rattle.report_items.proofs.heads.behind.Goals as goal

pub returns : goal.returns
returns c = stripped c.args.word.now c.args.text.now c.strip_prefix.result c.strip_prefix.ensures.cases
