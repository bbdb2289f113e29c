use Rattle.statement_meaning.proofs.Groups.{shape_by_runs, shape_by_classes}
use Rattle.statement_meaning.proofs.laws.group_rows_in_order.Goals as goal

pub returns-clause-runs : goal.returns-clause-runs
returns-clause-runs c = shape_by_runs

pub returns-clause-gathered : goal.returns-clause-gathered
returns-clause-gathered c = shape_by_classes
