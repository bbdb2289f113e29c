use Rattle.result_shape.proofs.Tallying.{max_taken, min_taken}
use Rattle.result_shape.proofs.tallies.more_row.Goals as goal

pub returns-in-Min : goal.returns-in-Min
returns-in-Min c =
    min_taken c.args.ready.now c.in-Min.field-0 c.args.at c.args.c.now c.args.row c.row.result c.lesser_row.result
    c.in-Min.is c.row.ensures c.lesser_row.ensures

pub returns-in-Max : goal.returns-in-Max
returns-in-Max c =
    max_taken c.args.ready.now c.in-Max.field-0 c.args.at c.args.c.now c.args.row c.row-in-Max.result
    c.greater_row.result c.in-Max.is c.row-in-Max.ensures c.greater_row.ensures
