use Rattle.std.proofs.Common.{◌∙◌, Option, ap, unwrap_or}
use Rattle.row_values.specs.declared.values.Kind.{Kind}
use Rattle.row_values.specs.declared.values.Kind.TheVariants as kind
use Rattle.row_values.proofs.Parameters.{kinds_more}
use Rattle.row_values.proofs.statement.parameter_kinds.Goals as goal

pub loop-pred-preserved : goal.loop-pred-preserved
loop-pred-preserved c =
    kinds_more c.args.places.now c.args.preds.now c.loop-pred.pred-index c.pred-item.result c.unwrap_or-kind.result
    c.loop-pred.kinds _ _ c.loop-pred-test.true c.pred-item.is
    (c.unwrap_or-kind.ensures ∙ ap (λ (k : Option Kind). unwrap_or k kind.Int) c.kind_of_column.ensures)
    c.push_test.ensures c.loop-pred.invariant
