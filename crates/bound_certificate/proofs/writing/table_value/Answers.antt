use Rattle.std.proofs.Common.{◌≡◌, ◌+◌, ap, sym, ◌∙◌, subst, arith, map, take}
use Rattle.std.proofs.lemmas.List.{get_or_default, take_all}
use Rattle.serde_json.specs.Data.{array}
use Rattle.serde_json.specs.View.{items_of, view}
use Rattle.serde_json.proofs.Views.{view-Array}
use Rattle.bound_certificate.proofs.Cells.{cell_list, items_same, list_more}
use Rattle.bound_certificate.proofs.writing.table_value.Goals as goal

pub loop-cell-preserved : goal.loop-cell-preserved
loop-cell-preserved c =
    let counted = c.len.ensures in
    let whole = c.loop-cell.list.ok in
    subst (λ xs. map view xs ≡ cell_list 1 (take (c.loop-cell.cell-index + 1) c.args.cells.now))
    (sym c.in_ok-push.ensures.items)
    (list_more c.loop-cell.list.items c.in_ok-cell_value.field-0 c.args.cells.now c.loop-cell.cell-index
    (c.len.result + 1) _ c.loop-cell.invariant c.loop-cell-test.true
    (get_or_default c.args.cells.now c.loop-cell.cell-index _ _ c.loop-cell-test.true)
    (omega arith) c.in_ok-cell_value.ensures)

pub returns : goal.returns
returns c =
    view-Array c.loop-cell.list
    ∙ ap (λ ds. array (items_of ds)) (c.loop-cell.invariant
    ∙ ap (cell_list 1) (take_all c.loop-cell.cell-index c.args.cells.now (omega arith)))
    ∙ ap array (items_same 1 c.args.cells.now)
