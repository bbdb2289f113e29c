use Rattle.std.proofs.Common.{◌≡◌, map, take}
use Rattle.serde_json.specs.View.{view}
use Rattle.bound_certificate.proofs.Cells.{cell_list}
use Rattle.bound_certificate.proofs.writing.table_value.Given as goal

-- the cells so far have their values
abbrev pub invariant-loop-cell : goal.invariant-loop-cell
invariant-loop-cell l = map view l.list.items ≡ cell_list 1 (take l.cell-index l.cells)
