use Rattle.std.proofs.Common.{◌∙◌, refl}
use Rattle.std.proofs.lemmas.Option.{slice_get_read}
use Rattle.csv_tables.proofs.Rows.{cell_in_rows, cell_place, length-rows_of}
use Rattle.csv_tables.proofs.table.Table.cell.Goals as goal

pub bounds-as_slice-row : goal.bounds-as_slice-row
bounds-as_slice-row c =
    let row = rw (← c.self.view_is, length-rows_of) at c.requires.row in
    let column = rw (← c.self.view_is) at c.requires.column in
    rw (c.columns-width.ensures.value, c.as_slice.ensures.value, c.self.invariant.kept.full)
    (cell_place _ _ _ _ row column)

pub returns : goal.returns
returns c =
    let row = rw (← c.self.view_is, length-rows_of) at c.requires.row in
    let column = rw (← c.self.view_is) at c.requires.column in
    let place = rw (← c.self.invariant.kept.full) at (cell_place _ _ _ _ row column) in
    let read = rw (c.columns-width.ensures.value, c.as_slice.ensures.value) at c.index-as_slice-row.is in
    rw (← c.self.view_is)
    (cell_in_rows _ _ c.self.inside.cells.items _ _ row column
    ∙ slice_get_read c.self.inside.cells.items _ _ _ refl place read)
