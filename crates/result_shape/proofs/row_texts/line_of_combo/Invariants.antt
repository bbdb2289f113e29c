use Rattle.std.proofs.Common.{◌≡◌, ◌∷◌, [], take}
use Rattle.csv_tables.specs.StatementTables.{rows_in, tables_in}
use Rattle.statement_meaning.specs.Meaning.{shown_row}
use Rattle.result_shape.specs.Tallies.{tallies_shown}
use Rattle.result_shape.proofs.row_texts.line_of_combo.Given as goal

abbrev pub invariant-loop-item : goal.invariant-loop-item
invariant-loop-item l =
    tallies_shown (rows_in (tables_in l.tables)) l.line.items
    ≡ shown_row (rows_in (tables_in l.tables)) (take l.item-index l.items) (l.combo ∷ []) l.combo
