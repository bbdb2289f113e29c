use Rattle.std.proofs.Common.{◌++◌, ◌∷◌, [], List, ap, ap₂, sym, ◌∙◌}
use Rattle.csv_tables.specs.StatementTables.{rows_in, tables_in}
use Rattle.row_values.specs.declared.statement.Item.TheVariants.{Column}
use Rattle.statement_meaning.specs.Meaning.{Shown, shown_item}
use Rattle.result_shape.specs.Tallies.{tallies_shown, tally_shown}
use Rattle.result_shape.proofs.Tallying.{alone_shown, map_more, map_snoc}
use Rattle.result_shape.proofs.row_texts.line_of_combo.Goals as goal

pub loop-item-preserved : goal.loop-item-preserved
loop-item-preserved c =
    ap (tallies_shown (rows_in (tables_in c.args.tables.now))) c.in_ok-push.ensures.items
    ∙ (map_snoc (tally_shown (rows_in (tables_in c.args.tables.now))) c.loop-item.line.items c.first_tally.result
    ∙ (ap₂ (λ (row : List Shown) (shown : Shown). row ++ shown ∷ []) c.loop-item.invariant
    (alone_shown (rows_in (tables_in c.args.tables.now)) c.args.combo c.ready_item.result.item c.first_tally.result
    (c.first_tally.ensures (rows_in (tables_in c.args.tables.now)) c.ready_item.ensures.ready)
    ∙ ap (shown_item (rows_in (tables_in c.args.tables.now)) c.args.combo (c.args.combo ∷ []))
    c.ready_item.ensures.item)
    ∙ sym (map_more (shown_item (rows_in (tables_in c.args.tables.now)) c.args.combo (c.args.combo ∷ []))
    c.args.items.now c.loop-item.item-index (Column record { place = 0; column = 0 }) c.loop-item-test.true)))
