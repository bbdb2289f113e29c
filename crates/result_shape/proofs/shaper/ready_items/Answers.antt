use Rattle.std.proofs.Common.{◌++◌, ◌∷◌, [], List, map, ap, ap₂, sym, ◌∙◌, subst}
use Rattle.std.specs.Prelude.{All}
use Rattle.std.proofs.lemmas.List.{take_more}
use Rattle.std.proofs.lemmas.List.Elements.{All-push}
use Rattle.row_values.specs.declared.statement.Item.{Item}
use Rattle.row_values.specs.declared.statement.Item.TheVariants.{Column}
use Rattle.csv_tables.specs.StatementTables.{rows_in, tables_in}
use Rattle.result_shape.specs.Tallies.{IsReadyItem}
use Rattle.result_shape.specs.declared.tallies.ReadyItem.{ReadyItem}
use Rattle.result_shape.proofs.Tallying.{map_snoc}
use Rattle.result_shape.proofs.shaper.ready_items.Goals as goal

pub loop-item-preserved : goal.loop-item-preserved
loop-item-preserved c = record {
  items =
      ap (map (λ (one : ReadyItem). one.item)) c.in_ok-push.ensures.items
      ∙ (map_snoc (λ (one : ReadyItem). one.item) c.loop-item.ready.items c.ready_item.result
      ∙ (ap₂ (λ (items : List Item) (item : Item). items ++ item ∷ []) c.loop-item.invariant.items
      c.ready_item.ensures.item
      ∙ sym (take_more c.args.items.now c.loop-item.item-index (Column record { place = 0; column = 0 })
      c.loop-item-test.true)));
  ready =
      subst (All (IsReadyItem (rows_in (tables_in c.args.tables.now)))) (sym c.in_ok-push.ensures.items)
      (All-push (IsReadyItem (rows_in (tables_in c.args.tables.now))) c.loop-item.ready.items c.ready_item.result
      c.loop-item.invariant.ready c.ready_item.ensures.ready);
}
