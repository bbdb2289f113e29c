use Rattle.std.proofs.Common.{rules, ◌++◌, ◌∷◌, [], List, get_or, map, take, sym, subst}
use Rattle.std.proofs.lemmas.List.{take_all}
use Rattle.row_values.specs.declared.statement.Item.{Item}
use Rattle.result_shape.specs.Tallies.{AreTalliesOf, IsReadyItem, IsTallyOf}
use Rattle.result_shape.specs.declared.tallies.ReadyItem.{ReadyItem}
use Rattle.result_shape.specs.declared.tallies.Tally.{Tally}
use Rattle.result_shape.proofs.Tallying.{map_more, tallies_push}
use Rattle.result_shape.proofs.tallies.first_tallies.Goals as goal

pub loop-item-preserved : goal.loop-item-preserved
loop-item-preserved c = record {
  count = search rules;
  each =
      λ tables ready.
      let column = subst (IsReadyItem tables) (sym c.item-item.is)
      (ready c.loop-item.item-index c.item-item.result c.loop-item-test.true) in
      let shown = map_more (λ (one : ReadyItem). one.item) c.args.items.now c.loop-item.item-index c.item-item.result
      c.loop-item-test.true in
      subst (λ (items : List Item). AreTalliesOf tables c.args.c.now (c.args.c.now ∷ []) items c.push.new.self.items)
      (sym shown)
      (subst (λ (tallies : List Tally). AreTalliesOf tables c.args.c.now (c.args.c.now ∷ [])
      (map (λ (one : ReadyItem). one.item) (take c.loop-item.item-index c.args.items.now)
      ++ (get_or c.args.items.now c.loop-item.item-index c.item-item.result).item ∷ []) tallies)
      (sym c.in_ok-push.ensures.items)
      (tallies_push tables c.args.c.now (c.args.c.now ∷ []) (map (λ (one : ReadyItem). one.item)
      (take c.loop-item.item-index c.args.items.now))
      (get_or c.args.items.now c.loop-item.item-index c.item-item.result).item c.loop-item.tallies.items
      c.first_tally.result (c.loop-item.invariant.each tables ready)
      (subst (λ (one : ReadyItem). IsTallyOf tables c.args.c.now (c.args.c.now ∷ []) one.item c.first_tally.result)
      c.item-item.is (c.first_tally.ensures tables column))));
}

pub returns-clause-tallies : goal.returns-clause-tallies
returns-clause-tallies c =
    λ tables ready.
    subst (λ (items : List ReadyItem). AreTalliesOf tables c.args.c.now (c.args.c.now ∷ [])
    (map (λ (one : ReadyItem). one.item) items) c.loop-item.tallies.items)
    (take_all c.loop-item.item-index c.args.items.now c.loop-item-test.false)
    (c.loop-item.invariant.each tables ready)
