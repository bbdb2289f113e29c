use Rattle.std.proofs.Common.{◌≡◌, ◌∷◌, [], List, length, map, take}
use Rattle.std.specs.Prelude.{All}
use Rattle.row_values.specs.declared.values.Value.{Value}
use Rattle.result_shape.specs.Tallies.{AreTalliesOf, IsReadyItem}
use Rattle.result_shape.proofs.tallies.first_tallies.Given as goal

-- the tallies of the items so far
abbrev pub invariant-loop-item : goal.invariant-loop-item
invariant-loop-item l = record {
  count : length l.tallies.items ≡ l.item-index;
  each : (tables : List (List (List Value))) → All (IsReadyItem tables) l.items
      → AreTalliesOf tables l.c (l.c ∷ []) (map (λ ready. ready.item) (take l.item-index l.items)) l.tallies.items;
}
