use Rattle.std.proofs.Common.{◌≡◌, map, drop}
use Rattle.command_words.specs.Settings.{values_of, with_value}
use Rattle.command_words.specs.Views.{item_view, text_if}
use Rattle.command_words.proofs.given.value_of.Given as goal

-- the value so far stands before those that the items left give
abbrev pub invariant-loop-item : goal.invariant-loop-item
invariant-loop-item l =
    with_value (text_if l.found) (values_of l.name (map item_view (drop l.item-index l.items)))
    ≡ values_of l.name (map item_view l.items)
