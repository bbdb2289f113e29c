use Rattle.std.proofs.Common.{◌≡◌, ◌++◌, map, drop}
use Rattle.command_words.specs.Settings.{positionals_of}
use Rattle.command_words.specs.Views.{item_view}
use Rattle.command_words.proofs.given.positionals_of.Given as goal

-- the words so far stand before those of the items left
abbrev pub invariant-loop-item : goal.invariant-loop-item
invariant-loop-item l =
    map (λ word. word.now) l.words.items ++ positionals_of (map item_view (drop l.item-index l.items))
    ≡ positionals_of (map item_view l.items)
