use Rattle.std.proofs.Common.{◌≡◌, map, drop, string_bytes}
use Rattle.command_words.specs.Items.{AnyWord, items_of}
use Rattle.command_words.specs.Views.{item_view, next_view}
use Rattle.command_words.proofs.Prefixed.{before}
use Rattle.command_words.proofs.items.read_items.Given as goal

-- the items so far stand before those of the words that are left
abbrev pub invariant-loop-word : goal.invariant-loop-word
invariant-loop-word l =
    before (map item_view l.items.items) (items_of (next_view l.next) (map string_bytes (drop l.word-index l.words)))
    ≡ items_of AnyWord (map string_bytes l.words)
