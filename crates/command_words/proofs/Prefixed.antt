-- Items that are read before others.
use Rattle.std.proofs.Common.{List, ◌++◌, Option, Some, None}
use Rattle.command_words.specs.Items.{Item}

-- the items before those of the other words
abbrev pub before : List Item → Option (List Item) → Option (List Item)
before items None = None
before items (Some more) = Some (items ++ more)
