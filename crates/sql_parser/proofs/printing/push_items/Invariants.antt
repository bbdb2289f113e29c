use denote.Text.{Utf8}
use denote.Shadow.{shadow}
use Rattle.std.proofs.Common.{◌≡◌, ◌++◌, drop, string_bytes}
use Rattle.sql_parser.specs.Canonical.{listed_text, item_text}
use Rattle.sql_parser.proofs.printing.push_items.Given as goal

-- the parts that are left complete the spelling
abbrev pub invariant-loop-part : goal.invariant-loop-part
invariant-loop-part l = shadow (Utf8 l.before)
    × (string_bytes l.out ++ listed_text l.before l.separator item_text (drop l.part-index l.items)
    ≡ string_bytes l.fn.out ++ listed_text l.word l.separator item_text l.items)
