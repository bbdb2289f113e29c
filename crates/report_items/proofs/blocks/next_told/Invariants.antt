use Rattle.std.proofs.Common.{◌≡◌, ◌≤◌, length}
use denote.Text.{Utf8}
use denote.Shadow.{shadow}
use Rattle.std.specs.Str.Lines.{lines}
use Rattle.report_items.specs.Blocks.{told_lines}
use Rattle.report_items.specs.Items.{items_in}
use Rattle.report_items.proofs.blocks.next_told.Given as goal

-- nothing is told so far, and no item has begun
abbrev pub invariant-loop-line : goal.invariant-loop-line
invariant-loop-line l =
    shadow (Utf8 l.rest) × (told_lines (lines l.rest) ≡ told_lines (lines l.text))
    × (items_in (lines l.rest) ≡ items_in (lines l.text)) × (length l.rest ≤ length l.text)

abbrev pub decreases-loop-line : goal.decreases-loop-line
decreases-loop-line l = length l.rest
