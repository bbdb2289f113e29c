-- The items of a report: the executions that it tells, and the lines that it says had too many rows, in order.
use Rattle.std.specs.Prelude.{ℕ, List, [], ◌∷◌, Option, Some, None, if◌then◌else◌}
use Rattle.std.specs.Option.{option_map_or}
use Rattle.std.specs.Str.Lines.{lines}
use Rattle.report_items.specs.Blocks.{claim_in}
use Rattle.report_items.specs.Heads.{heading_of, is_head, is_of_execution, too_large_in}
use Rattle.report_items.specs.declared.blocks.Claim.{Claim}
use Rattle.report_items.specs.declared.heads.Heading.{Heading}
use Rattle.report_items.specs.declared.items.ReportItem.{ReportItem}
use Rattle.report_items.specs.declared.items.ReportItem.TheVariants.{Block, TooLarge, Broken}

-- an execution with its claim, which is broken where it has none
abbrev pub claimed : Heading → Option Claim → ReportItem
claimed heading None = Broken
claimed heading (Some claim) = Block heading.line heading.name heading.number claim.plan claim.cost claim.cert

-- the execution of this head, by the lines behind it
abbrev pub block_of : Heading → List (List ℕ) → ReportItem
block_of heading lines = claimed heading (claim_in lines)

-- a head that isn't of the form of an execution
abbrev pub unformed : List ℕ → Option ReportItem
unformed head = if is_of_execution head then Some Broken else None

-- an execution, where the head has its form
abbrev pub execution_at : List ℕ → List (List ℕ) → Option ReportItem
execution_at head lines = option_map_or (λ heading. Some (block_of heading lines)) (heading_of head) (unformed head)

-- the item that a head begins, by the lines behind it; none where it is of another reply
unfoldable pub item_at : List ℕ → List (List ℕ) → Option ReportItem
item_at head lines = option_map_or (λ line. Some (TooLarge line)) (too_large_in head) (execution_at head lines)

-- one item more in front, if there is one
abbrev pub pushed : Option ReportItem → List ReportItem → List ReportItem
pushed None items = items
pushed (Some item) items = item ∷ items

-- the items that the heads among these lines begin; other lines begin none
abbrev pub items_in : List (List ℕ) → List ReportItem
items_in [] = []
items_in (line ∷ lines) = if is_head line then pushed (item_at line lines) (items_in lines) else items_in lines

-- the items of a report's text
unfoldable pub items_of : List ℕ → List ReportItem
items_of text = items_in (lines text)
