-- Findings: what the next item of a report makes of a line that would be executed.
use Rattle.std.specs.Prelude.{ℕ, ◌≡◌, ◌==◌, ◌&&◌, List, Bool, if◌then◌else◌, Option, Some, None, Result, Ok, Err}
use Rattle.std.specs.Prelude.{MatchBool}
use Rattle.std.specs.Str.{bytes_eq}
use Rattle.certificate_check.specs.declared.entries.Entry.{Entry}
use Rattle.report_items.specs.declared.items.ReportItem.{ReportItem}
use Rattle.report_items.specs.declared.items.ReportItem.TheVariants.{Block, TooLarge, Broken}
use Rattle.report_verifier.specs.declared.rejections.Why.{Why}
use Rattle.report_verifier.specs.declared.rejections.Why.TheVariants as why

-- the line is said to have too many rows; its execution is accepted, with this ledger after it; or the report is turned
-- down
pub data Finding : Type 0 where
  SaidTooLarge : Finding
  Accepts : (ledger : List Entry) → Finding
  TurnsDown : (why : Why) → Finding

abbrev pub found : Result (List Entry) Why → Finding
found (Ok ledger) = Accepts ledger
found (Err why) = TurnsDown why

-- the texts of a plan, its cost and a certificate are judged
pub record FindsBlock (Judges : List ℕ → List ℕ → List ℕ → Result (List Entry) Why → Type 0) (plan cost cert : List ℕ)
    (finding : Finding) : Type 0 where
  pub outcome : Result (List Entry) Why
  pub judged : Judges plan cost cert outcome
  pub finds : finding ≡ found outcome

-- whether a block is for this line, statement and execution
abbrev pub is_for : ℕ → List ℕ → ℕ → ℕ → List ℕ → ℕ → Bool
is_for line name execution told named number = (told == line) && (bytes_eq named name && (number == execution))

-- the item must be for the line: it says that this had too many rows, or tells the execution of this number
abbrev pub Finds : (List ℕ → List ℕ → List ℕ → Result (List Entry) Why → Type 0) → ℕ → List ℕ → ℕ → Option ReportItem
    → Finding → Type 0
Finds Judges line name execution None finding = finding ≡ TurnsDown why.Block
Finds Judges line name execution (Some Broken) finding = finding ≡ TurnsDown why.Block
Finds Judges line name execution (Some (TooLarge told)) finding =
    finding ≡ (if told == line then SaidTooLarge else TurnsDown why.Block)
Finds Judges line name execution (Some (Block told named number plan cost cert)) finding =
    MatchBool (is_for line name execution told named number) (FindsBlock Judges plan cost cert finding)
    (finding ≡ TurnsDown why.Block)
