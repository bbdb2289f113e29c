-- What the calls answer that judge a block, an item and a line.
use Rattle.std.specs.Prelude.{ℕ, ◌≡◌, List, Option, Some, None, Result, Ok, Err}
use Rattle.certificate_check.specs.declared.entries.Entry.{Entry}
use Rattle.report_verifier.specs.Findings.{Accepts, Finding, SaidTooLarge, TurnsDown}
use Rattle.script_report.specs.Commands.{Reading}
use Rattle.report_verifier.specs.Walk.{Step, Walk}
use Rattle.report_verifier.specs.declared.findings.Outcome.{Outcome}
use Rattle.report_verifier.specs.declared.findings.Outcome.TheVariants as outcome
use Rattle.report_verifier.specs.declared.rejections.Stop.{Stop}
use Rattle.report_verifier.specs.declared.rejections.Stop.TheVariants as stop
use Rattle.report_verifier.specs.declared.rejections.Why.{Why}

-- why the report is turned down; or else this ledger
abbrev pub told : Option Why → List Entry → Result (List Entry) Why
told None ledger = Ok ledger
told (Some why) ledger = Err why

-- what was found; this is the ledger after it
abbrev pub seen : Outcome → List Entry → Finding
seen outcome.TooLarge ledger = SaidTooLarge
seen outcome.Accepted ledger = Accepts ledger
seen (outcome.TurnedDown why) ledger = TurnsDown why

-- why the report is turned down; or else where the walk goes on
abbrev pub led : Option Why → Walk → Result Walk Why
led None walk = Ok walk
led (Some why) walk = Err why

-- one step of the walk was made; or the report is turned down at this line; or memory was short
abbrev pub Checks : Walk → ℕ → Reading → Option (List ℕ) → Result (Unit {0}) Stop → Walk → Type 0
Checks old line reading file (Ok done) new = Step old line reading file (Ok new)
Checks old line reading file (Err (stop.Rejected rejection)) new =
    (rejection.line ≡ line) × Step old line reading file (Err rejection.why)
Checks old line reading file (Err stop.Memory) new = Unit {0}
