-- A block that is for the line is judged by its texts.
use Rattle.std.proofs.Common.{ℕ, ◌≡◌, List, Option, Some, Result, true, sym, subst}
use Rattle.certificate_check.specs.declared.entries.Entry.{Entry}
use Rattle.report_items.specs.declared.items.ReportItem.{ReportItem}
use Rattle.report_items.specs.declared.items.ReportItem.TheVariants.{Block}
use Rattle.report_verifier.specs.Findings.{Finding, Finds, found, is_for}
use Rattle.report_verifier.specs.declared.rejections.Why.{Why}

pub found_block : (Judges : List ℕ → List ℕ → List ℕ → Result (List Entry) Why → Type 0) (line : ℕ) (name : List ℕ)
    (execution told : ℕ) (named : List ℕ) (number : ℕ) (plan cost cert : List ℕ) (outcome : Result (List Entry) Why)
    (finding : Finding) (item : Option ReportItem) → item ≡ Some (Block told named number plan cost cert)
    → is_for line name execution told named number ≡ true → Judges plan cost cert outcome → finding ≡ found outcome
    → Finds Judges line name execution item finding
found_block Judges line name execution told named number plan cost cert outcome finding item is meant judged finds =
    subst (λ (i : Option ReportItem). Finds Judges line name execution i finding) (sym is)
    (rw meant (record { outcome = outcome; judged = judged; finds = finds }))
