-- Claims: what a block says of an execution, and what comes of it.
use Rattle.std.specs.Prelude.{ℕ, ◌≡◌, ◌<◌, ◌^◌, ◌⊎◌, List, Result, Ok, Err}
use Rattle.std.specs.Fmt.{decimal}
use Rattle.row_values.specs.Statements.{Statement}
use Rattle.plan_trees.specs.Spelling.{IsPlanText}
use Rattle.plan_trees.specs.Trees.{TopTree}
use Rattle.bound_certificate.specs.Certificates.{IsCertificate, IsTextOf}
use Rattle.bound_certificate.specs.declared.certificates.Cert.{Cert}
use Rattle.certificate_check.specs.Headline.{entered}
use Rattle.certificate_check.specs.Ledgers.{ledger_after}
use Rattle.certificate_check.specs.Verdicts.{Claim, IsVerdict}
use Rattle.certificate_check.specs.declared.entries.Entry.{Entry}
use Rattle.certificate_check.specs.declared.verdicts.Verdict.{Verdict}
use Rattle.certificate_check.specs.declared.verdicts.Verdict.TheVariants as verdict
use Rattle.report_verifier.specs.declared.rejections.Why.{Why}
use Rattle.report_verifier.specs.declared.rejections.Why.TheVariants as why

-- What texts say.

-- a decimal number below 2^128, without a zero in front
pub record IsCostText (text : List ℕ) (cost : ℕ) : Type 0 where
  pub spelled : text ≡ decimal cost
  pub small : cost < 2 ^ 128

-- JSON of a certificate
pub record IsCertText (text : List ℕ) (claimed : Cert) : Type 0 where
  pub certificate : IsCertificate claimed
  pub spelled : IsTextOf claimed text

-- nothing is spelled, and this comes of it; or something is, and that comes of it
abbrev pub Reads : {A : Type 0} → (A → Type 0) → Type 0 → (A → Type 0) → Type 0
Reads {A = A} Spells none some = (((a : A) → ¬ Spells a) × none) ⊎ ((a : A) × Spells a × some a)

-- What comes of a verdict: the ledger after it where the claim is accepted, or why the report is turned down.

abbrev pub Follows : List Entry → Verdict → Result (List Entry) Why → Type 0
Follows ledger verdict.Accepted outcome = outcome ≡ Ok ledger
Follows ledger verdict.BadPlan outcome = outcome ≡ Err why.BadPlan
Follows ledger verdict.BadCost outcome = outcome ≡ Err why.BadCost
Follows ledger (verdict.BadTable set) outcome = outcome ≡ Err (why.BadTable set)
Follows ledger verdict.NotLeast outcome = outcome ≡ Err why.NotLeast
Follows ledger (verdict.UnknownAnchor execution) outcome = outcome ≡ Err (why.UnknownAnchor execution)
Follows ledger verdict.OverBound outcome = outcome ≡ Err why.OverBound
Follows ledger verdict.Memory outcome = ⊥

-- the claim of this execution of the statement of this number is judged beside the ledger; an accepted optimum is
-- entered
pub record IsJudged (ledger : List Entry) (statement execution : ℕ) (c : Claim) (outcome : Result (List Entry) Why)
    : Type 0 where
  pub verdict : Verdict
  pub is_verdict : IsVerdict ledger statement c verdict
  pub follows : Follows (ledger_after ledger (entered statement execution c) c.cert verdict) verdict outcome

-- the texts of the plan, its cost and the certificate are read in this order, and the claim that they make is judged
abbrev pub IsBlockJudged : List Entry → ℕ → ℕ → Statement → (TopTree → ℕ → Cert → Claim) → List ℕ → List ℕ → List ℕ
    → Result (List Entry) Why → Type 0
IsBlockJudged ledger statement execution q claims plan cost cert outcome =
    Reads (IsPlanText q plan) (outcome ≡ Err why.BadPlan) (λ top.
    Reads (IsCostText cost) (outcome ≡ Err why.BadCost) (λ paid.
    Reads (IsCertText cert) (outcome ≡ Err why.Block) (λ claimed.
    IsJudged ledger statement execution (claims top paid claimed) outcome)))
