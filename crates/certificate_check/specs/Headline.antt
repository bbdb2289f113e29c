-- What an accepted claim is worth, for a reader who trusts nobody.
use Rattle.std.specs.Prelude.{ℕ, ◌≡◌, ◌≤◌, ◌*◌, List}
use Rattle.plan_trees.specs.PlanSpace.{IsValidTop}
use Rattle.plan_trees.specs.Statistics.{IsSoundVector}
use Rattle.cost_model.specs.Costs.{top_cost}
use Rattle.cost_model.specs.LeastCost.{IsLeastCost, IsTight}
use Rattle.plan_costs.specs.BestPlans.{table_of_cells}
use Rattle.plan_costs.specs.LowerBounds.{LowerBounds}
use Rattle.bound_certificate.specs.declared.certificates.Cert.TheVariants as cert
use Rattle.certificate_check.specs.declared.entries.Entry.{Entry}
use Rattle.certificate_check.specs.declared.verdicts.Verdict.{Verdict}
use Rattle.certificate_check.specs.declared.verdicts.Verdict.TheVariants.{Accepted}
use Rattle.certificate_check.specs.Bounds.{HasEachCell}
use Rattle.certificate_check.specs.Ledgers.{IsTrueLedger, ledger_after}
use Rattle.certificate_check.specs.Verdicts.{Claim, IsVerdict}

-- the plan is valid, its cost is as told, and that is at most the ratio times the least cost over all valid plans
pub record IsWithinBound (c : Claim) : Type 0 where
  pub valid : IsValidTop c.query c.stats.indexed c.top
  pub costs : c.cost ≡ top_cost c.query c.stats c.at c.top
  pub bound : (least : ℕ) → IsLeastCost c.query c.stats c.at least → c.cost * c.lambda.den ≤ c.lambda.num * least

-- what is accepted beside a true ledger is within the bound
abbrev pub BoundLaw : Type 0
BoundLaw =
    (ledger : List Entry) (statement : ℕ) (c : Claim) → c.lambda.den ≤ c.lambda.num
    → IsSoundVector c.query c.stats c.at → IsTrueLedger c.query c.stats statement ledger
    → IsVerdict ledger statement c Accepted → IsWithinBound c

abbrev pub entered : ℕ → ℕ → Claim → Entry
entered statement execution c =
    record { statement = statement; execution = execution; at = c.at; least = c.cost }

-- a true ledger stays true, whatever the verdict
abbrev pub LedgerLaw : Type 0
LedgerLaw =
    (ledger : List Entry) (statement execution : ℕ) (c : Claim) (verdict : Verdict)
    → IsSoundVector c.query c.stats c.at → IsTrueLedger c.query c.stats statement ledger
    → IsVerdict ledger statement c verdict
    → IsTrueLedger c.query c.stats statement (ledger_after ledger (entered statement execution c) c.cert verdict)

-- a claim has one verdict
abbrev pub OneVerdictLaw : Type 0
OneVerdictLaw =
    (ledger : List Entry) (statement : ℕ) (c : Claim) (one other : Verdict) → IsVerdict ledger statement c one
    → IsVerdict ledger statement c other → one ≡ other

-- a plan of least cost with the tight table, as an optimiser gives them
pub record IsOptimal (c : Claim) (bounds : LowerBounds) : Type 0 where
  pub valid : IsValidTop c.query c.stats.indexed c.top
  pub costs : top_cost c.query c.stats c.at c.top ≡ c.cost
  pub one_each : HasEachCell c.query bounds.cells
  pub tight : IsTight c.query c.stats c.at (table_of_cells bounds.cells) bounds.least
  pub same : bounds.least ≡ c.cost

-- it is accepted, whatever the ledger
abbrev pub OptimumLaw : Type 0
OptimumLaw =
    (ledger : List Entry) (statement : ℕ) (c : Claim) (bounds : LowerBounds) → c.cert ≡ cert.Optimum bounds
    → IsOptimal c bounds → IsVerdict ledger statement c Accepted
