-- The verdict on what is claimed of an execution: the first fault in a fixed order, or that it is accepted.
use Rattle.std.specs.Prelude.{ℕ, ◌≡◌, ◌⊎◌, List, Option, Some, None}
use Rattle.fraction_math.specs.Fraction.{Fraction}
use Rattle.row_values.specs.Statements.{Statement}
use Rattle.plan_trees.specs.PlanSpace.{IsValidTop}
use Rattle.plan_trees.specs.Statistics.{Statistics}
use Rattle.plan_trees.specs.Trees.{TopTree}
use Rattle.cost_model.specs.Checks.{PassesSelectivityCheck, PassesCostCheck}
use Rattle.cost_model.specs.Costs.{top_cost}
use Rattle.cost_model.specs.LeastCost.{IsFeasible, FitsTable}
use Rattle.plan_costs.specs.BestPlans.{table_of_cells}
use Rattle.plan_costs.specs.LowerBounds.{LowerBounds}
use Rattle.bound_certificate.specs.declared.certificates.Cert.{Cert}
use Rattle.bound_certificate.specs.declared.certificates.Cert.TheVariants as cert
use Rattle.certificate_check.specs.declared.entries.Entry.{Entry}
use Rattle.certificate_check.specs.declared.verdicts.Verdict.{Verdict}
use Rattle.certificate_check.specs.declared.verdicts.Verdict.TheVariants.{BadPlan, BadCost, BadTable, NotLeast}
use Rattle.certificate_check.specs.declared.verdicts.Verdict.TheVariants.{UnknownAnchor, OverBound, Accepted}
use Rattle.certificate_check.specs.Bounds.{HasEachCell, IsLeastFailing}
use Rattle.certificate_check.specs.Ledgers.{entry_of}

-- Of a statement with its statistics, at a vector: this plan has this cost, which by the certificate is within the
-- ratio of the least.
pub record Claim : Type 0 where
  pub query : Statement
  pub stats : Statistics
  pub at : List ℕ
  pub lambda : Fraction
  pub top : TopTree
  pub cost : ℕ
  pub cert : Cert

abbrev pub claim_of : Statement → Statistics → List ℕ → Fraction → TopTree → ℕ → Cert → Claim
claim_of q s at lambda top cost claimed =
    record { query = q; stats = s; at = at; lambda = lambda; top = top; cost = cost; cert = claimed }

-- Optima: the certificate is a table of lower bounds.

-- the table has one cell for each set, and all its inequalities hold
pub record HasTable (q : Statement) (s : Statistics) (vector : List ℕ) (bounds : LowerBounds) : Type 0 where
  pub one_each : HasEachCell q bounds.cells
  pub feasible : IsFeasible q s vector (table_of_cells bounds.cells)

-- the cost is the table's number, and that fits it
pub record IsLowest (q : Statement) (s : Statistics) (vector : List ℕ) (cost : ℕ) (bounds : LowerBounds) : Type 0 where
  pub same : cost ≡ bounds.least
  pub fits : FitsTable q s vector (table_of_cells bounds.cells) bounds.least

-- 0 where cells are missing or too many, else the least set with an inequality that fails
abbrev pub IsBadTable : Statement → Statistics → List ℕ → LowerBounds → ℕ → Type 0
IsBadTable q s vector bounds set =
    ((set ≡ 0) × ¬ HasEachCell q bounds.cells)
    ⊎ (HasEachCell q bounds.cells × IsLeastFailing q s vector (table_of_cells bounds.cells) set)

abbrev pub IsOptimumVerdict : Statement → Statistics → List ℕ → ℕ → LowerBounds → Verdict → Type 0
IsOptimumVerdict q s vector cost bounds (BadTable set) = IsBadTable q s vector bounds set
IsOptimumVerdict q s vector cost bounds NotLeast = HasTable q s vector bounds × ¬ IsLowest q s vector cost bounds
IsOptimumVerdict q s vector cost bounds Accepted = HasTable q s vector bounds × IsLowest q s vector cost bounds
IsOptimumVerdict q s vector cost bounds verdict = ⊥

-- Reuses: the certificate names an optimum, with whose entry the check is made.

abbrev pub PassesBySelectivity : Statement → Statistics → List ℕ → Fraction → TopTree → Entry → Type 0
PassesBySelectivity q s vector lambda top entry =
    PassesSelectivityCheck lambda.num lambda.den (top_cost q s entry.at top) entry.least entry.at vector

abbrev pub PassesByCost : List ℕ → Fraction → ℕ → Entry → Type 0
PassesByCost vector lambda cost entry = PassesCostCheck lambda.num lambda.den cost entry.least entry.at vector

abbrev pub IsReuseVerdict : (Entry → Type 0) → ℕ → Option Entry → Verdict → Type 0
IsReuseVerdict Passes execution None (UnknownAnchor number) = number ≡ execution
IsReuseVerdict Passes execution (Some entry) OverBound = ¬ Passes entry
IsReuseVerdict Passes execution (Some entry) Accepted = Passes entry
IsReuseVerdict Passes execution entry verdict = ⊥

-- The verdict.

abbrev pub HasPlan : Claim → Type 0
HasPlan c = IsValidTop c.query c.stats.indexed c.top

abbrev pub HasCost : Claim → Type 0
HasCost c = c.cost ≡ top_cost c.query c.stats c.at c.top

-- where the plan is valid and has its cost
abbrev pub IsCertVerdict : List Entry → ℕ → Claim → Cert → Verdict → Type 0
IsCertVerdict ledger statement c (cert.Optimum bounds) verdict =
    IsOptimumVerdict c.query c.stats c.at c.cost bounds verdict
IsCertVerdict ledger statement c (cert.Selectivity execution) verdict =
    IsReuseVerdict (PassesBySelectivity c.query c.stats c.at c.lambda c.top) execution
    (entry_of ledger statement execution) verdict
IsCertVerdict ledger statement c (cert.Cost execution) verdict =
    IsReuseVerdict (PassesByCost c.at c.lambda c.cost) execution (entry_of ledger statement execution) verdict

-- beside a ledger, on a claim of the statement of this number
abbrev pub IsVerdict : List Entry → ℕ → Claim → Verdict → Type 0
IsVerdict ledger statement c BadPlan = ¬ HasPlan c
IsVerdict ledger statement c BadCost = HasPlan c × ¬ HasCost c
IsVerdict ledger statement c verdict = HasPlan c × HasCost c × IsCertVerdict ledger statement c c.cert verdict
