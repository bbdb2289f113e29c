-- The ledger: the executions that were accepted as optima, each with its vector and the least cost there.
use Rattle.std.specs.Prelude.{ℕ, ◌≡◌, ◌≤◌, ◌^◌, ◌==◌, ◌&&◌, Bool, not, List, [], ◌∷◌, ◌++◌, filter, find, All, Option}
use Rattle.row_values.specs.Statements.{Statement}
use Rattle.plan_trees.specs.Statistics.{Statistics, IsSoundVector}
use Rattle.cost_model.specs.LeastCost.{IsLeastCost}
use Rattle.cache_model.specs.Choices.{greater_product}
use Rattle.bound_certificate.specs.declared.certificates.Cert.{Cert}
use Rattle.bound_certificate.specs.declared.certificates.Cert.TheVariants as cert
use Rattle.certificate_check.specs.declared.entries.Entry.{Entry}
use Rattle.certificate_check.specs.declared.verdicts.Verdict.{Verdict}
use Rattle.certificate_check.specs.declared.verdicts.Verdict.TheVariants.{Accepted}

abbrev pub is_of : ℕ → Entry → Bool
is_of statement entry = entry.statement == statement

abbrev pub is_entry : ℕ → ℕ → Entry → Bool
is_entry statement execution entry = entry.statement == statement && entry.execution == execution

-- the entry of this execution of the statement
abbrev pub entry_of : List Entry → ℕ → ℕ → Option Entry
entry_of ledger statement execution = find (is_entry statement execution) ledger

-- what stays where the statement is forgotten
abbrev pub without : List Entry → ℕ → List Entry
without ledger statement = filter (λ entry. not (is_of statement entry)) ledger

-- an accepted optimum is entered; a reuse never is, and nothing that isn't accepted
abbrev pub ledger_after : List Entry → Entry → Cert → Verdict → List Entry
ledger_after ledger entry (cert.Optimum bounds) Accepted = ledger ++ entry ∷ []
ledger_after ledger entry claimed verdict = ledger

-- True ledgers.

-- the vector is sound, and no valid plan costs less there
pub record IsTrueEntry (q : Statement) (s : Statistics) (entry : Entry) : Type 0 where
  pub vector : IsSoundVector q s entry.at
  pub least : IsLeastCost q s entry.at entry.least

-- the entries of this statement are true of it and of these statistics
abbrev pub IsTrueLedger : Statement → Statistics → ℕ → List Entry → Type 0
IsTrueLedger q s statement ledger = All (λ entry. entry.statement ≡ statement → IsTrueEntry q s entry) ledger

-- the products of the checks, at an instance with this vector, are above 0 and fit
pub record IsComparable (vector : List ℕ) (entry : Entry) : Type 0 where
  pub least : 1 ≤ entry.least
  pub numbers : All (λ n. 1 ≤ n) entry.at
  pub near : greater_product vector entry.at ≤ 2 ^ 63
