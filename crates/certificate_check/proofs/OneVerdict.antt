-- A claim has one verdict.
use Rattle.std.proofs.Common.{ℕ, ◌≡◌, ◌≤◌, ◌<◌, ◌⊎◌, inl, inr, List, Option, Some, None, refl, ap, sym, ◌∙◌, arith}
use Rattle.std.proofs.lemmas.Bool.{cases_lt}
use Rattle.row_values.specs.Statements.{Statement}
use Rattle.plan_trees.specs.Statistics.{Statistics}
use Rattle.cost_model.specs.LeastCost.{Table}
use Rattle.plan_costs.specs.BestPlans.{table_of_cells}
use Rattle.plan_costs.specs.LowerBounds.{LowerBounds}
use Rattle.bound_certificate.specs.declared.certificates.Cert.{Cert}
use Rattle.bound_certificate.specs.declared.certificates.Cert.TheVariants.{Optimum, Selectivity, Cost}
use Rattle.certificate_check.specs.declared.entries.Entry.{Entry}
use Rattle.certificate_check.specs.declared.verdicts.Verdict.{Verdict}
use Rattle.certificate_check.specs.declared.verdicts.Verdict.TheVariants.{BadPlan, BadCost, BadTable, NotLeast}
use Rattle.certificate_check.specs.declared.verdicts.Verdict.TheVariants.{UnknownAnchor, OverBound, Accepted}
use Rattle.certificate_check.specs.Bounds.{IsLeastFailing}
use Rattle.certificate_check.specs.Ledgers.{entry_of}
use Rattle.certificate_check.specs.Verdicts.{Claim, HasTable, IsBadTable, IsCertVerdict, IsOptimumVerdict}
use Rattle.certificate_check.specs.Verdicts.{IsReuseVerdict, IsVerdict, PassesByCost, PassesBySelectivity}

-- Reuses.

one_unknown : (Passes : Entry → Type 0) (execution number : ℕ) (other : Verdict) → number ≡ execution
    → IsReuseVerdict Passes execution None other → UnknownAnchor number ≡ other
one_unknown Passes execution number (UnknownAnchor named) h k = ap UnknownAnchor (h ∙ sym k)
one_unknown Passes execution number other h k = absurd k

one_over : (Passes : Entry → Type 0) (execution : ℕ) (entry : Entry) (other : Verdict) → ¬ Passes entry
    → IsReuseVerdict Passes execution (Some entry) other → OverBound ≡ other
one_over Passes execution entry OverBound h k = refl
one_over Passes execution entry Accepted h k = absurd (h k)
one_over Passes execution entry other h k = absurd k

one_passed : (Passes : Entry → Type 0) (execution : ℕ) (entry : Entry) (other : Verdict) → Passes entry
    → IsReuseVerdict Passes execution (Some entry) other → Accepted ≡ other
one_passed Passes execution entry OverBound h k = absurd (k h)
one_passed Passes execution entry Accepted h k = refl
one_passed Passes execution entry other h k = absurd k

one_reuse : (Passes : Entry → Type 0) (execution : ℕ) (found : Option Entry) (one other : Verdict)
    → IsReuseVerdict Passes execution found one → IsReuseVerdict Passes execution found other → one ≡ other
one_reuse Passes execution None (UnknownAnchor number) other h k = one_unknown Passes execution number other h k
one_reuse Passes execution None one other h k = absurd h
one_reuse Passes execution (Some entry) OverBound other h k = one_over Passes execution entry other h k
one_reuse Passes execution (Some entry) Accepted other h k = one_passed Passes execution entry other h k
one_reuse Passes execution (Some entry) one other h k = absurd h

-- Optima.

least_by : (q : Statement) (s : Statistics) (vector : List ℕ) (table : Table) (one other : ℕ)
    → IsLeastFailing q s vector table one → IsLeastFailing q s vector table other → (one < other) ⊎ (other ≤ one)
    → (other < one) ⊎ (one ≤ other) → one ≡ other
least_by q s vector table one other h k (inl less) more = absurd (h.fails (k.none_below one h.there less))
least_by q s vector table one other h k (inr low) (inl less) = absurd (k.fails (h.none_below other k.there less))
least_by q s vector table one other h k (inr low) (inr high) = omega arith

same_set : (q : Statement) (s : Statistics) (vector : List ℕ) (bounds : LowerBounds) (one other : ℕ)
    → IsBadTable q s vector bounds one → IsBadTable q s vector bounds other → one ≡ other
same_set q s vector bounds one other (inl h) (inl k) = h.0 ∙ sym k.0
same_set q s vector bounds one other (inl h) (inr k) = absurd (h.1 k.0)
same_set q s vector bounds one other (inr h) (inl k) = absurd (k.1 h.0)
same_set q s vector bounds one other (inr h) (inr k) =
    least_by q s vector (table_of_cells bounds.cells) one other h.1 k.1 (cases_lt one other) (cases_lt other one)

not_bad : (q : Statement) (s : Statistics) (vector : List ℕ) (bounds : LowerBounds) (set : ℕ)
    → IsBadTable q s vector bounds set → ¬ HasTable q s vector bounds
not_bad q s vector bounds set (inl h) table = h.1 table.one_each
not_bad q s vector bounds set (inr h) table = h.1.fails (table.feasible set h.1.there)

one_bad : (q : Statement) (s : Statistics) (vector : List ℕ) (cost : ℕ) (bounds : LowerBounds) (set : ℕ)
    (other : Verdict) → IsBadTable q s vector bounds set → IsOptimumVerdict q s vector cost bounds other
    → BadTable set ≡ other
one_bad q s vector cost bounds set (BadTable named) h k = ap BadTable (same_set q s vector bounds set named h k)
one_bad q s vector cost bounds set NotLeast h k = absurd (not_bad q s vector bounds set h k.0)
one_bad q s vector cost bounds set Accepted h k = absurd (not_bad q s vector bounds set h k.0)
one_bad q s vector cost bounds set other h k = absurd k

one_optimum : (q : Statement) (s : Statistics) (vector : List ℕ) (cost : ℕ) (bounds : LowerBounds)
    (one other : Verdict) → IsOptimumVerdict q s vector cost bounds one
    → IsOptimumVerdict q s vector cost bounds other → one ≡ other
one_optimum q s vector cost bounds (BadTable set) other h k = one_bad q s vector cost bounds set other h k
one_optimum q s vector cost bounds NotLeast (BadTable set) h k = absurd (not_bad q s vector bounds set k h.0)
one_optimum q s vector cost bounds NotLeast NotLeast h k = refl
one_optimum q s vector cost bounds NotLeast Accepted h k = absurd (h.1 k.1)
one_optimum q s vector cost bounds NotLeast other h k = absurd k
one_optimum q s vector cost bounds Accepted (BadTable set) h k = absurd (not_bad q s vector bounds set k h.0)
one_optimum q s vector cost bounds Accepted NotLeast h k = absurd (k.1 h.1)
one_optimum q s vector cost bounds Accepted Accepted h k = refl
one_optimum q s vector cost bounds Accepted other h k = absurd k
one_optimum q s vector cost bounds one other h k = absurd h

-- Claims.

one_certified : (ledger : List Entry) (statement : ℕ) (c : Claim) (claimed : Cert) (one other : Verdict)
    → IsCertVerdict ledger statement c claimed one → IsCertVerdict ledger statement c claimed other → one ≡ other
one_certified ledger statement c (Optimum bounds) one other h k =
    one_optimum c.query c.stats c.at c.cost bounds one other h k
one_certified ledger statement c (Selectivity execution) one other h k =
    one_reuse (PassesBySelectivity c.query c.stats c.at c.lambda c.top) execution
    (entry_of ledger statement execution) one other h k
one_certified ledger statement c (Cost execution) one other h k =
    one_reuse (PassesByCost c.at c.lambda c.cost) execution (entry_of ledger statement execution) one other h k

pub one_verdict : (ledger : List Entry) (statement : ℕ) (c : Claim) (one other : Verdict)
    → IsVerdict ledger statement c one → IsVerdict ledger statement c other → one ≡ other
one_verdict ledger statement c BadPlan BadPlan h k = refl
one_verdict ledger statement c BadPlan other h k = absurd (h k.0)
one_verdict ledger statement c BadCost BadPlan h k = absurd (k h.0)
one_verdict ledger statement c BadCost BadCost h k = refl
one_verdict ledger statement c BadCost other h k = absurd (h.1 k.1)
one_verdict ledger statement c one BadPlan h k = absurd (k h.0)
one_verdict ledger statement c one BadCost h k = absurd (k.1 h.1)
one_verdict ledger statement c one other h k =
    one_certified ledger statement c c.cert one other h.2 k.2
