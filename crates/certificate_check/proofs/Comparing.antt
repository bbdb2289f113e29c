-- What the entries of a true ledger are good for.
use Rattle.std.proofs.Common.{ℕ, ◌≡◌, ◌≤◌, ◌*◌, ◌==◌, Bool, true, false, List, All, Option, Some, sym, ◌∙◌}
use Rattle.std.proofs.Common.{subst, arith, true≢false}
use Rattle.std.proofs.lemmas.Bool.{and_parts}
use Rattle.std.proofs.lemmas.Bool.Decides.{nat_tests}
use Rattle.row_values.specs.Statements.{Statement, IsSoundQuery}
use Rattle.fraction_math.specs.Fraction.{Fraction}
use Rattle.cost_polynomials.specs.Growth.{grown_from, grown_to, shrunk_from, shrunk_to}
use Rattle.plan_trees.specs.PlanSpace.{IsValidTop}
use Rattle.plan_trees.specs.Statistics.{Statistics, IsSoundStats, IsSoundVector}
use Rattle.plan_trees.specs.Trees.{TopTree}
use Rattle.cost_model.specs.Checks.{PassesCostCheck, PassesSelectivityCheck}
use Rattle.cost_model.specs.Costs.{top_cost}
use Rattle.cost_model.proofs.CostBounds.{costs_fit}
use Rattle.cache_model.specs.Choices.{is_at_most}
use Rattle.cache_model.proofs.Counts.{counts_some}
use Rattle.cache_model.proofs.Lists.{each_from, found_is}
use Rattle.cache_model.proofs.Sizes.{vectors_fit}
use Rattle.cache_model.proofs.Tests.{fits}
use Rattle.certificate_check.specs.declared.verdicts.Verdict.TheVariants.{OverBound, Accepted}
use Rattle.certificate_check.specs.Verdicts.{IsReuseVerdict}
use Rattle.certificate_check.specs.declared.entries.Entry.{Entry}
use Rattle.certificate_check.specs.Ledgers.{IsComparable, IsTrueEntry, IsTrueLedger, entry_of, is_entry}

-- an entry may be compared with any sound vector
pub comparable : (q : Statement) (s : Statistics) (vector : List ℕ) (entry : Entry) → IsSoundQuery q
    → IsSoundStats q s → IsSoundVector q s vector → IsTrueEntry q s entry → IsComparable vector entry
comparable q s vector entry query stats sound h = record {
  least = subst (λ n. 1 ≤ n) h.least.reached.costs
      (((costs_fit q s entry.at query stats h.vector).tops h.least.reached.top h.least.reached.valid).low);
  numbers = counts_some q s entry.at h.vector;
  near = vectors_fit q s vector entry.at query stats sound h.vector;
}

pub all_comparable : (q : Statement) (s : Statistics) (vector : List ℕ) (statement : ℕ) (ledger : List Entry)
    → IsSoundQuery q → IsSoundStats q s → IsSoundVector q s vector → IsTrueLedger q s statement ledger
    → All (λ entry. entry.statement ≡ statement → IsComparable vector entry) ledger
all_comparable q s vector statement ledger query stats sound h =
    λ k d less same. comparable q s vector _ query stats sound (h k d less same)

same_number : (a b : ℕ) → (a == b) ≡ true → a ≡ b
same_number a b h = grind (arith, nat_tests)

-- what holds of all entries of a statement holds of the one that is found
pub found_entry : (P : Entry → Type 0) (ledger : List Entry) (statement execution : ℕ) (entry : Entry)
    → All (λ e. e.statement ≡ statement → P e) ledger → entry_of ledger statement execution ≡ Some entry → P entry
found_entry P ledger statement execution entry all e =
    let found = found_is (λ x. x.statement ≡ statement → P x) (is_entry statement execution) ledger entry
    (each_from (λ x. x.statement ≡ statement → P x) ledger all) e in
    found.0 (same_number entry.statement statement
    (and_parts (entry.statement == statement) (entry.execution == execution) found.1).0)

pub entry_there : (q : Statement) (s : Statistics) (ledger : List Entry) (statement execution : ℕ) (entry : Entry)
    → IsTrueLedger q s statement ledger → Some entry ≡ entry_of ledger statement execution → IsTrueEntry q s entry
entry_there q s ledger statement execution entry truth e =
    found_entry (IsTrueEntry q s) ledger statement execution entry truth (sym e)

pub cost_some : (q : Statement) (s : Statistics) (vector : List ℕ) (top : TopTree) (cost : ℕ) → IsSoundQuery q
    → IsSoundStats q s → IsSoundVector q s vector → IsValidTop q s.indexed top → cost ≡ top_cost q s vector top
    → 1 ≤ cost
cost_some q s vector top cost query stats sound valid e =
    subst (λ n. 1 ≤ n) (sym e) (((costs_fit q s vector query stats sound).tops top valid).low)

-- The checks.

pub selectivity_passed : (lambda : Fraction) (vector : List ℕ) (entry : Entry) (cost there : ℕ) (r : Bool)
    → r ≡ is_at_most (cost * grown_to vector entry.at * shrunk_from vector entry.at * lambda.den)
    (lambda.num * entry.least * grown_from vector entry.at * shrunk_to vector entry.at)
    → cost ≡ there → r ≡ true → PassesSelectivityCheck lambda.num lambda.den there entry.least entry.at vector
selectivity_passed lambda vector entry cost there r e same passing =
    subst (λ n. PassesSelectivityCheck lambda.num lambda.den n entry.least entry.at vector) same
    ((fits (cost * grown_to vector entry.at * shrunk_from vector entry.at * lambda.den)
    (lambda.num * entry.least * grown_from vector entry.at * shrunk_to vector entry.at)).0 (sym e ∙ passing))

pub selectivity_failed : (lambda : Fraction) (vector : List ℕ) (entry : Entry) (cost there : ℕ) (r : Bool)
    → r ≡ is_at_most (cost * grown_to vector entry.at * shrunk_from vector entry.at * lambda.den)
    (lambda.num * entry.least * grown_from vector entry.at * shrunk_to vector entry.at)
    → cost ≡ there → r ≡ false → ¬ PassesSelectivityCheck lambda.num lambda.den there entry.least entry.at vector
selectivity_failed lambda vector entry cost there r e same never passes =
    let here : PassesSelectivityCheck lambda.num lambda.den cost entry.least entry.at vector =
    subst (λ n. PassesSelectivityCheck lambda.num lambda.den n entry.least entry.at vector) (sym same) passes in
    true≢false (sym ((fits (cost * grown_to vector entry.at * shrunk_from vector entry.at * lambda.den)
    (lambda.num * entry.least * grown_from vector entry.at * shrunk_to vector entry.at)).1 here) ∙ sym e ∙ never)

pub cost_passed : (lambda : Fraction) (vector : List ℕ) (entry : Entry) (cost : ℕ) (r : Bool)
    → r ≡ is_at_most (cost * shrunk_from vector entry.at * lambda.den)
    (lambda.num * entry.least * shrunk_to vector entry.at)
    → r ≡ true → PassesCostCheck lambda.num lambda.den cost entry.least entry.at vector
cost_passed lambda vector entry cost r e passing =
    (fits (cost * shrunk_from vector entry.at * lambda.den)
    (lambda.num * entry.least * shrunk_to vector entry.at)).0 (sym e ∙ passing)

pub cost_failed : (lambda : Fraction) (vector : List ℕ) (entry : Entry) (cost : ℕ) (r : Bool)
    → r ≡ is_at_most (cost * shrunk_from vector entry.at * lambda.den)
    (lambda.num * entry.least * shrunk_to vector entry.at)
    → r ≡ false → ¬ PassesCostCheck lambda.num lambda.den cost entry.least entry.at vector
cost_failed lambda vector entry cost r e never passes =
    true≢false (sym ((fits (cost * shrunk_from vector entry.at * lambda.den)
    (lambda.num * entry.least * shrunk_to vector entry.at)).1 passes) ∙ sym e ∙ never)

-- Verdicts on reuses.

pub reuse_passed : (Passes : Entry → Type 0) (execution : ℕ) (found : Option Entry) (entry : Entry)
    → Some entry ≡ found → Passes entry → IsReuseVerdict Passes execution found Accepted
reuse_passed Passes execution found entry e passes =
    subst (λ o. IsReuseVerdict Passes execution o Accepted) e passes

pub reuse_failed : (Passes : Entry → Type 0) (execution : ℕ) (found : Option Entry) (entry : Entry)
    → Some entry ≡ found → ¬ Passes entry → IsReuseVerdict Passes execution found OverBound
reuse_failed Passes execution found entry e never = subst (λ o. IsReuseVerdict Passes execution o OverBound) e never
