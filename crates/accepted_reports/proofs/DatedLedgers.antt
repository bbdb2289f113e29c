-- The ledger of a run as the walk keeps it: what it has of executions, and how optima are entered.
use Rattle.std.proofs.Common.{ℕ, ◌≡◌, ◌∙◌, ◌≤◌, ◌<◌, ◌+◌, ◌^◌, ◌==◌, Bool, true, false, cond, List, [], ◌∷◌, ◌++◌}
use Rattle.std.proofs.Common.{find, Option, Some, None, not, ap, ap₂, refl, arith}
use Rattle.std.specs.List.{AllByRecursion}
use Rattle.std.proofs.lemmas.Bool.{and_parts, eqb-true}
use Rattle.bound_certificate.specs.Certificates.{IsExecution as IsExecutionNumber}
use Rattle.bound_certificate.specs.declared.certificates.Cert.{Cert}
use Rattle.bound_certificate.specs.declared.certificates.Cert.TheVariants as cert
use Rattle.cache_model.proofs.Lists.{each_filter, each_push, each_to}
use Rattle.catalog_model.specs.Catalogs.{StatementState, number_of}
use Rattle.certificate_check.specs.Ledgers.{is_entry, ledger_after}
use Rattle.certificate_check.specs.Verdicts.{IsReuseVerdict}
use Rattle.certificate_check.specs.declared.entries.Entry.{Entry}
use Rattle.certificate_check.specs.declared.verdicts.Verdict.TheVariants.{Accepted}
use Rattle.script_report.specs.declared.replies.Execution.{Execution}
use Rattle.session_bound.specs.Ledger.{entered_by, forgotten_for, is_read_by, with_execution}

-- an entry is of one of so many executions
pub record IsDated (executions : ℕ) (entry : Entry) : Type 0 where
  pub some : 1 ≤ entry.execution
  pub past : entry.execution ≤ executions

abbrev pub AreDated : ℕ → List Entry → Type 0
AreDated executions ledger = AllByRecursion (IsDated executions) ledger

-- the execution that an accepted certificate names is one of them
pub named_past : (Passes : Entry → Type 0) (statement execution executions : ℕ) (ledger : List Entry)
    → AreDated executions ledger → executions < 2 ^ 63
    → IsReuseVerdict Passes execution (find (is_entry statement execution) ledger) Accepted
    → IsExecutionNumber execution
named_past Passes statement execution executions [] dated few h = absurd h
named_past Passes statement execution executions (entry ∷ ledger) dated few h =
    by_test (is_entry statement execution entry) refl
    (named_past Passes statement execution executions ledger dated.1 few) h
  where
    by_test : (test : Bool) → is_entry statement execution entry ≡ test
        → (IsReuseVerdict Passes execution (find (is_entry statement execution) ledger) Accepted
        → IsExecutionNumber execution)
        → IsReuseVerdict Passes execution (cond test (Some entry) (find (is_entry statement
        execution) ledger)) Accepted
        → IsExecutionNumber execution
    by_test true is later h =
        let parts = and_parts (entry.statement == statement) (entry.execution == execution) is in
        let same : entry.execution ≡ execution = eqb-true entry.execution execution parts.1 in
        let some = dated.0.some in
        let past = dated.0.past in
        (omega (arith, same, some), omega (arith, same, past, few))
    by_test false is later h = later h

-- an optimum is entered as the walk enters it
entered_same : (e : Execution) (claimed : Cert) (ledger : List Entry) (statement number : ℕ) (vector : List ℕ)
    → e.number ≡ number → e.at ≡ vector
    → entered_by (Some statement) e claimed ledger
    ≡ ledger_after ledger
    (record { statement = statement; execution = number; at = vector; least = e.cost }) claimed Accepted
entered_same e (cert.Optimum bounds) ledger statement number vector n v =
    ap₂ (λ (k : ℕ) (at : List ℕ). ledger ++ record { statement = statement; execution = k; at = at; least = e.cost }
    ∷ []) n v
entered_same e (cert.Selectivity anchor) ledger statement number vector n v = refl
entered_same e (cert.Cost anchor) ledger statement number vector n v = refl

-- the ledger of the run is that of the walk, after an execution of the statement of this number
pub entered_by_both : (number_there : Option ℕ) (e : Execution) (ledger : List Entry) (statement number : ℕ)
    (vector : List ℕ) → number_there ≡ Some statement → e.number ≡ number → e.at ≡ vector
    → entered_by number_there e e.cert ledger
    ≡ ledger_after ledger
    (record { statement = statement; execution = number; at = vector; least = e.cost }) e.cert Accepted
entered_by_both number_there e ledger statement number vector there n v =
    ap (λ (o : Option ℕ). entered_by o e e.cert ledger) there
    ∙ entered_same e e.cert ledger statement number vector n v

-- What is kept.

pub forgotten_dated : (executions : ℕ) (table : List ℕ) (statements : List StatementState) (ledger : List Entry)
    → AreDated executions ledger → AreDated executions (forgotten_for table statements ledger)
forgotten_dated executions table statements ledger dated =
    each_filter (IsDated executions) (IsDated executions) (λ entry. not (is_read_by table statements entry.statement))
    (λ entry e h. h) ledger dated

later_dated : (executions : ℕ) (ledger : List Entry) → AreDated executions ledger → AreDated (executions + 1) ledger
later_dated executions ledger dated =
    each_to (IsDated executions) (IsDated (executions + 1))
    (λ entry h. let past = h.past in record { some = h.some; past = omega (arith, past) }) ledger dated

entered_dated : (number : Option ℕ) (e : Execution) (claimed : Cert) (executions : ℕ) (ledger : List Entry)
    → e.number ≡ executions + 1 → AreDated executions ledger
    → AreDated (executions + 1) (entered_by number e claimed ledger)
entered_dated None e claimed executions ledger now dated = later_dated executions ledger dated
entered_dated (Some statement) e (cert.Optimum bounds) executions ledger now dated =
    each_push (IsDated (executions + 1)) ledger
    (record { statement = statement; execution = e.number; at = e.at; least = e.cost })
    (later_dated executions ledger dated) (record { some = omega (arith, now); past = omega (arith, now) })
entered_dated (Some statement) e (cert.Selectivity anchor) executions ledger now dated =
    later_dated executions ledger dated
entered_dated (Some statement) e (cert.Cost anchor) executions ledger now dated = later_dated executions ledger dated

pub executed_dated : (statements : List StatementState) (e : Execution) (executions : ℕ) (ledger : List Entry)
    → e.number ≡ executions + 1 → AreDated executions ledger
    → AreDated (executions + 1) (with_execution statements e ledger)
executed_dated statements e executions ledger now dated =
    entered_dated (number_of statements e.name) e e.cert executions ledger now dated
