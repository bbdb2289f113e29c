-- A ledger stays true: what reads a table that changes is forgotten, and of the rest nothing has changed.
use Rattle.std.proofs.Common.{ℕ, zero, suc, ◌≡◌, ◌≢◌, ◌≤◌, ◌+◌, ◌⊎◌, inl, inr, List, [], ◌∷◌, ◌++◌, length, slice_get}
use Rattle.std.proofs.Common.{Some}
use Rattle.std.proofs.Common.{◌∙◌, ◌<◌, Bool, true, false, refl, sym, subst, subst₂, arith, length-append}
use Rattle.std.proofs.Common.{if◌then◌else◌}
use Rattle.std.proofs.lemmas.Bool.{cases_eq}
use Rattle.std.proofs.lemmas.Option.{none-some, same_Some}
use Rattle.row_values.specs.Statements.{Statement}
use Rattle.plan_trees.specs.Statistics.{Statistics}
use Rattle.catalog_model.specs.Catalogs.{Catalog, StatementState, Version, reads_table, stats_now, with_index}
use Rattle.catalog_model.specs.Catalogs.{with_statement, with_version}
use Rattle.catalog_model.proofs.Unread.{indexed_unread, loaded_unread}
use Rattle.certificate_check.specs.Ledgers.{IsTrueLedger, without}
use Rattle.certificate_check.specs.declared.entries.Entry.{Entry}
use Rattle.certificate_check.proofs.Judging.{forgotten, rest_true}
use Rattle.report_verifier.specs.Truth.{IsTrueIn}
use Rattle.report_verifier.specs.Walk.{forgotten_for, forgotten_from}

-- Forgetting.

-- what may be forgotten stays as true as it was
left_true : (read : Bool) (ledger : List Entry) (number other : ℕ) (q : Statement) (s : Statistics)
    → IsTrueLedger q s other ledger → IsTrueLedger q s other (if read then without ledger number else ledger)
left_true true ledger number other q s truth = rest_true ledger number other q s truth
left_true false ledger number other q s truth = truth

rest_of : (number : ℕ) (table : List ℕ) (statements : List StatementState) (ledger : List Entry) (other : ℕ)
    (q : Statement) (s : Statistics) → IsTrueLedger q s other ledger
    → IsTrueLedger q s other (forgotten_from number table statements ledger)
rest_of number table [] ledger other q s truth = truth
rest_of number table (prepared ∷ others) ledger other q s truth =
    rest_of (number + 1) table others
    (if reads_table table prepared.statement.places then without ledger number else ledger) other q s
    (left_true (reads_table table prepared.statement.places) ledger number other q s truth)

gone : (read : Bool) (ledger : List Entry) (number : ℕ) (q : Statement) (s : Statistics) → read ≡ true
    → IsTrueLedger q s number (if read then without ledger number else ledger)
gone read ledger number q s e = rw e (forgotten ledger number q s)

-- of a statement that reads the table nothing is left
none_of : (first : ℕ) (table : List ℕ) (statements : List StatementState) (ledger : List Entry) (k number : ℕ)
    (prepared : StatementState) → number ≡ first + k → slice_get statements k ≡ Some prepared
    → reads_table table prepared.statement.places ≡ true → (q : Statement) (s : Statistics)
    → IsTrueLedger q s number (forgotten_from first table statements ledger)
none_of first table [] ledger k number prepared same there reads q s = absurd (none-some prepared there)
none_of first table (one ∷ others) ledger zero number prepared same there reads q s =
    let this : reads_table table one.statement.places ≡ true =
    subst (λ (p : StatementState). reads_table table p.statement.places ≡ true) (sym (same_Some one prepared there))
    reads
    in
    let here : number ≡ first = omega (arith, same) in
    rest_of (first + 1) table others
    (if reads_table table one.statement.places then without ledger first else ledger) number q s
    (subst (λ n. IsTrueLedger q s n (if reads_table table one.statement.places then without ledger first else ledger))
    (sym here) (gone (reads_table table one.statement.places) ledger first q s this))
none_of first table (one ∷ others) ledger (suc k) number prepared same there reads q s =
    none_of (first + 1) table others
    (if reads_table table one.statement.places then without ledger first else ledger) k number prepared
    (omega (arith, same)) there reads q s

-- Changes of tables.

-- a statement's statistics have changed only if it reads the table
changed_true : (table : List ℕ) (statements : List StatementState) (ledger : List Entry) (number : ℕ)
    (prepared : StatementState) (before now : Statistics) → slice_get statements number ≡ Some prepared
    → (reads_table table prepared.statement.places ≡ false → now ≡ before)
    → IsTrueLedger prepared.statement before number ledger
    → IsTrueLedger prepared.statement now number (forgotten_for table statements ledger)
changed_true table statements ledger number prepared before now there unread truth =
    by_test (reads_table table prepared.statement.places) refl
  where
    by_test : (read : Bool) → reads_table table prepared.statement.places ≡ read
        → IsTrueLedger prepared.statement now number (forgotten_for table statements ledger)
    by_test true e =
        none_of 0 table statements ledger number number prepared (omega arith) there e prepared.statement now
    by_test false e =
        subst (λ (s : Statistics). IsTrueLedger prepared.statement s number (forgotten_for table statements ledger))
        (sym (unread e)) (rest_of 0 table statements ledger number prepared.statement before truth)

pub loaded_true : (catalog : Catalog) (ledger : List Entry) (table : List ℕ) (version : Version)
    → IsTrueIn catalog ledger
    → IsTrueIn (with_version catalog table version) (forgotten_for table catalog.statements ledger)
loaded_true catalog ledger table version truth = record {
  of_each = λ number prepared there. changed_true table catalog.statements ledger number prepared
      (stats_now catalog.tables catalog.weights prepared.statement)
      (stats_now (with_version catalog table version).tables catalog.weights prepared.statement) there
      (loaded_unread catalog.tables table version catalog.weights prepared.statement)
      (truth.of_each number prepared there);
  of_none = λ number late q s. rest_of 0 table catalog.statements ledger number q s (truth.of_none number late q s);
}

pub indexed_true : (catalog : Catalog) (ledger : List Entry) (table : List ℕ) (column : ℕ) → IsTrueIn catalog ledger
    → IsTrueIn (with_index catalog table column) (forgotten_for table catalog.statements ledger)
indexed_true catalog ledger table column truth = record {
  of_each = λ number prepared there. changed_true table catalog.statements ledger number prepared
      (stats_now catalog.tables catalog.weights prepared.statement)
      (stats_now (with_index catalog table column).tables catalog.weights prepared.statement) there
      (indexed_unread catalog.tables table column catalog.weights prepared.statement)
      (truth.of_each number prepared there);
  of_none = λ number late q s. rest_of 0 table catalog.statements ledger number q s (truth.of_none number late q s);
}

-- Preparations.

last_or_before : {X : Type 0} (xs : List X) (last x : X) (number : ℕ) → slice_get (xs ++ last ∷ []) number ≡ Some x
    → (slice_get xs number ≡ Some x) ⊎ (length xs ≤ number)
last_or_before [] last x number there = inr (omega arith)
last_or_before (first ∷ xs) last x zero there = inl there
last_or_before (first ∷ xs) last x (suc number) there = later (last_or_before xs last x number there)
  where
    later : (slice_get xs number ≡ Some x) ⊎ (length xs ≤ number)
        → (slice_get (first ∷ xs) (suc number) ≡ Some x) ⊎ (length (first ∷ xs) ≤ suc number)
    later (inl h) = inl h
    later (inr h) = inr (omega (arith, h))

longer : {X : Type 0} (xs : List X) (last : X) (n : ℕ) → length (xs ++ last ∷ []) ≤ n → length xs ≤ n
longer xs last n h = let e = simp length-append at h in omega (arith, e)

pub prepared_true : (catalog : Catalog) (ledger : List Entry) (name : List ℕ) (q : Statement) → IsTrueIn catalog ledger
    → IsTrueIn (with_statement catalog name q) ledger
prepared_true catalog ledger name q truth = record {
  of_each = λ number prepared there. each number prepared
      (last_or_before catalog.statements (record { name = name; statement = q }) prepared number there);
  of_none = λ number late. truth.of_none number
      (longer catalog.statements (record { name = name; statement = q }) number late);
}
  where
    each : (number : ℕ) (prepared : StatementState)
        → (slice_get catalog.statements number ≡ Some prepared) ⊎ (length catalog.statements ≤ number)
        → IsTrueLedger prepared.statement (stats_now catalog.tables catalog.weights prepared.statement) number ledger
    each number prepared (inl h) = truth.of_each number prepared h
    each number prepared (inr late) =
        truth.of_none number late prepared.statement (stats_now catalog.tables catalog.weights prepared.statement)

-- Executions.

-- a ledger that is true of one statement, and as true of others as it was
pub record IsTrueAfter (q : Statement) (s : Statistics) (statement : ℕ) (old new : List Entry) : Type 0 where
  pub of_it : IsTrueLedger q s statement new
  pub of_others : (query : Statement) (numbers : Statistics) (other : ℕ) → other ≢ statement
      → IsTrueLedger query numbers other old → IsTrueLedger query numbers other new

pub there_below : {X : Type 0} (xs : List X) (k : ℕ) (x : X) → slice_get xs k ≡ Some x → k < length xs
there_below [] k x there = absurd (none-some x there)
there_below (first ∷ xs) zero x there = omega arith
there_below (first ∷ xs) (suc k) x there = let less = there_below xs k x there in omega (arith, less)

pub executed_true : (catalog : Catalog) (old new : List Entry) (statement : ℕ) (prepared : StatementState)
    → slice_get catalog.statements statement ≡ Some prepared
    → IsTrueAfter prepared.statement (stats_now catalog.tables catalog.weights prepared.statement) statement old new
    → IsTrueIn catalog old → IsTrueIn catalog new
executed_true catalog old new statement prepared there after truth = record {
  of_each = λ number other here. each number other here (cases_eq number statement);
  of_none = λ number late q s. after.of_others q s number (λ same. later number late same)
      (truth.of_none number late q s);
}
  where
    each : (number : ℕ) (other : StatementState) → slice_get catalog.statements number ≡ Some other
        → (number ≡ statement) ⊎ (number ≡ statement → ⊥)
        → IsTrueLedger other.statement (stats_now catalog.tables catalog.weights other.statement) number new
    each number other here (inl same) =
        let that : slice_get catalog.statements number ≡ Some prepared =
        subst (λ n. slice_get catalog.statements n ≡ Some prepared) (sym same) there in
        let one : prepared ≡ other = same_Some prepared other (sym that ∙ here) in
        subst₂ (λ (p : StatementState) n.
        IsTrueLedger p.statement (stats_now catalog.tables catalog.weights p.statement) n new) one (sym same)
        after.of_it
    each number other here (inr differ) =
        after.of_others other.statement (stats_now catalog.tables catalog.weights other.statement) number differ
        (truth.of_each number other here)

    later : (number : ℕ) → length catalog.statements ≤ number → number ≡ statement → ⊥
    later number late same =
        let below = there_below catalog.statements statement prepared there in omega (arith, below, late, same)
