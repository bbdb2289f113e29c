-- The ledger of the walk forgets what the ledger of the run forgets.
use Rattle.std.proofs.Common.{ℕ, zero, suc, ◌≡◌, ◌∙◌, ◌<◌, ◌+◌, ◌==◌, ◌&&◌, Bool, true, false, not, cond}
use Rattle.std.proofs.Common.{List, [], ◌∷◌, filter, ap, refl, arith}
use Rattle.std.proofs.lemmas.Bool.Decides.{nat_tests}
use Rattle.catalog_model.specs.Catalogs.{StatementState, reads_table}
use Rattle.certificate_check.specs.Ledgers.{is_of, without}
use Rattle.certificate_check.specs.declared.entries.Entry.{Entry}
use Rattle.session_bound.specs.Ledger.{forgotten_for, is_read_by}
use Rattle.report_verifier.specs.Walk.{forgotten_from}
use Rattle.report_verifier.specs.Walk.{forgotten_for as forgotten_by_walk}

-- Filters.

filter_twice : {X : Type 0} (p q : X → Bool) (xs : List X) → filter p (filter q xs) ≡ filter (λ x. q x && p x) xs
filter_twice p q [] = refl
filter_twice {X = X} p q (x ∷ xs) = by_tests (q x) (p x) refl (filter_twice p q xs)
  where
    by_tests : (kept left : Bool) → p x ≡ left → filter p (filter q xs) ≡ filter (λ y. q y && p y) xs
        → filter p (cond kept (x ∷ filter q xs) (filter q xs))
        ≡ cond (kept && left) (x ∷ filter (λ y. q y && p y) xs) (filter (λ y. q y && p y) xs)
    by_tests true true e later = rw e (ap (λ (rest : List X). x ∷ rest) later)
    by_tests true false e later = rw e later
    by_tests false left e later = later

filter_same : {X : Type 0} (p q : X → Bool) → ((x : X) → p x ≡ q x) → (xs : List X) → filter p xs ≡ filter q xs
filter_same p q same [] = refl
filter_same {X = X} p q same (x ∷ xs) = rw (same x, filter_same p q same xs) refl

-- Statements by their numbers.

-- whether the entries of this number stay, by the statements of which the first has this number
abbrev stays_from : ℕ → List ℕ → List StatementState → ℕ → Bool
stays_from first table [] number = true
stays_from first table (prepared ∷ others) number =
    not (reads_table table prepared.statement.places && number == first) && stays_from (first + 1) table others number

filtered_from : (first : ℕ) (table : List ℕ) (statements : List StatementState) (ledger : List Entry)
    → forgotten_from first table statements ledger
    ≡ filter (λ entry. stays_from first table statements entry.statement) ledger
filtered_from first table [] ledger = all_stay ledger
  where
    all_stay : (entries : List Entry) → entries ≡ filter (λ entry. true) entries
    all_stay [] = refl
    all_stay (entry ∷ entries) = ap (λ (rest : List Entry). entry ∷ rest) (all_stay entries)
filtered_from first table (prepared ∷ others) ledger =
    by_test (reads_table table prepared.statement.places) (λ left. filtered_from (first + 1) table others left)
  where
    by_test : (read : Bool)
        → ((left : List Entry) → forgotten_from (first + 1) table others left
        ≡ filter (λ entry. stays_from (first + 1) table others entry.statement) left)
        → forgotten_from (first + 1) table others (cond read (without ledger first) ledger)
        ≡ filter (λ entry. not (read && entry.statement == first) && stays_from (first + 1) table
        others entry.statement)
        ledger
    by_test true later =
        later (without ledger first)
        ∙ filter_twice (λ entry. stays_from (first + 1) table others entry.statement)
        (λ entry. not (is_of first entry)) ledger
    by_test false later = later ledger

earlier_stays : (first : ℕ) (table : List ℕ) (statements : List StatementState) (number : ℕ) → number < first
    → stays_from first table statements number ≡ true
earlier_stays first table [] number less = refl
earlier_stays first table (prepared ∷ others) number less =
    by_test (reads_table table prepared.statement.places) (number == first) (other number first less)
    (earlier_stays (first + 1) table others number (omega (arith, less)))
  where
    other : (n f : ℕ) → n < f → (n == f) ≡ false
    other n f h = grind (arith, nat_tests)

    by_test : (read same : Bool) → same ≡ false → stays_from (first + 1) table others number ≡ true
        → (not (read && same) && stays_from (first + 1) table others number) ≡ true
    by_test true same e later = rw (e, later) refl
    by_test false same e later = rw later refl

stays_at : (first : ℕ) (table : List ℕ) (statements : List StatementState) (k number : ℕ) → number ≡ first + k
    → stays_from first table statements number ≡ not (is_read_by table statements k)
stays_at first table [] k number e = refl
stays_at first table (prepared ∷ others) zero number e =
    by_test (reads_table table prepared.statement.places) (number == first) (same number first (omega (arith, e)))
    (earlier_stays (first + 1) table others number (omega (arith, e)))
  where
    same : (n f : ℕ) → n ≡ f → (n == f) ≡ true
    same n f h = grind (arith, nat_tests)

    by_test : (read here : Bool) → here ≡ true → stays_from (first + 1) table others number ≡ true
        → (not (read && here) && stays_from (first + 1) table others number) ≡ not read
    by_test true here e later = rw e refl
    by_test false here e later = rw later refl
stays_at first table (prepared ∷ others) (suc k) number e =
    by_test (reads_table table prepared.statement.places) (number == first) (other number first (omega (arith, e)))
    (stays_at (first + 1) table others k number (omega (arith, e)))
  where
    other : (n f : ℕ) → f < n → (n == f) ≡ false
    other n f h = grind (arith, nat_tests)

    by_test : (read here : Bool) → here ≡ false
        → stays_from (first + 1) table others number ≡ not (is_read_by table others k)
        → (not (read && here) && stays_from (first + 1) table others number) ≡ not (is_read_by table others k)
    by_test true here e later = rw (e, later) refl
    by_test false here e later = later

-- both forget the same
pub forgets_same : (table : List ℕ) (statements : List StatementState) (ledger : List Entry)
    → forgotten_by_walk table statements ledger ≡ forgotten_for table statements ledger
forgets_same table statements ledger =
    filtered_from 0 table statements ledger
    ∙ filter_same (λ entry. stays_from 0 table statements entry.statement)
    (λ entry. not (is_read_by table statements entry.statement))
    (λ entry. stays_at 0 table statements entry.statement entry.statement (omega arith)) ledger
