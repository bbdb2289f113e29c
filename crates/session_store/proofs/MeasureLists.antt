-- Lists of measures, one for each statement.
use Rattle.std.proofs.Common.{ℕ, zero, suc, ◌≡◌, ◌∙◌, ◌+◌, ◌<◌, List, [], ◌∷◌, ◌++◌, length, take, Some, ap, refl}
use Rattle.std.proofs.Common.{slice_get, slice_index_or}
use Rattle.std.proofs.Common.{arith}
use Rattle.std.specs.Option.{option_map}
use Rattle.row_values.specs.Statements.{Statement}
use Rattle.plan_trees.specs.declared.statistics.Weights.{Weights}
use Rattle.catalog_model.specs.Catalogs.{StatementState, TableState}
use Rattle.session_store.specs.Measures.{measure_of, measures_of}
use Rattle.session_store.specs.declared.measures.Measure.{Measure}

-- the measure of the statement of a number
at_by : (ts : List TableState) (weights : Weights) (ss : List StatementState) (i : ℕ) (q : Statement) (m : Measure)
    → m ≡ slice_index_or (measures_of ts weights ss) i m → option_map (λ s. s.statement) (slice_get ss i) ≡ Some q
    → m ≡ measure_of ts weights q
at_by ts weights [] i q m is there = absurd cc
at_by ts weights (s ∷ ss) zero q m is there =
    let same : s.statement ≡ q = cc in
    is ∙ ap (measure_of ts weights) same
at_by ts weights (s ∷ ss) (suc i) q m is there = at_by ts weights ss i q m is there

pub measure_at : (ts : List TableState) (weights : Weights) (ss : List StatementState) (ms : List Measure) (i : ℕ)
    (q : Statement) (m : Measure) → ms ≡ measures_of ts weights ss → m ≡ slice_index_or ms i m
    → option_map (λ s. s.statement) (slice_get ss i) ≡ Some q → m ≡ measure_of ts weights q
measure_at ts weights ss ms i q m are is there =
    at_by ts weights ss i q m (is ∙ ap (λ (all : List Measure). slice_index_or all i m) are) there

-- one more statement
pub measure_more : (ts : List TableState) (weights : Weights) (ss : List StatementState) (i : ℕ) (q : Statement)
    (ms more : List Measure) (m : Measure) → more ≡ ms ++ m ∷ []
    → option_map (λ s. s.statement) (slice_get ss i) ≡ Some q
    → m ≡ measure_of ts weights q → ms ≡ measures_of ts weights (take i ss)
    → more ≡ measures_of ts weights (take (i + 1) ss)
measure_more ts weights ss i q ms more m e there is so_far =
    e ∙ (ap (λ (front : List Measure). front ++ m ∷ []) so_far ∙ by_place ss i there)
  where
    by_place : (ss : List StatementState) (i : ℕ) → option_map (λ s. s.statement) (slice_get ss i) ≡ Some q
        → measures_of ts weights (take i ss) ++ m ∷ [] ≡ measures_of ts weights (take (i + 1) ss)
    by_place [] i there = absurd cc
    by_place (s ∷ ss) zero there =
        let same : q ≡ s.statement = cc in
        ap (λ (one : Measure). one ∷ []) (is ∙ ap (measure_of ts weights) same)
    by_place (s ∷ ss) (suc i) there =
        let n : suc i + 1 ≡ suc (i + 1) = omega arith in
        rw n (ap (λ (rest : List Measure). measure_of ts weights s.statement ∷ rest) (by_place ss i there))

-- a statement behind the others
pub measures_behind : (ts : List TableState) (weights : Weights) (ss : List StatementState) (s : StatementState)
    → measures_of ts weights (ss ++ s ∷ []) ≡ measures_of ts weights ss ++ measure_of ts weights s.statement ∷ []
measures_behind ts weights [] s = refl
measures_behind ts weights (first ∷ ss) s =
    ap (λ (rest : List Measure). measure_of ts weights first.statement ∷ rest) (measures_behind ts weights ss s)

-- there is a statement of each number
pub statement_there : (ss : List StatementState) (i : ℕ) → i < length ss
    → (q : Statement) × (option_map (λ s. s.statement) (slice_get ss i) ≡ Some q)
statement_there [] i less = absurd (omega (arith, less))
statement_there (s ∷ ss) zero less = (s.statement, refl)
statement_there (s ∷ ss) (suc i) less = statement_there ss i (omega (arith, less))
