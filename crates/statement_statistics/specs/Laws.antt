-- What the laws of statistics say.
use Rattle.std.specs.Prelude.{ℕ, ◌≡◌, ◌<◌, ◌≤◌, ◌↔◌, ◌^◌, List, length, All, None}
use Rattle.row_values.specs.Statements.{Statement, IsSoundQuery}
use Rattle.row_values.specs.declared.values.Value.{Value}
use Rattle.plan_trees.specs.Statistics.{AreWeights, IsSoundStats, IsSoundVector, weighted_size}
use Rattle.plan_trees.specs.declared.statistics.Weights.{Weights}
use Rattle.statement_meaning.specs.Combinations.{rows_at}
use Rattle.statement_meaning.specs.Vectors.{vector_of}
use Rattle.statement_statistics.specs.Statistics.{first_wide, row_counts, stats_of}

-- over tables within their limits the statistics of a statement that isn't wide are sound
abbrev pub SoundStatsLaw : Type 0
SoundStatsLaw =
    (q : Statement) (tables : List (List (List Value))) (indexed : List ℕ) (weights : Weights) → IsSoundQuery q
    → All (λ rows. length rows ≤ 2 ^ 20) tables → AreWeights weights → first_wide q tables ≡ None
    → IsSoundStats q (stats_of q tables indexed weights)

-- the vector over the same tables is sound for them
abbrev pub SoundVectorLaw : Type 0
SoundVectorLaw =
    (q : Statement) (tables : List (List (List Value))) (indexed : List ℕ) (weights : Weights) (args : List Value)
    → IsSoundQuery q → IsSoundVector q (stats_of q tables indexed weights) (vector_of q tables args)

-- a statement is wide exactly where the product over all its places passes 2^63
abbrev pub WideLaw : Type 0
WideLaw =
    (q : Statement) (tables : List (List (List Value)))
    → (first_wide q tables ≡ None) ↔ (weighted_size q.preds 0 (row_counts q tables) ≤ 2 ^ 63)

-- the tables of two lists have the same rows at each place of the statement
abbrev pub HaveSameRows : Statement → List (List (List Value)) → List (List (List Value)) → Type 0
HaveSameRows q tables others = (place : ℕ) → place < length q.places → rows_at tables place ≡ rows_at others place

-- nothing but the rows of the statement's own places counts
abbrev pub SameStatsLaw : Type 0
SameStatsLaw =
    (q : Statement) (tables others : List (List (List Value))) (indexed : List ℕ) (weights : Weights)
    → IsSoundQuery q → HaveSameRows q tables others
    → stats_of q tables indexed weights ≡ stats_of q others indexed weights

abbrev pub SameWidthLaw : Type 0
SameWidthLaw =
    (q : Statement) (tables others : List (List (List Value))) → HaveSameRows q tables others
    → first_wide q tables ≡ first_wide q others

abbrev pub SameVectorLaw : Type 0
SameVectorLaw =
    (q : Statement) (tables others : List (List (List Value))) (args : List Value) → IsSoundQuery q
    → HaveSameRows q tables others → vector_of q tables args ≡ vector_of q others args

-- an index changes the masks alone
abbrev pub IndexedLaw : Type 0
IndexedLaw =
    (q : Statement) (tables : List (List (List Value))) (indexed other : List ℕ) (weights : Weights)
    → stats_of q tables other weights ≡ record (stats_of q tables indexed weights) { indexed = other }
