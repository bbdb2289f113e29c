-- The counts are at least 1, and at most the rows of their place.
use Rattle.std.proofs.Common.{zero-mul, mul-one, one-mul, add-mul, ℕ, zero, suc, ◌≡◌, ◌<◌, ◌≤◌, ◌⊎◌, inl, inr, ◌+◌, ◌*◌, max, Bool, true, false, cond, List, [], length, map, ap, ◌∙◌, arith, subst}
use Rattle.std.specs.Prelude.{All, Some, filter, slice_get, slice_index}
use Rattle.std.specs.Int.{div_ceil}
use Rattle.std.proofs.Math.Nat.{mul-le-mul_left, mul-le-mul_right}
use Rattle.std.proofs.lemmas.Bool.{cases_lt}
use Rattle.std.proofs.lemmas.Grind.{div_ceil_times}
use Rattle.std.proofs.lemmas.List.Sums.{count_by-le-length, length-filter}
use Rattle.std.proofs.lemmas.Option.{get_or_from_slice_get, slice_get-map, slice_get_within}
use Rattle.std.specs.Option.{option_map}
use Rattle.row_values.proofs.Fitting.{test_there}
use Rattle.row_values.specs.Statements.{IsPred, IsSoundQuery, Statement, is_parameterised, kind_at}
use Rattle.row_values.specs.declared.statement.Pred.{Pred}
use Rattle.row_values.specs.declared.values.Value.{Value}
use Rattle.plan_trees.specs.Statistics.{IsWithin}
use Rattle.plan_trees.proofs.SoundParts.{column_in_range}
use Rattle.statement_meaning.specs.Conditions.{holds, row_passes}
use Rattle.statement_meaning.specs.Vectors.{matching}
use Rattle.statement_statistics.specs.Statistics.{distinct_count, fan_count, fixed_count, fixed_preds, matching_count, row_count}

few_pass : {X : Type 0} (p : X → Bool) (xs : List X) → length (filter p xs) ≤ length xs
few_pass p xs = omega (arith, length-filter p xs, count_by-le-length p xs)

pub fixed_within : (preds : List Pred) (place : ℕ) (rows : List (List Value))
    → IsWithin (row_count rows) (fixed_count preds place rows)
fixed_within preds place rows =
    let few = few_pass (row_passes [] (fixed_preds preds) place) rows in
    record { low = omega arith; high = omega (arith, few) }

pub counted_within : (args : List Value) (pred : Pred) (rows : List (List Value))
    → IsWithin (row_count rows) (max 1 (matching args pred rows))
counted_within args pred rows =
    let few = few_pass (holds args pred) rows in record { low = omega arith; high = omega (arith, few) }

pub matching_within : (pred : Pred) (rows : List (List Value)) → IsWithin (row_count rows) (matching_count pred rows)
matching_within pred rows = by_kind (is_parameterised pred)
  where
    by_kind : (b : Bool) → IsWithin (row_count rows) (cond b 1 (max 1 (matching [] pred rows)))
    by_kind true = record { low = omega arith; high = omega arith }
    by_kind false = counted_within [] pred rows

-- a quotient that is rounded up
pub rounded_within : (n d : ℕ) → 1 ≤ n → 1 ≤ d → IsWithin n (div_ceil n d)
rounded_within n d some parts =
    let times = div_ceil_times n d parts in
    record { low = at_least_one (div_ceil n d) times.0; high = at_most (cases_lt n (div_ceil n d)) times.1 }
  where
    at_least_one : (c : ℕ) → n ≤ c * d → 1 ≤ c
    at_least_one zero le = absurd (omega (arith, le, zero-mul d, some))
    at_least_one (suc c) le = omega arith

    at_most : (n < div_ceil n d) ⊎ (div_ceil n d ≤ n) → div_ceil n d * d < n + d → div_ceil n d ≤ n
    at_most (inr le) less = le
    at_most (inl over) less =
        let up : (n + 1) * d ≤ div_ceil n d * d = mul-le-mul_right d (omega (arith, over)) in
        let wide : n * 1 ≤ n * d = mul-le-mul_left n parts in
        absurd (omega (arith, up, wide, less, mul-one n, add-mul n 1 d, one-mul d))

pub fan_within : (rows : List (List Value)) (column : ℕ) → IsWithin (row_count rows) (fan_count rows column)
fan_within rows column =
    rounded_within (row_count rows) (max 1 (distinct_count rows column)) (omega arith) (omega arith)

-- what holds of all holds of one
pub all_at : {X : Type 0} (P : X → Type 0) (xs : List X) (i : ℕ) (x : X) → All P xs → slice_get xs i ≡ Some x → P x
all_at P xs i x all at =
    subst P (get_or_from_slice_get xs i x x at) (all i x (slice_get_within xs i x at))

-- the place of a predicate is there
pub pred_place : (q : Statement) → IsSoundQuery q → (j : ℕ) (pred : Pred) → slice_get q.preds j ≡ Some pred
    → pred.at.place < length q.places
pred_place q sound j pred at =
    column_in_range q.places pred.at
    (test_there (kind_at q.places pred.at) pred.test (all_at (IsPred q.places) q.preds j pred sound.preds at))

-- what is made of the element there
pub made_at : {A : Type 0} (f : A → ℕ) (xs : List A) (i : ℕ) (x : A) → slice_get xs i ≡ Some x
    → slice_index (map f xs) i ≡ f x
made_at f xs i x at =
    get_or_from_slice_get (map f xs) i (f x) 0 (slice_get-map f xs i ∙ ap (option_map f) at)
