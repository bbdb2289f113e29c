-- The first place at which the product of the places passes a limit.
use Rattle.std.proofs.Common.{lit≤, mul_assoc, mul-one, one-mul, ℕ, ◌≡◌, ◌≤◌, ◌↔◌, ◌+◌, ◌*◌, ◌^◌, max, Bool, true, false, cond, List, [], ◌∷◌, ap, sym, ◌∙◌, refl, arith}
use Rattle.std.specs.Prelude.{All, None, Some, nat_lt}
use Rattle.std.proofs.Math.Nat.{mul-le-mul, mul-le-mul_left, one-le-pow}
use Rattle.std.proofs.lemmas.Bool.{le-ltb, ltb-false}
use Rattle.std.proofs.lemmas.List.Elements.{All-head, All-tail}
use Rattle.row_values.specs.Statements.{Statement}
use Rattle.row_values.specs.declared.statement.Pred.{Pred}
use Rattle.row_values.specs.declared.values.Value.{Value}
use Rattle.plan_trees.specs.Statistics.{selectivities_on, weighted_size}
use Rattle.statement_meaning.specs.Combinations.{rows_at}
use Rattle.statement_statistics.specs.Statistics.{first_above, first_wide, row_count, row_counts}
use Rattle.statement_statistics.proofs.Numbered.{at_place, length-numbered}

-- what a place counts
abbrev weight : List Pred → ℕ → ℕ → ℕ
weight preds place n = n ^ max 1 (selectivities_on place preds)

regroup : (a b c : ℕ) → a * (b * c) ≡ a * b * c
regroup a b c = sym (mul_assoc a b c)

pub narrow : (limit : ℕ) (preds : List Pred) (place before : ℕ) (rows : List ℕ) → before ≤ limit
    → first_above limit preds place before rows ≡ None → before * weighted_size preds place rows ≤ limit
narrow limit preds place before [] le e = omega (arith, le, mul-one before)
narrow limit preds place before (n ∷ rows) le e =
    by_test (λ (fits : before * weight preds place n ≤ limit)
    (rest : first_above limit preds (place + 1) (before * weight preds place n) rows ≡ None).
    narrow limit preds (place + 1) (before * weight preds place n) rows fits rest)
    (nat_lt limit (before * weight preds place n)) refl
  where
    by_test : (before * weight preds place n ≤ limit
        → first_above limit preds (place + 1) (before * weight preds place n) rows ≡ None
        → before * weight preds place n * weighted_size preds (place + 1) rows ≤ limit) → (t : Bool)
        → nat_lt limit (before * weight preds place n) ≡ t
        → before * (weight preds place n * weighted_size preds (place + 1) rows) ≤ limit
    by_test more true h =
        let bad : Some place ≡ None =
        sym (ap (λ (b : Bool). cond b (Some place)
        (first_above limit preds (place + 1) (before * weight preds place n) rows)) h) ∙ e in
        absurd cc
    by_test more false h =
        rw (regroup before (weight preds place n) (weighted_size preds (place + 1) rows))
        (more (ltb-false limit (before * weight preds place n) h)
        (sym (ap (λ (b : Bool). cond b (Some place)
        (first_above limit preds (place + 1) (before * weight preds place n) rows)) h) ∙ e))

size_positive : (preds : List Pred) (place : ℕ) (rows : List ℕ) → All (λ n. 1 ≤ n) rows
    → 1 ≤ weighted_size preds place rows
size_positive preds place [] all = omega arith
size_positive preds place (n ∷ rows) all =
    let here = one-le-pow (max 1 (selectivities_on place preds)) n (All-head (λ n. 1 ≤ n) n rows all) in
    let more = size_positive preds (place + 1) rows (All-tail (λ n. 1 ≤ n) n rows all) in
    let both = mul-le-mul here more in
    omega (arith, both)

at_least : (a b limit : ℕ) → 1 ≤ b → a * b ≤ limit → a ≤ limit
at_least a b limit one le =
    let up = mul-le-mul_left a one in omega (arith, up, le, mul-one a)

pub within : (limit : ℕ) (preds : List Pred) (place before : ℕ) (rows : List ℕ) → All (λ n. 1 ≤ n) rows
    → before * weighted_size preds place rows ≤ limit → first_above limit preds place before rows ≡ None
within limit preds place before [] all le = refl
within limit preds place before (n ∷ rows) all le =
    let whole : before * weight preds place n * weighted_size preds (place + 1) rows ≤ limit =
    rw (← regroup before (weight preds place n) (weighted_size preds (place + 1) rows)) le in
    let more = All-tail (λ n. 1 ≤ n) n rows all in
    let fits = at_least (before * weight preds place n) (weighted_size preds (place + 1) rows) limit
    (size_positive preds (place + 1) rows more) whole in
    ap (λ (b : Bool). cond b (Some place)
    (first_above limit preds (place + 1) (before * weight preds place n) rows))
    (le-ltb limit (before * weight preds place n) fits)
    ∙ within limit preds (place + 1) (before * weight preds place n) rows more whole

-- each count of rows is at least 1
pub rows_positive : (q : Statement) (tables : List (List (List Value))) → All (λ n. 1 ≤ n) (row_counts q tables)
rows_positive q tables k d h =
    let here = at_place (λ number. row_count (rows_at tables number)) q.places k d
    (omega (arith, h, length-numbered (λ number _. row_count (rows_at tables number)) 0 q.places)) in
    omega (arith, here)

pub none_wide : (q : Statement) (tables : List (List (List Value)))
    → (first_wide q tables ≡ None) ↔ (weighted_size q.preds 0 (row_counts q tables) ≤ 2 ^ 63)
none_wide q tables = (
  (λ e. from_one (2 ^ 63) (narrow (2 ^ 63) q.preds 0 1 (row_counts q tables) (lit≤ tt) e)),
  (λ le. within (2 ^ 63) q.preds 0 1 (row_counts q tables) (rows_positive q tables) (to_one (2 ^ 63) le)),
)
  where
    from_one : (limit : ℕ) → 1 * weighted_size q.preds 0 (row_counts q tables) ≤ limit
        → weighted_size q.preds 0 (row_counts q tables) ≤ limit
    from_one limit le = omega (arith, le, one-mul (weighted_size q.preds 0 (row_counts q tables)))

    to_one : (limit : ℕ) → weighted_size q.preds 0 (row_counts q tables) ≤ limit
        → 1 * weighted_size q.preds 0 (row_counts q tables) ≤ limit
    to_one limit le = omega (arith, le, one-mul (weighted_size q.preds 0 (row_counts q tables)))
