-- A statement keeps no more combinations than the product of its tables' rows.
use Rattle.std.proofs.Common.{ℕ, suc, ◌≡◌, ◌≤◌, ◌+◌, ◌*◌, ◌^◌, ◌∙◌, max, List, [], ◌∷◌}
use Rattle.std.proofs.Common.{length, map, ap, refl, arith, length-append, one-mul, pow-suc}
use Rattle.std.specs.List.{flat_map}
use Rattle.std.proofs.Math.Nat.{mul-le-mul, pow-le-pow_right, pow-zero}
use Rattle.std.proofs.lemmas.List.{length-map}
use Rattle.std.proofs.lemmas.List.Sums.{count_by-le-length, length-filter}
use Rattle.row_values.specs.RowNumbers.{row_numbers}
use Rattle.row_values.specs.Statements.{Statement}
use Rattle.row_values.specs.declared.statement.Place.{Place}
use Rattle.row_values.specs.declared.statement.Pred.{Pred}
use Rattle.row_values.specs.declared.values.Value.{Value}
use Rattle.plan_trees.specs.Statistics.{selectivities_on, weighted_size}
use Rattle.statement_meaning.specs.Combinations.{World, combinations, keeps, kept_combinations, rows_at, sizes_from}
use Rattle.statement_meaning.specs.Combinations.{world_of}
use Rattle.statement_statistics.specs.Statistics.{numbered, row_count, row_counts}
use Rattle.pull_operators.proofs.Numbers.{length_numbers}

each_many : {X Y : Type 0} (f : X → List Y) (k : ℕ) → ((x : X) → length (f x) ≡ k) → (xs : List X)
    → length (flat_map f xs) ≡ length xs * k
each_many f k each [] = omega arith
each_many f k each (x ∷ xs) =
    let rest = each_many f k each xs in
    let one = each x in
    length-append (f x) (flat_map f xs) ∙ omega (arith, rest, one)

times_rest : (n : ℕ) (ns : List ℕ) → length (combinations (n ∷ ns)) ≡ n * length (combinations ns)
times_rest n ns =
    each_many (λ row. map (λ rest. row ∷ rest) (combinations ns)) (length (combinations ns))
    (λ row. length-map (combinations ns) (λ rest. row ∷ rest)) (row_numbers n)
    ∙ ap (λ k. k * length (combinations ns)) (length_numbers n)

-- a number is at most a power of it and of 1 at least
below_power : (n k : ℕ) → n ≤ max 1 n ^ max 1 k
below_power n k =
    let some : 1 ≤ max 1 n = omega arith in
    let more : 1 ≤ max 1 k = omega arith in
    let up = pow-le-pow_right some more in
    let first : max 1 n ^ 1 ≡ max 1 n = pow-suc (max 1 n) 0
    ∙ (ap (λ (one : ℕ). one * max 1 n) (pow-zero (max 1 n)) ∙ one-mul (max 1 n)) in
    omega (arith, up, first)

rows_few : (tables : List (List (List Value))) (preds : List Pred) (world : World)
    → ((place : ℕ) → world.size place ≡ length (rows_at tables place)) → (place : ℕ) (places : List Place)
    → length (combinations (sizes_from world place (length places)))
    ≤ weighted_size preds place (numbered (λ number one. row_count (rows_at tables number)) place places)
rows_few tables preds world sizes place [] = omega arith
rows_few tables preds world sizes place (one ∷ places) =
    let rest = rows_few tables preds world sizes (place + 1) places in
    let here : world.size place ≤ row_count (rows_at tables place) ^ max 1 (selectivities_on place preds) =
    rw (sizes place) (below_power (length (rows_at tables place)) (selectivities_on place preds)) in
    let both = mul-le-mul here rest in
    let next : sizes_from world (place + 1) (length places) ≡ sizes_from world (suc place) (length places) =
    ap (λ p. sizes_from world p (length places)) (omega arith) in
    let split = times_rest (world.size place) (sizes_from world (suc place) (length places)) in
    let count : length (combinations (sizes_from world (place + 1) (length places)))
    ≡ length (combinations (sizes_from world (suc place) (length places))) =
    ap (λ ns. length (combinations ns)) next in
    rw split (rw count at both)

pub few : (q : Statement) (tables : List (List (List Value))) (args : List Value) (limit : ℕ)
    → weighted_size q.preds 0 (row_counts q tables) ≤ limit → length (kept_combinations q tables args) ≤ limit
few q tables args limit narrow =
    let world : World = world_of q tables args in
    let some = length-filter (keeps world) (combinations (sizes_from world 0 world.places)) in
    let few = count_by-le-length (keeps world) (combinations (sizes_from world 0 world.places)) in
    let all = rows_few tables q.preds world (λ place. refl) 0 q.places in
    omega (arith, some, few, all, narrow)
