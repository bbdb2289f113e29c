-- What is costed: distances of the rest of two vectors, and the plan of a number.
use Rattle.std.proofs.Common.{ℕ, ◌≡◌, ◌≤◌, ◌<◌, ◌-◌, ◌*◌, max, Bool, false, List, [], ◌∷◌, length, take, drop, All}
use Rattle.std.proofs.Common.{Option, Some, None, ap, sym, refl, subst, arith, mul-le-mul_right}
use Rattle.std.specs.List.{find}
use Rattle.std.specs.Option.{option_map, option_map_or}
use Rattle.std.proofs.lemmas.List.{take_all}
use Rattle.std.proofs.lemmas.Option.{none-some, same_Some}
use Rattle.cache_model.specs.Choices.{greater_product}
use Rattle.cache_model.proofs.Lists.{all_from, each_from, found_is}
use Rattle.anchor_cache.specs.declared.kept_plans.Kept.{Kept}
use Rattle.anchor_cache.specs.Contents.{has_number}
use Rattle.anchor_cache.specs.Instances.{HasCostAt, cost_at}

-- The rest of two vectors.

rest_of : (x : ℕ) (xs : List ℕ) → take (length (x ∷ xs) - 1) (drop 1 (x ∷ xs)) ≡ xs
rest_of x xs = take_all (length (x ∷ xs) - 1) xs (omega arith)

below : (x y rest n : ℕ) → 1 ≤ y → max x y * rest < n → rest < n
below x y rest n some less =
    let one : 1 ≤ max x y = omega arith in
    let more : 1 * rest ≤ max x y * rest = mul-le-mul_right rest one in
    omega arith

pub rest_fits : (q at : List ℕ) (n : ℕ) → 1 ≤ length q → 1 ≤ length at → All (λ k. 1 ≤ k) at
    → greater_product q at < n
    → greater_product (take (length q - 1) (drop 1 q)) (take (length at - 1) (drop 1 at)) < n
rest_fits [] at n a b some less = absurd (omega arith)
rest_fits (x ∷ xs) [] n a b some less = absurd (omega arith)
rest_fits (x ∷ xs) (y ∷ ys) n a b some less =
    subst (λ zs. greater_product zs (take (length (y ∷ ys) - 1) (drop 1 (y ∷ ys))) < n) (sym (rest_of x xs))
    (subst (λ zs. greater_product xs zs < n) (sym (rest_of y ys))
    (below x y (greater_product xs ys) n (some 0 y (omega arith)) less))

pub rest_some : (at : List ℕ) → 1 ≤ length at → All (λ k. 1 ≤ k) at
    → All (λ k. 1 ≤ k) (take (length at - 1) (drop 1 at))
rest_some [] b some = absurd (omega arith)
rest_some (y ∷ ys) b some =
    subst (All (λ k. 1 ≤ k)) (sym (rest_of y ys))
    (all_from (λ k. 1 ≤ k) ys (each_from (λ k. 1 ≤ k) (y ∷ ys) some).1)

-- The plan of a number.

some_by : (q : List ℕ) (plans : List Kept) (number cost : ℕ) (found : Option Kept) → find (has_number number) plans
    ≡ found
    → All (HasCostAt q) plans → option_map (cost_at q) found ≡ Some cost → 1 ≤ cost
some_by q plans number cost None e costs h = absurd (none-some cost h)
some_by q plans number cost (Some kept) e costs h =
    subst (λ n. 1 ≤ n) (same_Some (cost_at q kept) cost h)
    (found_is (HasCostAt q) (has_number number) plans kept (each_from (HasCostAt q) plans costs) e).0.some

pub cost_some : (q : List ℕ) (plans : List Kept) (number cost : ℕ) → All (HasCostAt q) plans
    → option_map (cost_at q) (find (has_number number) plans) ≡ Some cost → 1 ≤ cost
cost_some q plans number cost costs h =
    some_by q plans number cost (find (has_number number) plans) refl costs h

pub enough_there : (enough : ℕ → Bool) (q : List ℕ) (found : Option Kept) (cost : ℕ)
    → option_map (cost_at q) found ≡ Some cost
    → option_map_or (λ kept. enough (cost_at q kept)) found false ≡ enough cost
enough_there enough q None cost h = absurd (none-some cost h)
enough_there enough q (Some kept) cost h = ap enough (same_Some (cost_at q kept) cost h)

pub none_enough : (enough : ℕ → Bool) (q : List ℕ) (found : Option Kept) → option_map (cost_at q) found ≡ None
    → option_map_or (λ kept. enough (cost_at q kept)) found false ≡ false
none_enough enough q None h = refl
none_enough enough q (Some kept) h = absurd (none-some (cost_at q kept) (sym h))
