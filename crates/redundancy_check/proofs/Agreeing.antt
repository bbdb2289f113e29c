-- Plans costed by their polynomials and by any costs of trees that agree with them: the same plan is found.
use Rattle.std.proofs.Common.{ℕ, ◌≡◌, nat_lt, Bool, true, false, cond, List, [], ◌∷◌, map, All, Some, ap, sym, ◌∙◌}
use Rattle.std.proofs.Common.{refl}
use Rattle.std.specs.List.{AllByRecursion, best_of, filter}
use Rattle.std.specs.Option.{option_map}
use Rattle.fraction_math.specs.Fraction.{Fraction}
use Rattle.plan_trees.specs.Trees.{TopTree, top_tree}
use Rattle.cache_model.specs.Keeping.{covering, covers, first_least}
use Rattle.cache_model.proofs.Lists.{each_filter, each_from}
use Rattle.anchor_cache.specs.declared.kept_plans.Kept.{Kept}
use Rattle.anchor_cache.specs.Contents.{cached}
use Rattle.anchor_cache.specs.Instances.{cost_at}
use Rattle.anchor_cache.proofs.FirstLeast.{least_map}
use Rattle.anchor_cache.proofs.Views.{map_filter}
use Rattle.redundancy_check.specs.Covering.{cheapest_serving}

-- Numbers that agree on a list.

abbrev Agree : {X : Type 0} → (X → ℕ) → (X → ℕ) → X → Type 0
Agree n m x = n x ≡ m x

either : {X : Type 0} (n m : X → ℕ) (b : Bool) (x y : X) → n x ≡ m x → n y ≡ m y → n (cond b x y) ≡ m (cond b x y)
either n m true x y e f = e
either n m false x y e f = f

best_same : {X : Type 0} (n m : X → ℕ) (x : X) (xs : List X) → n x ≡ m x → AllByRecursion (Agree n m) xs
    → best_of (λ y least. nat_lt (n y) (n least)) x xs ≡ best_of (λ y least. nat_lt (m y) (m least)) x xs
best_same n m x [] e h = refl
best_same n m x (y ∷ ys) e h =
    ap (λ k. best_of (λ z least. nat_lt (n z) (n least)) (cond (nat_lt k (n x)) y x) ys) h.0
    ∙ ap (λ k. best_of (λ z least. nat_lt (n z) (n least)) (cond (nat_lt (m y) k) y x) ys) e
    ∙ best_same n m (cond (nat_lt (m y) (m x)) y x) ys (either n m (nat_lt (m y) (m x)) y x h.0 e) h.1

least_same : {X : Type 0} (n m : X → ℕ) (xs : List X) → AllByRecursion (Agree n m) xs
    → first_least n xs ≡ first_least m xs
least_same n m [] h = refl
least_same n m (x ∷ xs) h = ap Some (best_same n m x xs h.0 h.1)

filter_same : {X : Type 0} (p : ℕ → Bool) (n m : X → ℕ) (xs : List X) → AllByRecursion (Agree n m) xs
    → filter (λ x. p (n x)) xs ≡ filter (λ x. p (m x)) xs
filter_same p n m [] h = refl
filter_same p n m (x ∷ xs) h =
    ap (λ k. cond (p k) (x ∷ filter (λ y. p (n y)) xs) (filter (λ y. p (n y)) xs)) h.0
    ∙ ap (λ rest. cond (p (m x)) (x ∷ rest) rest) (filter_same p n m xs h.1)

-- The plan.

abbrev tree_cost : (TopTree → ℕ) → Kept → ℕ
tree_cost cost kept = cost (top_tree kept.costed.plan.value)

pub covering_agrees : (keep : Fraction) (least : ℕ) (instance : List ℕ) (plans : List Kept) (cost : TopTree → ℕ)
    → All (λ kept. cost (top_tree kept.costed.plan.value) ≡ cost_at instance kept) plans
    → option_map cached (cheapest_serving keep least instance plans)
    ≡ covering keep least cost (map cached plans)
covering_agrees keep least instance plans cost h =
    let each = each_from (Agree (tree_cost cost) (cost_at instance)) plans h in
    let serving = filter (λ kept. covers keep least (tree_cost cost kept)) plans in
    sym
    (ap (first_least (λ plan. cost plan.top))
    (sym (map_filter cached (λ plan. covers keep least (cost plan.top)) plans))
    ∙ least_map cached (λ plan. cost plan.top) serving
    ∙ ap (option_map cached)
    (least_same (tree_cost cost) (cost_at instance) serving
    (each_filter (Agree (tree_cost cost) (cost_at instance)) (Agree (tree_cost cost) (cost_at instance))
    (λ kept. covers keep least (tree_cost cost kept)) (λ kept e k. k) plans each)
    ∙ ap (first_least (cost_at instance))
    (filter_same (covers keep least) (tree_cost cost) (cost_at instance) plans each)))
