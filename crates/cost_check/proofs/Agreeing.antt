-- Where the polynomials are the plans' costs, the check over them is the cost check.
use Rattle.std.proofs.Common.{ℕ, ◌≡◌, ◌+◌, ◌==◌, Bool, true, false, cond, List, [], ◌∷◌, map, All, Option, Some, ap}
use Rattle.std.proofs.Common.{◌∙◌, refl}
use Rattle.std.specs.List.{AllByRecursion, find}
use Rattle.std.specs.Option.{option_map_or}
use Rattle.fraction_math.specs.Fraction.{Fraction}
use Rattle.row_values.specs.Statements.{Statement}
use Rattle.plan_trees.specs.Statistics.{Statistics}
use Rattle.plan_trees.specs.Trees.{TopTree, top_tree}
use Rattle.cost_model.specs.Costs.{top_cost}
use Rattle.cache_model.specs.Caches.{Anchor, top_numbered}
use Rattle.cache_model.specs.Choices.{ByCost, Candidate, choice_among, is_cheap_enough, passes_cost_check}
use Rattle.cache_model.proofs.Lists.{each_from}
use Rattle.anchor_cache.specs.declared.kept_plans.Kept.{Kept}
use Rattle.anchor_cache.specs.Contents.{cached, has_number}
use Rattle.anchor_cache.specs.Instances.{cost_at}
use Rattle.cost_check.specs.Answers.{passes_by_cost}

costs_by : (enough : ℕ → Bool) (b : Bool) (kept : Kept) (top : TopTree) (of_kept : Kept → ℕ)
    (of_top : TopTree → ℕ) (found : Option Kept) (there : Option TopTree) → of_kept kept ≡ of_top top
    → option_map_or (λ k. enough (of_kept k)) found false ≡ option_map_or (λ t. enough (of_top t)) there false
    → option_map_or (λ k. enough (of_kept k)) (cond b (Some kept) found) false
    ≡ option_map_or (λ t. enough (of_top t)) (cond b (Some top) there) false
costs_by enough true kept top of_kept of_top found there e rest = ap enough e
costs_by enough false kept top of_kept of_top found there e rest = rest

enough_alike : (enough : ℕ → Bool) (instance : List ℕ) (cost : TopTree → ℕ) (plans : List Kept) (number : ℕ)
    → AllByRecursion (λ kept. cost_at instance kept ≡ cost (top_tree kept.costed.plan.value)) plans
    → option_map_or (λ kept. enough (cost_at instance kept)) (find (has_number number) plans) false
    ≡ option_map_or (λ top. enough (cost top)) (top_numbered (map cached plans) number) false
enough_alike enough instance cost [] number h = refl
enough_alike enough instance cost (kept ∷ plans) number h =
    costs_by enough (kept.number == number) kept (top_tree kept.costed.plan.value) (cost_at instance) cost
    (find (has_number number) plans) (top_numbered (map cached plans) number) h.0
    (enough_alike enough instance cost plans number h.1)

chosen_alike : (a b : Anchor → Bool) → ((anchor : Anchor) → a anchor ≡ b anchor) → (tried : ℕ)
    (candidates : List Candidate) → choice_among a tried candidates ≡ choice_among b tried candidates
chosen_alike a b same tried [] = refl
chosen_alike a b same tried (candidate ∷ candidates) =
    ap (λ t. cond t (ByCost candidate.position (tried + 1)) (choice_among a (tried + 1) candidates))
    (same candidate.anchor)
    ∙ ap (cond (b candidate.anchor) (ByCost candidate.position (tried + 1)))
    (chosen_alike a b same (tried + 1) candidates)

pub choice_agrees : (statement : Statement) (s : Statistics) (lambda : Fraction) (instance : List ℕ)
    (plans : List Kept) (candidates : List Candidate)
    → All (λ kept. cost_at instance kept ≡ top_cost statement s instance (top_tree kept.costed.plan.value)) plans
    → choice_among (passes_by_cost plans lambda instance) 0 candidates
    ≡ choice_among (passes_cost_check statement s lambda instance (map cached plans)) 0 candidates
choice_agrees statement s lambda instance plans candidates h =
    chosen_alike (passes_by_cost plans lambda instance) (passes_cost_check statement s lambda instance (map cached
    plans))
    (λ anchor. enough_alike (is_cheap_enough lambda instance anchor) instance (top_cost statement s instance) plans
    anchor.plan (each_from (λ kept. cost_at instance kept
    ≡ top_cost statement s instance (top_tree kept.costed.plan.value)) plans h)) 0 candidates
