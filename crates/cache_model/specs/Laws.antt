-- What the laws of plan caches say, for all caches, statements and statistics.
use Rattle.std.specs.Prelude.{ℕ, ◌≡◌, ◌<◌, ◌≤◌, ◌+◌, ◌*◌, ◌^◌, ◌⊎◌, min, max, false, IsTrue, ◌↔◌, List, length, take}
use Rattle.std.specs.Prelude.{All, AllPairs, slice_index, slice_get, Some}
use Rattle.fraction_math.specs.Fraction.{Fraction}
use Rattle.row_values.specs.Statements.{Statement, IsSoundQuery}
use Rattle.plan_trees.specs.PlanSpace.{IsValidTop}
use Rattle.plan_trees.specs.Statistics.{Statistics, IsSoundStats, IsSoundVector}
use Rattle.plan_trees.specs.Trees.{TopTree}
use Rattle.cost_model.specs.Checks.{PassesSelectivityCheck, PassesCostCheck}
use Rattle.cost_model.specs.Costs.{top_cost}
use Rattle.cost_model.specs.Laws.{IsCost}
use Rattle.cost_model.specs.LeastCost.{IsLeastCost}
use Rattle.cache_model.specs.Caches.{Anchor, CachedPlan, CacheState, cleared, empty_cache, reused, top_numbered}
use Rattle.cache_model.specs.Caches.{without}
use Rattle.cache_model.specs.Choices.{ByCost, ByOptimum, BySelectivity, Candidate, Choice, by_nearness, candidates_of}
use Rattle.cache_model.specs.Choices.{choice_of, greater_product, is_nearer, passes_cost_check}
use Rattle.cache_model.specs.Choices.{passes_selectivity_check, placed_from, position_chosen}
use Rattle.cache_model.specs.Faithful.{IsFaithfulCache, IsWide}
use Rattle.cache_model.specs.Keeping.{Optimum, kept_after}

-- The checks as tests say what the checks say.

abbrev pub SelectivityTestLaw : Type 0
SelectivityTestLaw =
    (lambda : Fraction) (instance : List ℕ) (anchor : Anchor) → IsTrue (passes_selectivity_check lambda instance anchor)
    ↔ PassesSelectivityCheck lambda.num lambda.den anchor.plan_cost anchor.least anchor.at instance

abbrev pub CostTestLaw : Type 0
CostTestLaw =
    (q : Statement) (s : Statistics) (lambda : Fraction) (instance : List ℕ) (plans : List CachedPlan) (anchor : Anchor)
    (top : TopTree)
    → top_numbered plans anchor.plan ≡ Some top → IsTrue (passes_cost_check q s lambda instance plans anchor)
    ↔ PassesCostCheck lambda.num lambda.den (top_cost q s instance top) anchor.least anchor.at instance

-- Faithful caches.

abbrev pub EmptyIsFaithful : Type 0
EmptyIsFaithful =
    (q : Statement) (s : Statistics) (executions budget : ℕ) → IsFaithfulCache empty_cache q s executions budget

-- a cleared cache is faithful to any statistics: so it may be cleared whenever they change
abbrev pub ClearedIsFaithful : Type 0
ClearedIsFaithful =
    (cache : CacheState) (q : Statement) (s : Statistics) (executions budget : ℕ)
    → IsFaithfulCache (cleared cache) q s executions budget

-- executions of other statements take nothing from it
abbrev pub FaithfulLater : Type 0
FaithfulLater =
    (cache : CacheState) (q : Statement) (s : Statistics) (executions later budget more : ℕ) → executions ≤ later
    → budget ≤ more
    → IsFaithfulCache cache q s executions budget → IsFaithfulCache cache q s later more

abbrev pub ReuseLaw : Type 0
ReuseLaw =
    (cache : CacheState) (q : Statement) (s : Statistics) (executions budget position : ℕ)
    → IsFaithfulCache cache q s executions budget
    → IsFaithfulCache (reused cache position) q s (executions + 1) budget

abbrev pub EvictLaw : Type 0
EvictLaw =
    (cache : CacheState) (q : Statement) (s : Statistics) (executions budget number : ℕ)
    → IsFaithfulCache cache q s executions budget
    → IsFaithfulCache (without cache number) q s executions budget

-- the plan of an optimum is valid and costs the least at its vector, which is sound
pub record IsOptimum (q : Statement) (s : Statistics) (optimum : Optimum) : Type 0 where
  pub vector : IsSoundVector q s optimum.at
  pub valid : IsValidTop q s.indexed optimum.top
  pub costs : top_cost q s optimum.at optimum.top ≡ optimum.least
  pub least : IsLeastCost q s optimum.at optimum.least

abbrev pub KeepingLaw : Type 0
KeepingLaw =
    (cache : CacheState) (q : Statement) (s : Statistics) (executions : ℕ) (optimum : Optimum) (keep : Fraction)
    (budget : ℕ) → 1 ≤ budget → ¬ IsWide q s → IsOptimum q s optimum
    → optimum.execution ≡ executions + 1 → IsFaithfulCache cache q s executions budget
    → IsFaithfulCache (kept_after cache q s optimum keep budget).cache q s (executions + 1) budget

-- the next number afterwards: numbers go on, by one at most
pub record IsNextOf (before after : ℕ) : Type 0 where
  pub goes_on : before ≤ after
  pub one_at_most : after ≤ before + 1

abbrev pub NextPlanLaw : Type 0
NextPlanLaw =
    (cache : CacheState) (q : Statement) (s : Statistics) (optimum : Optimum) (keep : Fraction) (budget : ℕ)
    → IsNextOf cache.next_plan (kept_after cache q s optimum keep budget).cache.next_plan

-- The bound.

-- the anchor at this position has a valid plan, that costs at the instance at most `num / den` times the least
pub record IsWithinBound (cache : CacheState) (q : Statement) (s : Statistics) (instance : List ℕ) (lambda : Fraction)
    (position : ℕ) : Type 0 where
  pub anchor : Anchor
  pub there : slice_get cache.anchors position ≡ Some anchor
  pub top : TopTree
  pub plan : top_numbered cache.plans anchor.plan ≡ Some top
  pub valid : IsValidTop q s.indexed top
  pub bound : (least : ℕ) → IsLeastCost q s instance least → top_cost q s instance top * lambda.den ≤ lambda.num * least

-- what a faithful cache lets be used again is within the bound
abbrev pub ChoiceBoundLaw : Type 0
ChoiceBoundLaw =
    (cache : CacheState) (q : Statement) (s : Statistics) (executions budget : ℕ) (instance : List ℕ)
    (lambda : Fraction) (recosts position : ℕ) → IsFaithfulCache cache q s executions budget
    → IsSoundVector q s instance → position_chosen (choice_of cache q s instance lambda recosts) ≡ Some position
    → IsWithinBound cache q s instance lambda position

abbrev pub OneLeastCostLaw : Type 0
OneLeastCostLaw =
    (q : Statement) (s : Statistics) (vector : List ℕ) (a b : ℕ) → IsLeastCost q s vector a → IsLeastCost q s vector b
    → a ≡ b

-- The choice, by what passes.

-- the item at this position has the fact, and none before it has
pub record IsFirst {T : Type 0} (P : T → Type 0) (xs : List T) (position : ℕ) : Type 0 where
  pub item : T
  pub there : slice_get xs position ≡ Some item
  pub passes : P item
  pub none_before : All (λ x. ¬ P x) (take position xs)

abbrev pub PassesBySelectivity : Fraction → List ℕ → Anchor → Type 0
PassesBySelectivity lambda instance anchor =
    PassesSelectivityCheck lambda.num lambda.den anchor.plan_cost anchor.least anchor.at instance

-- the anchor's plan passes the cost check
pub record PassesByCost (q : Statement) (s : Statistics) (plans : List CachedPlan) (lambda : Fraction)
    (instance : List ℕ) (anchor : Anchor) : Type 0 where
  pub top : TopTree
  pub plan : top_numbered plans anchor.plan ≡ Some top
  pub check : PassesCostCheck lambda.num lambda.den (top_cost q s instance top) anchor.least anchor.at instance

-- no anchor passes the selectivity check; of the candidates the one that was tried last is the first to pass the cost
-- check
pub record IsChosenByCost (cache : CacheState) (q : Statement) (s : Statistics) (instance : List ℕ) (lambda : Fraction)
    (recosts position tried : ℕ) : Type 0 where
  pub not_by_selectivity : All (λ anchor. ¬ PassesBySelectivity lambda instance anchor) cache.anchors
  pub before : ℕ
  pub counted : tried ≡ before + 1
  pub first : IsFirst (λ candidate. PassesByCost q s cache.plans lambda instance candidate.anchor)
      (candidates_of instance recosts cache.anchors) before
  pub placed : first.item.position ≡ position

-- no anchor passes the selectivity check, and no candidate the cost check
pub record IsOptimised (cache : CacheState) (q : Statement) (s : Statistics) (instance : List ℕ) (lambda : Fraction)
    (recosts tried : ℕ) : Type 0 where
  pub not_by_selectivity : All (λ anchor. ¬ PassesBySelectivity lambda instance anchor) cache.anchors
  pub not_by_cost : All (λ candidate. ¬ PassesByCost q s cache.plans lambda instance candidate.anchor)
      (candidates_of instance recosts cache.anchors)
  pub counted : tried ≡ length (candidates_of instance recosts cache.anchors)

abbrev pub IsChoice : CacheState → Statement → Statistics → List ℕ → Fraction → ℕ → Choice → Type 0
IsChoice cache q s instance lambda recosts (BySelectivity position) =
    IsFirst (PassesBySelectivity lambda instance) cache.anchors position
IsChoice cache q s instance lambda recosts (ByCost position tried) =
    IsChosenByCost cache q s instance lambda recosts position tried
IsChoice cache q s instance lambda recosts (ByOptimum tried) = IsOptimised cache q s instance lambda recosts tried

-- a plan is used again exactly where a check passes
abbrev pub ChoiceLaw : Type 0
ChoiceLaw =
    (cache : CacheState) (q : Statement) (s : Statistics) (instance : List ℕ) (lambda : Fraction) (recosts : ℕ)
    → IsChoice cache q s instance lambda recosts (choice_of cache q s instance lambda recosts)

-- Candidates.

-- the first is nearer, or stands earlier in the list where the second isn't nearer
abbrev pub ComesBefore : List ℕ → Candidate → Candidate → Type 0
ComesBefore instance a b =
    IsTrue (is_nearer instance a.anchor b.anchor) ⊎ ((is_nearer instance b.anchor a.anchor ≡ false)
    × (a.position < b.position))

-- all anchors of the list, each once, in one order
pub record AreByNearness (instance : List ℕ) (anchors : List Anchor) (candidates : List Candidate) : Type 0 where
  pub placed : All (λ candidate. slice_get anchors candidate.position ≡ Some candidate.anchor) candidates
  pub whole : length candidates ≡ length anchors
  pub in_order : AllPairs (ComesBefore instance) candidates

abbrev pub CandidatesLaw : Type 0
CandidatesLaw =
    (instance : List ℕ) (anchors : List Anchor) → All (λ n. 1 ≤ n) instance
    → All (λ anchor. All (λ n. 1 ≤ n) anchor.at) anchors
    → AreByNearness instance anchors (by_nearness instance (placed_from 0 anchors))

-- Numbers.

-- an anchor's costs fit, and its plan costs no less than the least
pub record IsSoundAnchor (anchor : Anchor) : Type 0 where
  pub plan_cost : IsCost anchor.plan_cost
  pub least : IsCost anchor.least
  pub no_less : anchor.least ≤ anchor.plan_cost

abbrev pub AnchorCostsLaw : Type 0
AnchorCostsLaw =
    (cache : CacheState) (q : Statement) (s : Statistics) (executions budget : ℕ) → IsSoundQuery q → IsSoundStats q s
    → IsFaithfulCache cache q s executions budget
    → All IsSoundAnchor cache.anchors

-- the products of the checks, and those of the candidates' order, are at most this one
abbrev pub VectorsFitLaw : Type 0
VectorsFitLaw =
    (q : Statement) (s : Statistics) (instance anchor : List ℕ) → IsSoundQuery q → IsSoundStats q s
    → IsSoundVector q s instance → IsSoundVector q s anchor
    → greater_product instance anchor ≤ 2 ^ 63

-- The window: which anchors the selectivity check can let through at all.

-- the first numbers of the two vectors are further apart than the ratio
abbrev pub IsOutside : Fraction → List ℕ → List ℕ → Type 0
IsOutside lambda instance at =
    lambda.num * min (slice_index instance 0) (slice_index at 0) < max (slice_index instance 0)
    (slice_index at 0) * lambda.den

abbrev pub WindowLaw : Type 0
WindowLaw =
    (lambda : Fraction) (instance : List ℕ) (anchor : Anchor) → lambda.den ≤ lambda.num → 1 ≤ anchor.least
    → anchor.least ≤ anchor.plan_cost
    → length instance ≡ length anchor.at → IsOutside lambda instance anchor.at
    → passes_selectivity_check lambda instance anchor ≡ false
