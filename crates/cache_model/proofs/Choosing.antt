-- The anchor that is chosen is one of the list that passed its check, so its plan is within the bound.
use Rattle.std.proofs.Common.{ℕ, ◌≡◌, ◌≤◌, ◌+◌, ◌*◌, Bool, true, false, cond, List, [], ◌∷◌, slice_get, slice_index_or}
use Rattle.std.proofs.Common.{Option, Some, None, ap, refl, subst, arith}
use Rattle.std.specs.List.{AllByRecursion, position}
use Rattle.std.specs.Option.{option_map_or}
use Rattle.std.proofs.lemmas.List.Quantifiers.{position-Some}
use Rattle.std.proofs.lemmas.Option.{none-some, same_Some, slice_get-get_or}
use Rattle.fraction_math.specs.Fraction.{Fraction}
use Rattle.row_values.specs.Statements.{Statement}
use Rattle.plan_trees.specs.PlanSpace.{IsValidTop}
use Rattle.plan_trees.specs.Statistics.{Statistics, IsSoundVector}
use Rattle.plan_trees.specs.Trees.{TopTree}
use Rattle.cost_model.specs.Checks.{PassesSelectivityCheck}
use Rattle.cost_model.specs.Costs.{top_cost}
use Rattle.cost_model.specs.LeastCost.{IsLeastCost}
use Rattle.cost_model.specs.Laws.{CostCheckLaw, IsReuse, SelectivityCheckLaw}
use Rattle.cache_model.specs.Caches.{Anchor, CachedPlan, CacheState, top_numbered}
use Rattle.cache_model.specs.Choices.{ByCost, BySelectivity, Candidate, Choice, by_nearness, candidates_of}
use Rattle.cache_model.specs.Choices.{choice_among, choice_of, passes_cost_check, passes_selectivity_check, placed_from}
use Rattle.cache_model.specs.Choices.{position_chosen}
use Rattle.cache_model.specs.Faithful.{IsFaithfulAnchor, IsFaithfulCache, IsFaithfulPlan}
use Rattle.cache_model.specs.Laws.{CostTestLaw, IsWithinBound, SelectivityTestLaw}
use Rattle.cache_model.proofs.Candidates.{StandsIn, each_in_order, each_placed}
use Rattle.cache_model.proofs.Counts.{counts_some}
use Rattle.cache_model.proofs.Lists.{each_from, each_take, each_to}
use Rattle.cache_model.proofs.LookUps.{numbered_has}

-- What is chosen has passed.

pub record IsChosen (P : Candidate → Type 0) (passes : Anchor → Bool) (position : ℕ) : Type 0 where
  pub candidate : Candidate
  pub known : P candidate
  pub passed : passes candidate.anchor ≡ true
  pub placed : candidate.position ≡ position

chosen_by : (P : Candidate → Type 0) (passes : Anchor → Bool) (b : Bool) (first : Candidate) (tried position : ℕ)
    (rest : Choice) → passes first.anchor ≡ b → P first
    → (position_chosen rest ≡ Some position → IsChosen P passes position)
    → position_chosen (cond b (ByCost first.position tried) rest) ≡ Some position → IsChosen P passes position
chosen_by P passes true first tried position rest e h later is = record {
  candidate = first;
  known = h;
  passed =
      e;
  placed = same_Some first.position position is;
}
chosen_by P passes false first tried position rest e h later is = later is

chosen_among : (P : Candidate → Type 0) (passes : Anchor → Bool) (tried : ℕ) (candidates : List Candidate)
    (position : ℕ) → AllByRecursion P candidates → position_chosen (choice_among passes tried candidates)
    ≡ Some position → IsChosen P passes position
chosen_among P passes tried [] position h is = absurd (none-some position is)
chosen_among P passes tried (candidate ∷ candidates) position h is =
    chosen_by P passes (passes candidate.anchor) candidate (tried + 1) position
    (choice_among passes (tried + 1) candidates) refl h.0
    (λ k. chosen_among P passes (tried + 1) candidates position h.1 k) is

-- Both checks bound the cost.

abbrev pub IsBounded : Statement → Statistics → List ℕ → Fraction → TopTree → Type 0
IsBounded q s instance lambda top = (least : ℕ) → IsLeastCost q s instance least
    → top_cost q s instance top * lambda.den ≤ lambda.num * least

reuse_of : (q : Statement) (s : Statistics) (plans : List CachedPlan) (executions : ℕ) (instance : List ℕ)
    (anchor : Anchor) (least : ℕ) (h : IsFaithfulAnchor q s plans executions anchor) → IsSoundVector q s instance
    → IsValidTop q s.indexed h.top → IsLeastCost q s instance least
    → IsReuse q s h.top instance anchor.at least anchor.least
reuse_of q s plans executions instance anchor least h sound valid is_least =
    record {
      valid = valid;
      instance_vector = sound.one_each;
      anchor_vector = h.vector.one_each;
      anchor_counts = counts_some q s anchor.at h.vector;
      least_there = is_least;
      least_known = h.least;
    }

by_selectivity : SelectivityCheckLaw → SelectivityTestLaw
    → (q : Statement) (s : Statistics) (plans : List CachedPlan) (executions : ℕ) (instance : List ℕ)
    (lambda : Fraction) (anchor : Anchor) (h : IsFaithfulAnchor q s plans executions anchor)
    → IsSoundVector q s instance → IsValidTop q s.indexed h.top
    → passes_selectivity_check lambda instance anchor ≡ true → IsBounded q s instance lambda h.top
by_selectivity law tells q s plans executions instance lambda anchor h sound valid passed = λ least is_least.
    law q s h.top instance anchor.at lambda.num lambda.den least anchor.least
    (reuse_of q s plans executions instance anchor least h sound valid is_least)
    (subst (λ cost. PassesSelectivityCheck lambda.num lambda.den cost anchor.least anchor.at instance) h.plan_cost
    ((tells lambda instance anchor).0 passed))

by_cost : CostCheckLaw → CostTestLaw
    → (q : Statement) (s : Statistics) (plans : List CachedPlan) (executions : ℕ) (instance : List ℕ)
    (lambda : Fraction) (anchor : Anchor) (h : IsFaithfulAnchor q s plans executions anchor)
    → IsSoundVector q s instance → IsValidTop q s.indexed h.top
    → passes_cost_check q s lambda instance plans anchor ≡ true → IsBounded q s instance lambda h.top
by_cost law tells q s plans executions instance lambda anchor h sound valid passed = λ least is_least.
    law q s h.top instance anchor.at lambda.num lambda.den least anchor.least
    (reuse_of q s plans executions instance anchor least h sound valid is_least)
    ((tells q s lambda instance plans anchor h.top h.there).0 passed)

-- The choice.

pub valid_there : (cache : CacheState) (q : Statement) (s : Statistics) (executions budget number : ℕ) (top : TopTree)
    → IsFaithfulCache cache q s executions budget → top_numbered cache.plans number ≡ Some top
    → IsValidTop q s.indexed top
valid_there cache q s executions budget number top h there =
    numbered_has (IsValidTop q s.indexed) cache.plans number top
    (each_to (IsFaithfulPlan q s cache.anchors cache.next_plan) (λ plan. IsValidTop q s.indexed plan.top)
    (λ plan k. k.valid) cache.plans
    (each_from (IsFaithfulPlan q s cache.anchors cache.next_plan) cache.plans h.plans)) there

within_bound : (cache : CacheState) (q : Statement) (s : Statistics) (executions : ℕ) (instance : List ℕ)
    (lambda : Fraction) (position : ℕ) (candidate : Candidate)
    (h : IsFaithfulAnchor q s cache.plans executions candidate.anchor)
    → candidate.position ≡ position → slice_get cache.anchors candidate.position ≡ Some candidate.anchor
    → IsValidTop q s.indexed h.top → IsBounded q s instance lambda h.top
    → IsWithinBound cache q s instance lambda position
within_bound cache q s executions instance lambda position candidate h placed there valid bound =
    record {
      anchor = candidate.anchor;
      there = subst (λ p. slice_get cache.anchors p ≡ Some candidate.anchor) placed there;
      top = h.top;
      plan = h.there;
      valid = valid;
      bound = bound;
    }

each_stands : (cache : CacheState) (q : Statement) (s : Statistics) (executions budget : ℕ)
    → IsFaithfulCache cache q s executions budget
    → AllByRecursion (StandsIn cache.anchors (IsFaithfulAnchor q s cache.plans executions))
    (placed_from 0 cache.anchors)
each_stands cache q s executions budget h =
    each_placed (IsFaithfulAnchor q s cache.plans executions) cache.anchors 0 cache.anchors
    (λ k. ap (slice_get cache.anchors) (omega arith))
    (each_from (IsFaithfulAnchor q s cache.plans executions) cache.anchors h.anchors)

-- the anchor that a position stands for
abbrev pub no_anchor : Anchor
no_anchor = record { execution = 0; at = []; plan = 0; plan_cost = 0; least = 0; uses = 0 }

choice_by : SelectivityCheckLaw → CostCheckLaw → SelectivityTestLaw → CostTestLaw
    → (cache : CacheState) (q : Statement) (s : Statistics) (executions budget : ℕ) (instance : List ℕ)
    (lambda : Fraction) (recosts place : ℕ) → IsFaithfulCache cache q s executions budget → IsSoundVector q s instance
    → (found : Option ℕ) → position (passes_selectivity_check lambda instance) cache.anchors ≡ found
    → position_chosen
    (option_map_or BySelectivity found (choice_among (passes_cost_check q s lambda instance cache.plans) 0
    (candidates_of instance recosts cache.anchors))) ≡ Some place
    → IsWithinBound cache q s instance lambda place
choice_by selectivity cost tells_selectivity tells_cost cache q s executions budget instance lambda recosts place h
    sound (Some first) e is =
    let passed = position-Some (passes_selectivity_check lambda instance) cache.anchors first no_anchor e in
    let anchor = slice_index_or cache.anchors first no_anchor in
    let faithful : IsFaithfulAnchor q s cache.plans executions anchor = h.anchors first no_anchor passed.0 in
    let valid = valid_there cache q s executions budget anchor.plan faithful.top h faithful.there in
    within_bound cache q s executions instance lambda place (record { position = first; anchor = anchor }) faithful
    (same_Some first place is) (slice_get-get_or cache.anchors first no_anchor passed.0) valid
    (by_selectivity selectivity tells_selectivity q s cache.plans executions instance lambda anchor faithful sound valid
    passed.1)
choice_by selectivity cost tells_selectivity tells_cost cache q s executions budget instance lambda recosts place h
    sound None e is =
    let among =
    each_take (StandsIn cache.anchors (IsFaithfulAnchor q s cache.plans executions)) recosts
    (by_nearness instance (placed_from 0 cache.anchors))
    (each_in_order (StandsIn cache.anchors (IsFaithfulAnchor q s cache.plans executions)) instance
    (placed_from 0 cache.anchors) (each_stands cache q s executions budget h)) in
    let chosen = chosen_among (StandsIn cache.anchors (IsFaithfulAnchor q s cache.plans executions))
    (passes_cost_check q s lambda instance cache.plans) 0 (candidates_of instance recosts cache.anchors) place among
    is in
    let faithful = chosen.known.1 in
    let valid = valid_there cache q s executions budget chosen.candidate.anchor.plan faithful.top h faithful.there in
    within_bound cache q s executions instance lambda place chosen.candidate faithful chosen.placed chosen.known.0 valid
    (by_cost cost tells_cost q s cache.plans executions instance lambda chosen.candidate.anchor faithful sound valid
    chosen.passed)

pub choice_bounded : SelectivityCheckLaw → CostCheckLaw → SelectivityTestLaw → CostTestLaw
    → (cache : CacheState) (q : Statement) (s : Statistics) (executions budget : ℕ) (instance : List ℕ)
    (lambda : Fraction) (recosts place : ℕ) → IsFaithfulCache cache q s executions budget → IsSoundVector q s instance
    → position_chosen (choice_of cache q s instance lambda recosts) ≡ Some place
    → IsWithinBound cache q s instance lambda place
choice_bounded selectivity cost tells_selectivity tells_cost cache q s executions budget instance lambda recosts place h
    sound is =
    choice_by selectivity cost tells_selectivity tells_cost cache q s executions budget instance lambda recosts place h
    sound
    (position (passes_selectivity_check lambda instance) cache.anchors) refl is
