-- A plan goes with its anchors: what stays is faithful.
use Rattle.std.proofs.Common.{ℕ, ◌≡◌, ◌≢◌, ◌<◌, Bool, true, List, ap, le_trans}
use Rattle.std.specs.List.{AllPairs, filter}
use Rattle.row_values.specs.Statements.{Statement}
use Rattle.plan_trees.specs.Statistics.{Statistics}
use Rattle.cache_model.specs.Caches.{Anchor, CachedPlan, CacheState, without}
use Rattle.cache_model.specs.Faithful.{IsFaithfulAnchor, IsFaithfulCache, IsFaithfulPlan}
use Rattle.cache_model.proofs.Lists.{all_from, each_filter, each_from, each_two_from, length-filter, pairs_from}
use Rattle.cache_model.proofs.Lists.{two_filter}
use Rattle.cache_model.proofs.LookUps.{anchor_is_other, anchored_filter, is_of_other, is_other, numbered_filter}
use Rattle.cache_model.proofs.LookUps.{plan_is_other}

plan_stays : (q : Statement) (s : Statistics) (anchors : List Anchor) (next gone : ℕ) (plan : CachedPlan)
    → is_other gone plan ≡ true → IsFaithfulPlan q s anchors next plan
    → IsFaithfulPlan q s (filter (is_of_other gone) anchors) next plan
plan_stays q s anchors next gone plan other h =
    record {
      valid = h.valid;
      anchored =
          anchored_filter gone anchors plan.number (plan_is_other gone plan other) h.anchored;
      given = h.given;
    }

anchor_stays : (q : Statement) (s : Statistics) (plans : List CachedPlan) (executions gone : ℕ) (anchor : Anchor)
    → is_of_other gone anchor ≡ true → IsFaithfulAnchor q s plans executions anchor
    → IsFaithfulAnchor q s (filter (is_other gone) plans) executions anchor
anchor_stays q s plans executions gone anchor other h =
    record {
      vector = h.vector;
      top = h.top;
      there = numbered_filter gone plans anchor.plan h.top (anchor_is_other gone anchor other) h.there;
      plan_cost = h.plan_cost;
      least = h.least;
      execution = h.execution;
      uses = h.uses;
    }

pairs_stay : {X : Type 0} (R : X → X → Type 0) (p : X → Bool) (xs : List X) → AllPairs R xs → AllPairs R (filter p xs)
pairs_stay R p xs h = pairs_from R (filter p xs) (two_filter R p xs (each_two_from R xs h))

pub faithful_without : (cache : CacheState) (q : Statement) (s : Statistics) (executions budget gone : ℕ)
    → IsFaithfulCache cache q s executions budget → IsFaithfulCache (without cache gone) q s executions budget
faithful_without cache q s executions budget gone h =
    record {
      plans =
          all_from (IsFaithfulPlan q s (filter (is_of_other gone) cache.anchors) cache.next_plan)
          (filter (is_other gone) cache.plans)
          (each_filter (IsFaithfulPlan q s cache.anchors cache.next_plan)
          (IsFaithfulPlan q s (filter (is_of_other gone) cache.anchors) cache.next_plan) (is_other gone)
          (plan_stays q s cache.anchors cache.next_plan gone) cache.plans
          (each_from (IsFaithfulPlan q s cache.anchors cache.next_plan) cache.plans h.plans));
      anchors =
          all_from (IsFaithfulAnchor q s (filter (is_other gone) cache.plans) executions)
          (filter (is_of_other gone) cache.anchors)
          (each_filter (IsFaithfulAnchor q s cache.plans executions)
          (IsFaithfulAnchor q s (filter (is_other gone) cache.plans) executions) (is_of_other gone)
          (anchor_stays q s cache.plans executions gone) cache.anchors
          (each_from (IsFaithfulAnchor q s cache.plans executions) cache.anchors h.anchors));
      numbers_rise = pairs_stay (λ a b. a.number < b.number) (is_other gone) cache.plans h.numbers_rise;
      executions_rise =
          pairs_stay (λ a b. a.execution < b.execution) (is_of_other gone) cache.anchors h.executions_rise;
      no_two_same = pairs_stay (λ a b. a.top ≢ b.top) (is_other gone) cache.plans h.no_two_same;
      few_plans = le_trans (length-filter (is_other gone) cache.plans) h.few_plans;
      few_anchors = le_trans (length-filter (is_of_other gone) cache.anchors) h.few_anchors;
      no_plan_if_wide = λ wide. ap (λ plans. filter (is_other gone) plans) (h.no_plan_if_wide wide);
      no_anchor_if_wide = λ wide. ap (λ anchors. filter (is_of_other gone) anchors) (h.no_anchor_if_wide wide);
    }
