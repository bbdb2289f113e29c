-- Caches that are empty, that stay as they are, and that are used again: they are faithful.
use Rattle.std.proofs.Common.{ℕ, zero, suc, ◌≡◌, ◌≤◌, ◌<◌, ◌+◌, List, [], ◌∷◌, length, ap, sym, ◌∙◌, refl, subst, arith}
use Rattle.std.proofs.Common.{le_trans}
use Rattle.std.specs.List.{AllByRecursion}
use Rattle.row_values.specs.Statements.{Statement}
use Rattle.plan_trees.specs.Statistics.{Statistics, IsWithin}
use Rattle.cache_model.specs.Caches.{Anchor, CachedPlan, CacheState, reused, used_at}
use Rattle.cache_model.specs.Faithful.{IsFaithfulAnchor, IsFaithfulCache, IsFaithfulPlan}
use Rattle.cache_model.specs.declared.limits.TheConstants.{ANCHOR_LIMIT}
use Rattle.cache_model.proofs.Lists.{EachTwo, all_from, each_from, each_to, each_two_from, pairs_from}
use Rattle.cache_model.proofs.LookUps.{anchored_used}

within_more : (few more n : ℕ) → few ≤ more → IsWithin few n → IsWithin more n
within_more few more n less h = record { low = h.low; high = le_trans h.high less }

pub anchor_later : (q : Statement) (s : Statistics) (plans : List CachedPlan) (executions later : ℕ)
    → executions ≤ later → (anchor : Anchor) → IsFaithfulAnchor q s plans executions anchor
    → IsFaithfulAnchor q s plans later anchor
anchor_later q s plans executions later less anchor h =
    record {
      vector = h.vector;
      top = h.top;
      there = h.there;
      plan_cost = h.plan_cost;
      least = h.least;
      execution = le_trans h.execution less;
      uses = within_more executions later anchor.uses less h.uses;
    }

pub faithful_after : (cache : CacheState) (q : Statement) (s : Statistics) (executions later budget more : ℕ)
    → executions ≤ later → budget ≤ more → IsFaithfulCache cache q s executions budget
    → IsFaithfulCache cache q s later more
faithful_after cache q s executions later budget more less few h =
    record {
      plans = h.plans;
      anchors = λ k d inside. anchor_later q s cache.plans executions later less _ (h.anchors k d inside);
      numbers_rise = h.numbers_rise;
      executions_rise = h.executions_rise;
      no_two_same = h.no_two_same;
      few_plans = le_trans h.few_plans few;
      few_anchors = h.few_anchors;
      no_plan_if_wide = h.no_plan_if_wide;
      no_anchor_if_wide = h.no_anchor_if_wide;
    }

-- One use more.

abbrev pub used : Anchor → Anchor
used anchor = record anchor { uses = anchor.uses + 1 }

pub each_used : (P Q : Anchor → Type 0) → ((anchor : Anchor) → P anchor → Q anchor)
    → ((anchor : Anchor) → P anchor → Q (used anchor)) → (anchors : List Anchor) (position : ℕ)
    → AllByRecursion P anchors → AllByRecursion Q (used_at anchors position)
each_used P Q to more [] position h = tt
each_used P Q to more (anchor ∷ anchors) zero h = (more anchor h.0, each_to P Q to anchors h.1)
each_used P Q to more (anchor ∷ anchors) (suc position) h = (to anchor h.0, each_used P Q to more anchors position h.1)

abbrev pub Rises : Anchor → Anchor → Type 0
Rises a b = a.execution < b.execution

pub rise_used : (anchors : List Anchor) (position : ℕ) → EachTwo Rises anchors → EachTwo Rises (used_at anchors position)
rise_used [] position h = tt
rise_used (anchor ∷ anchors) zero h = (h.0, h.1)
rise_used (anchor ∷ anchors) (suc position) h = (
  each_used (Rises anchor) (Rises anchor) (λ other k. k) (λ other k. k) anchors position h.0,
  rise_used anchors position h.1,
)

pub length_used : (anchors : List Anchor) (position : ℕ) → length (used_at anchors position) ≡ length anchors
length_used [] position = refl
length_used (anchor ∷ anchors) zero = refl
length_used (anchor ∷ anchors) (suc position) = ap (λ (n : ℕ). suc n) (length_used anchors position)

one_more : (executions n : ℕ) → IsWithin executions n → IsWithin (executions + 1) (n + 1)
one_more executions n h = let low : 1 ≤ n = h.low in let high : n ≤ executions =
    h.high in record { low = omega arith; high = omega arith }

anchor_used : (q : Statement) (s : Statistics) (plans : List CachedPlan) (executions : ℕ) (anchor : Anchor)
    → IsFaithfulAnchor q s plans executions anchor → IsFaithfulAnchor q s plans (executions + 1) (used anchor)
anchor_used q s plans executions anchor h =
    record {
      vector = h.vector;
      top = h.top;
      there = h.there;
      plan_cost = h.plan_cost;
      least = h.least;
      execution = le_trans h.execution (omega arith);
      uses = one_more executions anchor.uses h.uses;
    }

plan_used : (q : Statement) (s : Statistics) (anchors : List Anchor) (position next : ℕ) (plan : CachedPlan)
    → IsFaithfulPlan q s anchors next plan → IsFaithfulPlan q s (used_at anchors position) next plan
plan_used q s anchors position next plan h =
    record { valid = h.valid; anchored = anchored_used anchors position plan.number ∙ h.anchored; given = h.given }

pub faithful_reused : (cache : CacheState) (q : Statement) (s : Statistics) (executions budget position : ℕ)
    → IsFaithfulCache cache q s executions budget → IsFaithfulCache (reused cache position) q s (executions + 1) budget
faithful_reused cache q s executions budget position h =
    record {
      plans = λ k d inside. plan_used q s cache.anchors position cache.next_plan _ (h.plans k d inside);
      anchors =
          all_from (IsFaithfulAnchor q s cache.plans (executions + 1)) (used_at cache.anchors position)
          (each_used (IsFaithfulAnchor q s cache.plans executions) (IsFaithfulAnchor q s cache.plans (executions + 1))
          (anchor_later q s cache.plans executions (executions + 1) (omega arith))
          (anchor_used q s cache.plans executions) cache.anchors position
          (each_from (IsFaithfulAnchor q s cache.plans executions) cache.anchors h.anchors));
      numbers_rise = h.numbers_rise;
      executions_rise =
          pairs_from Rises (used_at cache.anchors position)
          (rise_used cache.anchors position (each_two_from Rises cache.anchors h.executions_rise));
      no_two_same = h.no_two_same;
      few_plans = h.few_plans;
      few_anchors = subst (λ n. n ≤ ANCHOR_LIMIT) (sym (length_used cache.anchors position)) h.few_anchors;
      no_plan_if_wide = h.no_plan_if_wide;
      no_anchor_if_wide = λ wide. ap (λ anchors. used_at anchors position) (h.no_anchor_if_wide wide);
    }
