-- What is true of every cache stays true through each change.
use Rattle.std.proofs.Common.{ℕ, zero, suc, ◌≡◌, ◌≤◌, ◌<◌, ◌+◌, ◌^◌, ◌||◌, Bool, true, false, cond, not, List, [], ◌∷◌, ◌++◌, length, All, slice_get, Some, ap, sym, ◌∙◌, refl, subst, arith, length-append}
use Rattle.std.specs.List.{AllByRecursion, filter}
use Rattle.std.proofs.lemmas.Bool.{eqb-true, ne_eqb, or_left}
use Rattle.std.proofs.lemmas.List.Folds.{list_any-append}
use Rattle.std.proofs.lemmas.List.Quantifiers.{all_pairs_push}
use Rattle.std.proofs.lemmas.Option.{same_Some}
use Rattle.cache_model.specs.Caches.{Anchor, is_of, used_at}
use Rattle.cache_model.specs.declared.limits.TheConstants.{ANCHOR_LIMIT}
use Rattle.cache_model.proofs.Lists.{all_from, each_filter, each_from, each_push, each_to, each_two_from, length-filter, pairs_from, two_filter}
use Rattle.cache_model.proofs.LookUps.{anchor_is_other, is_of_other}
use Rattle.cache_model.proofs.Reusing.{length_used, rise_used, used}
use Rattle.anchor_cache.specs.declared.kept_plans.Kept.{Kept}
use Rattle.anchor_cache.specs.Contents.{IsCache, IsKeptAnchor, has_number, has_plan}

-- the plan of an anchor is there still
kept_still : (before after : List Kept) (anchor : Anchor)
    → (has_plan before anchor.plan ≡ true → has_plan after anchor.plan ≡ true) → IsKeptAnchor before anchor
    → IsKeptAnchor after anchor
kept_still before after anchor still h =
    record { planned = still h.planned; numbers = h.numbers; least = h.least; plan_cost = h.plan_cost; uses = h.uses }

planned_push : (plans : List Kept) (new : Kept) (number : ℕ) → has_plan plans number ≡ true
    → has_plan (plans ++ new ∷ []) number ≡ true
planned_push plans new number h = list_any-append (has_number number) plans (new ∷ [])
    ∙ or_left (has_plan plans number) (has_plan (new ∷ []) number) h

pub cache_with_plan : (plans : List Kept) (anchors : List Anchor) (new : Kept) → IsCache plans anchors new.number
    → IsCache (plans ++ new ∷ []) anchors (new.number + 1)
cache_with_plan plans anchors new h = record {
  numbers_rise = all_pairs_push (λ a b. a.number < b.number) plans new h.numbers_rise h.given;
  given =
      all_from (λ kept. kept.number < new.number + 1) (plans ++ new ∷ [])
      (each_push (λ kept. kept.number < new.number + 1) plans new
      (each_to (λ kept. kept.number < new.number) (λ kept. kept.number < new.number + 1) (λ kept k. omega arith) plans
      (each_from (λ kept. kept.number < new.number) plans h.given)) (omega arith));
  executions_rise = h.executions_rise;
  kept = λ k d less. kept_still plans (plans ++ new ∷ []) _ (planned_push plans new _) (h.kept k d less);
  few = h.few;
}

pub cache_with_anchor : (plans : List Kept) (anchors : List Anchor) (next : ℕ) (new : Anchor)
    → IsCache plans anchors next → length anchors < ANCHOR_LIMIT
    → All (λ anchor. anchor.execution < new.execution) anchors → IsKeptAnchor plans new
    → IsCache plans (anchors ++ new ∷ []) next
cache_with_anchor plans anchors next new h few later sound = record {
  numbers_rise = h.numbers_rise;
  given = h.given;
  executions_rise = all_pairs_push (λ a b. a.execution < b.execution) anchors new h.executions_rise later;
  kept = all_from (IsKeptAnchor plans) (anchors ++ new ∷ [])
      (each_push (IsKeptAnchor plans) anchors new (each_from (IsKeptAnchor plans) anchors h.kept) sound);
  few = let long = length-append anchors (new ∷ []) in omega arith;
}

-- One use more.

kept_used : (plans : List Kept) (anchor : Anchor) → anchor.uses + 1 < 2 ^ 64 → IsKeptAnchor plans anchor
    → IsKeptAnchor plans (used anchor)
kept_used plans anchor fits h = record {
  planned = h.planned;
  numbers = h.numbers;
  least = h.least;
  plan_cost =
      h.plan_cost;
  uses = fits;
}

each_kept_used : (plans : List Kept) (anchors : List Anchor) (place : ℕ) (anchor : Anchor)
    → slice_get anchors place ≡ Some anchor → anchor.uses + 1 < 2 ^ 64 → AllByRecursion (IsKeptAnchor plans) anchors
    → AllByRecursion (IsKeptAnchor plans) (used_at anchors place)
each_kept_used plans [] place anchor h fits all = tt
each_kept_used plans (first ∷ rest) zero anchor h fits all = (
  kept_used plans first (subst (λ n. n + 1 < 2 ^ 64) (ap (λ a. a.uses)
      (sym (same_Some first anchor h))) fits) all.0,
  all.1,
)
each_kept_used plans (first ∷ rest) (suc place) anchor h fits all =
    (all.0, each_kept_used plans rest place anchor h fits all.1)

pub cache_used : (plans : List Kept) (anchors : List Anchor) (next place : ℕ) (anchor : Anchor)
    → slice_get anchors place ≡ Some anchor → anchor.uses + 1 < 2 ^ 64 → IsCache plans anchors next
    → IsCache plans (used_at anchors place) next
cache_used plans anchors next place anchor there fits h = record {
  numbers_rise = h.numbers_rise;
  given = h.given;
  executions_rise = pairs_from (λ a b. a.execution < b.execution) (used_at anchors place)
      (rise_used anchors place (each_two_from (λ a b. a.execution < b.execution) anchors h.executions_rise));
  kept = all_from (IsKeptAnchor plans) (used_at anchors place)
      (each_kept_used plans anchors place anchor there fits (each_from (IsKeptAnchor plans) anchors h.kept));
  few = subst (λ n. n ≤ ANCHOR_LIMIT) (sym (length_used anchors place)) h.few;
}

-- A plan goes.

planned_by : (b rest other : Bool) → (b || rest) ≡ true → (rest ≡ true → other ≡ true) → (b || other) ≡ true
planned_by true rest other h to = refl
planned_by false rest other h to = to h

planned_kept : (b : Bool) (kept : Kept) (rest : List Kept) (number : ℕ) (before : Bool)
    → (b ≡ true → has_number number kept ≡ false) → (has_number number kept || before) ≡ true
    → (before ≡ true → has_plan rest number ≡ true)
    → has_plan (cond (not b) (kept ∷ rest) rest) number ≡ true
planned_kept true kept rest number before other h later = later (ap (λ t. t || before) (sym (other refl)) ∙ h)
planned_kept false kept rest number before other h later =
    planned_by (has_number number kept) before (has_plan rest number) h later

planned_filter : (gone : ℕ) (plans : List Kept) (number : ℕ) → (number ≡ gone → ⊥) → has_plan plans number ≡ true
    → has_plan (filter (λ kept. not (has_number gone kept)) plans) number ≡ true
planned_filter gone [] number other h = h
planned_filter gone (kept ∷ plans) number other h =
    planned_kept (has_number gone kept) kept (filter (λ kept. not (has_number gone kept)) plans) number
    (has_plan plans number)
    (λ e. ne_eqb kept.number number (λ k. other (sym k ∙ eqb-true kept.number gone e))) h
    (λ k. planned_filter gone plans number other k)

pub cache_without : (plans : List Kept) (anchors : List Anchor) (next gone : ℕ) → IsCache plans anchors next
    → IsCache (filter (λ kept. not (has_number gone kept)) plans)
    (filter (λ anchor. not (is_of gone anchor)) anchors) next
cache_without plans anchors next gone h = record {
  numbers_rise =
      pairs_from (λ a b. a.number < b.number) (filter (λ kept. not (has_number gone kept)) plans)
      (two_filter (λ a b. a.number < b.number) (λ kept. not (has_number gone kept)) plans
      (each_two_from (λ a b. a.number < b.number) plans h.numbers_rise));
  given =
      all_from (λ kept. kept.number < next) (filter (λ kept. not (has_number gone kept)) plans)
      (each_filter (λ kept. kept.number < next) (λ kept. kept.number < next) (λ kept. not (has_number gone kept))
      (λ kept e k. k) plans (each_from (λ kept. kept.number < next) plans h.given));
  executions_rise =
      pairs_from (λ a b. a.execution < b.execution) (filter (is_of_other gone) anchors)
      (two_filter (λ a b. a.execution < b.execution) (is_of_other gone) anchors
      (each_two_from (λ a b. a.execution < b.execution) anchors h.executions_rise));
  kept =
      all_from (IsKeptAnchor (filter (λ kept. not (has_number gone kept)) plans)) (filter (is_of_other gone) anchors)
      (each_filter (IsKeptAnchor plans) (IsKeptAnchor (filter (λ kept. not (has_number gone kept)) plans))
      (is_of_other gone)
      (λ anchor e k. kept_still plans (filter (λ kept. not (has_number gone kept)) plans) anchor
      (planned_filter gone plans anchor.plan (anchor_is_other gone anchor e)) k) anchors
      (each_from (IsKeptAnchor plans) anchors h.kept));
  few = let less = length-filter (is_of_other gone) anchors in let few = h.few in omega arith;
}

pub cache_empty : (next : ℕ) → IsCache [] [] next
cache_empty next = record {
  numbers_rise = λ i j d a b. absurd (omega arith);
  given = λ k d less. absurd (omega arith);
  executions_rise = λ i j d a b. absurd (omega arith);
  kept = λ k d less. absurd (omega arith);
  few = omega arith;
}
