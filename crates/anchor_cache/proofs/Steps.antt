-- All that a cache keeps stays in step through each change.
use Rattle.std.proofs.Common.{ℕ, ◌≡◌, ◌≤◌, ◌<◌, ◌+◌, ◌^◌, ◌==◌, ◌||◌, Bool, true, false, not, List, [], ◌∷◌, ◌++◌, length, map, All, slice_get, Some, ap, sym, ◌∙◌, refl, subst, arith}
use Rattle.std.specs.List.{AllByRecursion, filter}
use Rattle.std.specs.List.Sorted.{IsPermutation}
use Rattle.std.proofs.lemmas.Bool.{eqb-true, false≢true}
use Rattle.std.proofs.lemmas.List.{map-append}
use Rattle.cache_model.specs.Caches.{Anchor, is_of, used_at, uses_of}
use Rattle.cache_model.specs.declared.limits.TheConstants.{ANCHOR_LIMIT}
use Rattle.cache_model.proofs.Lists.{all_from, each_from, each_to}
use Rattle.anchor_cache.specs.declared.kept_plans.Kept.{Kept}
use Rattle.anchor_cache.specs.declared.kept_plans.PlanUses.{PlanUses}
use Rattle.anchor_cache.specs.declared.window.WindowEntry.{WindowEntry}
use Rattle.anchor_cache.specs.Contents.{IsCache, IsInStep, IsKeptAnchor, has_number, has_plan}
use Rattle.anchor_cache.specs.Sums.{sum_of, sums_of, used_more}
use Rattle.anchor_cache.specs.Window.{IsOrdered}
use Rattle.anchor_cache.proofs.Changes.{cache_used, cache_with_anchor, cache_with_plan, cache_without}
use Rattle.anchor_cache.proofs.Summing.{sums_filter, sums_more, uses_few, uses_filter, uses_none, uses_pushed, uses_used}
use Rattle.anchor_cache.proofs.Views.{entries_used}

-- an anchor's plan was given before the next
planned_before : (plans : List Kept) (number next : ℕ) → AllByRecursion (λ kept. kept.number < next) plans
    → has_plan plans number ≡ true → number < next
planned_before [] number next h there = absurd (false≢true there)
planned_before (kept ∷ plans) number next h there = planned_by (kept.number == number) kept.number number next
    (has_plan plans number) h.0 (λ e. eqb-true kept.number number e) (planned_before plans number next h.1) there refl
  where
    planned_by : (b : Bool) (first number next : ℕ) (rest : Bool) → first < next → (b ≡ true → first ≡ number)
        → (rest ≡ true → number < next) → (b || rest) ≡ true → b ≡ b → number < next
    planned_by true first number next rest less same later h e = let k = same refl in omega arith
    planned_by false first number next rest less same later h e = later h

unused : (plans : List Kept) (anchors : List Anchor) (next : ℕ) → IsCache plans anchors next → uses_of anchors next ≡ 0
unused plans anchors next h =
    uses_none anchors next
    (each_to (IsKeptAnchor plans) (λ anchor. anchor.plan < next)
    (λ anchor k. planned_before plans anchor.plan next
    (each_from (λ kept. kept.number < next) plans h.given) k.planned) anchors
    (each_from (IsKeptAnchor plans) anchors h.kept))

pub step_with_plan : (plans : List Kept) (anchors : List Anchor) (sums : List PlanUses) (entries : List WindowEntry)
    (new : Kept) → IsInStep plans anchors new.number sums entries
    → IsInStep (plans ++ new ∷ []) anchors (new.number + 1)
    (sums ++ record { plan = new.number; uses = 0 } ∷ []) entries
step_with_plan plans anchors sums entries new h =
    let none : record { plan = new.number; uses = 0 } ≡ sum_of anchors new =
    ap (λ n. record { plan = new.number; uses = n }) (sym (unused plans anchors new.number h.cache)) in
    record {
      cache = cache_with_plan plans anchors new h.cache;
      summed = ap (λ xs. xs ++ record { plan = new.number; uses = 0 } ∷ []) h.summed
          ∙ ap (λ sum. sums_of plans anchors ++ sum ∷ []) none ∙ sym (map-append (sum_of anchors) plans (new ∷ []));
      ordered = h.ordered;
    }

pub step_with_anchor : (plans : List Kept) (anchors : List Anchor) (next : ℕ) (sums : List PlanUses)
    (before after : List WindowEntry) (new : Anchor) → IsInStep plans anchors next sums before
    → length anchors < ANCHOR_LIMIT
    → All (λ anchor. anchor.execution < new.execution) anchors → IsKeptAnchor plans new
    → IsOrdered (anchors ++ new ∷ []) after → IsInStep plans (anchors ++ new ∷ []) next
    (map (used_more new.plan new.uses) sums) after
step_with_anchor plans anchors next sums before after new h few later sound ordered =
    record {
      cache = cache_with_anchor plans anchors next new h.cache few later sound;
      summed = ap (map (used_more new.plan new.uses)) h.summed
          ∙ sums_more plans anchors (anchors ++ new ∷ []) new.plan new.uses (uses_pushed anchors new);
      ordered = ordered;
    }

pub step_used : (plans : List Kept) (anchors : List Anchor) (next : ℕ) (sums : List PlanUses)
    (entries : List WindowEntry) (place : ℕ) (anchor : Anchor) → slice_get anchors place ≡ Some anchor
    → anchor.uses + 1 < 2 ^ 64
    → IsInStep plans anchors next sums entries → IsInStep plans (used_at anchors place) next
    (map (used_more anchor.plan 1) sums) entries
step_used plans anchors next sums entries place anchor there fits h =
    record {
      cache = cache_used plans anchors next place anchor there fits h.cache;
      summed = ap (map (used_more anchor.plan 1)) h.summed
          ∙ sums_more plans anchors (used_at anchors place) anchor.plan 1
          (λ number. uses_used anchors place anchor number there);
      ordered = record {
        each = subst (λ xs. IsPermutation xs entries)
            (sym (entries_used anchors place)) h.ordered.each;
        rising = h.ordered.rising;
      };
    }

pub step_without : (plans : List Kept) (anchors : List Anchor) (next gone : ℕ) (sums : List PlanUses)
    (before after : List WindowEntry) → IsInStep plans anchors next sums before
    → IsOrdered (filter (λ anchor. not (is_of gone anchor)) anchors) after
    → IsInStep (filter (λ kept. not (has_number gone kept)) plans)
    (filter (λ anchor. not (is_of gone anchor)) anchors) next (filter (λ sum. not (sum.plan == gone)) sums) after
step_without plans anchors next gone sums before after h ordered =
    record {
      cache = cache_without plans anchors next gone h.cache;
      summed = ap (filter (λ sum. not (sum.plan == gone))) h.summed
          ∙ sums_filter gone plans anchors (filter (λ anchor. not (is_of gone anchor)) anchors)
          (λ number other. uses_filter gone anchors number other);
      ordered = ordered;
    }

-- Sums stay below 2 ^ 128.

each_sum : (plans : List Kept) (anchors : List Anchor) (more : ℕ)
    → ((number : ℕ) → uses_of anchors number + more < 2 ^ 128)
    → AllByRecursion (λ sum. sum.uses + more < 2 ^ 128) (sums_of plans anchors)
each_sum [] anchors more h = tt
each_sum (kept ∷ plans) anchors more h = (h kept.number, each_sum plans anchors more h)

pub sums_fit : (plans : List Kept) (anchors : List Anchor) (next : ℕ) (sums : List PlanUses)
    (entries : List WindowEntry) (more : ℕ) → more < 2 ^ 64 → IsInStep plans anchors next sums entries
    → All (λ sum. sum.uses + more < 2 ^ 128) sums
sums_fit plans anchors next sums entries more small h =
    subst (All (λ sum. sum.uses + more < 2 ^ 128)) (sym h.summed)
    (all_from (λ sum. sum.uses + more < 2 ^ 128) (sums_of plans anchors)
    (each_sum plans anchors more
    (λ number.
    let few : length anchors ≤ ANCHOR_LIMIT = h.cache.few in
    let all = uses_few anchors number (each_to (IsKeptAnchor plans) (λ anchor. anchor.uses < 2 ^ 64)
    (λ anchor k. k.uses) anchors (each_from (IsKeptAnchor plans) anchors h.cache.kept)) in
    omega arith)))
