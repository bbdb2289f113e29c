-- What stays where room is made for a plan, and what is there once it is kept.
use Rattle.std.proofs.Common.{ℕ, ◌≤◌, ◌<◌, ◌++◌, ◌∷◌, [], List, not, length, All, Option, Some, None}
use Rattle.std.proofs.Common.{refl, subst, sym, arith, inl, inr}
use Rattle.std.specs.List.{AllByRecursion, filter}
use Rattle.std.specs.Option.{option_map_or}
use Rattle.std.proofs.lemmas.List.Elements.{All-contains, All-contains_itself}
use Rattle.cache_model.specs.Caches.{Anchor, CacheState, without}
use Rattle.cache_model.specs.Keeping.{evicted_for_room, with_room}
use Rattle.cache_model.proofs.Lists.{all_from, each_filter, each_from, each_push, length-filter}
use Rattle.cache_model.proofs.LookUps.{is_of_other}
use Rattle.plan_recost.specs.declared.kept_costs.Costed.{Costed}
use Rattle.anchor_cache.specs.declared.kept_plans.Kept.{Kept}
use Rattle.anchor_cache.specs.Contents.{Contents, has_number, state_of}
use Rattle.session_engine.specs.Keeping.{WasOrIsNew, plans_with_room}

-- Anchors.

few_by : (cache : CacheState) (limit : ℕ) → length cache.anchors < limit → (gone : Option ℕ)
    → length (option_map_or (without cache) gone cache).anchors < limit
few_by cache limit few None = few
few_by cache limit few (Some number) =
    below (length (filter (is_of_other number) cache.anchors)) (length cache.anchors) limit
    (length-filter (is_of_other number) cache.anchors) few
  where
    below : (a b c : ℕ) → a ≤ b → b < c → a < c
    below a b c x y = omega arith

pub few_with_room : (cache : CacheState) (budget limit : ℕ) → length cache.anchors < limit
    → length (with_room cache budget).anchors < limit
few_with_room cache budget limit few = few_by cache limit few (evicted_for_room cache budget)

each_by : (P : Anchor → Type 0) (cache : CacheState) → AllByRecursion P cache.anchors → (gone : Option ℕ)
    → AllByRecursion P (option_map_or (without cache) gone cache).anchors
each_by P cache h None = h
each_by P cache h (Some number) = each_filter P P (is_of_other number) (λ x _ f. f) cache.anchors h

pub each_with_room : (P : Anchor → Type 0) (cache : CacheState) (budget : ℕ) → All P cache.anchors
    → All P (with_room cache budget).anchors
each_with_room P cache budget h =
    all_from P (with_room cache budget).anchors
    (each_by P cache (each_from P cache.anchors h) (evicted_for_room cache budget))

-- Plans.

pub was_there : (plans : List Kept) (costed : Costed) → All (WasOrIsNew plans costed) plans
was_there plans costed = λ k d less. inl (All-contains_itself plans k d less)

stays_by : (P : Kept → Type 0) (plans : List Kept) → AllByRecursion P plans → (gone : Option ℕ)
    → AllByRecursion P
    (option_map_or (λ number. filter (λ kept. not (has_number number kept)) plans) gone plans)
stays_by P plans h None = h
stays_by P plans h (Some number) =
    each_filter P P (λ kept. not (has_number number kept)) (λ x _ f. f) plans h

pub was_or_is_new : (cache : Contents) (budget : ℕ) (new : Kept)
    → All (WasOrIsNew cache.plans new.costed) (plans_with_room cache budget ++ new ∷ [])
was_or_is_new cache budget new =
    let P = WasOrIsNew cache.plans new.costed in
    all_from P (plans_with_room cache budget ++ new ∷ [])
    (each_push P (plans_with_room cache budget) new
    (stays_by P cache.plans (each_from P cache.plans (was_there cache.plans new.costed))
    (evicted_for_room (state_of cache) budget)) (inr refl))

new_by : (P : Kept → Type 0) (before : List Kept) (costed : Costed) → All P before
    → ((number : ℕ) → P (record { number = number; costed = costed })) → (kept : Kept)
    → WasOrIsNew before costed kept → P kept
new_by P before costed h new kept (inl there) = All-contains P before kept h there
new_by P before costed h new kept (inr same) =
    subst (λ c. P (record { number = kept.number; costed = c })) (sym same) (new kept.number)

-- what each plan had that was there, and the optimum's own has under any number, each plan has afterwards
pub has_after : (P : Kept → Type 0) (before after : List Kept) (costed : Costed) → All P before
    → ((number : ℕ) → P (record { number = number; costed = costed })) → All (WasOrIsNew before costed) after
    → All P after
has_after P before after costed h new was = λ k d less. new_by P before costed h new _ (was k d less)
