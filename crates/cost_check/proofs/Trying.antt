-- The candidates, one after the other: each stands in the list, and the first that passes is the choice.
use Rattle.std.proofs.Common.{ℕ, zero, suc, ◌≡◌, ◌<◌, ◌≤◌, ◌+◌, Bool, true, false, cond, List, [], ◌∷◌, length, drop}
use Rattle.std.proofs.Common.{map, slice_get, slice_index_or, Some, ap, ◌∙◌, refl, subst, arith}
use Rattle.std.specs.List.{AllByRecursion}
use Rattle.std.specs.Option.{option_map_or}
use Rattle.std.proofs.lemmas.List.{get_or_default}
use Rattle.cache_model.specs.Caches.{Anchor}
use Rattle.cache_model.specs.Choices.{ByCost, ByOptimum, Candidate, by_nearness, candidates_of, choice_among}
use Rattle.cache_model.specs.Choices.{placed_from}
use Rattle.cache_model.proofs.Candidates.{StandsIn, each_in_order, each_placed}
use Rattle.cache_model.proofs.Lists.{each_take, each_to}
use Rattle.anchor_cache.specs.declared.anchors.Anchor as held
use Rattle.anchor_cache.specs.Anchors.{held as to_held}
use Rattle.cost_check.specs.declared.nearest.Near.{Near}
use Rattle.cost_check.specs.Nearest.{near_of}

-- Each stands in the list.

abbrev pub IsThere : List Anchor → Candidate → Type 0
IsThere anchors candidate = slice_get anchors candidate.position ≡ Some candidate.anchor

each_any : (anchors : List Anchor) → AllByRecursion (λ _. Unit {0}) anchors
each_any [] = tt
each_any (anchor ∷ anchors) = (tt, each_any anchors)

pub all_there : (instance : List ℕ) (recosts : ℕ) (anchors : List Anchor)
    → AllByRecursion (IsThere anchors) (candidates_of instance recosts anchors)
all_there instance recosts anchors =
    each_take (IsThere anchors) recosts (by_nearness instance (placed_from 0 anchors))
    (each_in_order (IsThere anchors) instance (placed_from 0 anchors)
    (each_to (StandsIn anchors (λ _. Unit {0})) (IsThere anchors) (λ candidate h. h.0) (placed_from 0 anchors)
    (each_placed (λ _. Unit {0}) anchors 0 anchors (λ k. ap (slice_get anchors) (omega arith)) (each_any anchors))))

pub there_at : {X Y : Type 0} (P : X → Type 0) (f : X → Y) (xs : List X) (i : ℕ) (y : Y) → AllByRecursion P xs
    → i < length (map f xs) → y ≡ slice_index_or (map f xs) i y → (x : X) × (y ≡ f x) × P x × (drop i xs
    ≡ x ∷ drop (i + 1) xs)
there_at P f [] i y h less e = absurd (omega arith)
there_at P f (x ∷ xs) zero y h less e = (x, e, h.0, refl)
there_at P f (x ∷ xs) (suc i) y h less e =
    let found = there_at P f xs i y h.1 (omega arith) e in
    let next : i + 1 ≡ suc i = omega arith in
    let after : suc (i + 1) ≡ suc i + 1 = omega arith in
    (found.0, found.1, found.2, found.3 ∙ ap (λ n. found.0 ∷ drop n (x ∷ xs)) after)

pub are_candidates : (instance : List ℕ) (recosts : ℕ) (anchors : List Anchor) (held_anchors : List held.Anchor)
    (nears items : List Near) → nears ≡ items
    → items ≡ map (near_of instance) (candidates_of instance recosts (map to_held held_anchors))
    → map to_held held_anchors ≡ anchors → nears ≡ map (near_of instance) (candidates_of instance recosts anchors)
are_candidates instance recosts anchors held_anchors nears items e f g =
    e ∙ f ∙ ap (λ xs. map (near_of instance) (candidates_of instance recosts xs)) g

-- the near one at a place of the nearest is a candidate, which stands in the list
pub found_at : (instance : List ℕ) (recosts : ℕ) (anchors : List Anchor) (nears : List Near) (i : ℕ) (d : Near)
    → nears ≡ map (near_of instance) (candidates_of instance recosts anchors) → i < length nears
    → (candidate : Candidate) × ((slice_index_or nears i d).position ≡ candidate.position)
    × IsThere anchors candidate
    × (drop i (candidates_of instance recosts anchors) ≡ candidate ∷ drop (i + 1) (candidates_of instance recosts
    anchors))
found_at instance recosts anchors nears i d e less =
    let candidates = candidates_of instance recosts anchors in
    let inside : i < length (map (near_of instance) candidates) = subst (λ xs. i < length xs) e less in
    let found = there_at (IsThere anchors) (near_of instance) candidates i (slice_index_or nears i d)
    (all_there instance recosts anchors) inside
    (ap (λ xs. slice_index_or xs i d) e
    ∙ get_or_default (map (near_of instance) candidates) i d (slice_index_or nears i d) inside) in
    (found.0, ap (λ (near : Near). near.position) found.1, found.2, found.3)

pub tested : (passes : Anchor → Bool) (anchors : List Anchor) (position : ℕ) (candidate : Candidate)
    → position ≡ candidate.position → IsThere anchors candidate
    → option_map_or passes (slice_get anchors position) false ≡ passes candidate.anchor
tested passes anchors position candidate e there =
    ap (λ n. option_map_or passes (slice_get anchors n) false) e ∙ ap (λ o. option_map_or passes o false) there

-- The choice.

pub stops : (passes : Anchor → Bool) (tried : ℕ) (candidate : Candidate) (candidates rest : List Candidate)
    → candidates ≡ candidate ∷ rest → passes candidate.anchor ≡ true
    → choice_among passes tried candidates ≡ ByCost candidate.position (tried + 1)
stops passes tried candidate candidates rest e h = ap (choice_among passes tried) e
    ∙ ap (λ b. cond b (ByCost candidate.position (tried + 1)) (choice_among passes (tried + 1) rest)) h

pub goes_on : (passes : Anchor → Bool) (tried : ℕ) (candidate : Candidate) (candidates rest : List Candidate)
    → candidates ≡ candidate ∷ rest → passes candidate.anchor ≡ false
    → choice_among passes tried candidates ≡ choice_among passes (tried + 1) rest
goes_on passes tried candidate candidates rest e h = ap (choice_among passes tried) e
    ∙ ap (λ b. cond b (ByCost candidate.position (tried + 1)) (choice_among passes (tried + 1) rest)) h

pub none_left : (passes : Anchor → Bool) (tried n : ℕ) (candidates : List Candidate) → length candidates ≤ n
    → choice_among passes tried (drop n candidates) ≡ ByOptimum tried
none_left passes tried n candidates past = ap (choice_among passes tried) (all_dropped n candidates past)
  where
    all_dropped : (m : ℕ) (xs : List Candidate) → length xs ≤ m → drop m xs ≡ []
    all_dropped zero [] less = refl
    all_dropped (suc m) [] less = refl
    all_dropped zero (x ∷ xs) less = absurd (omega arith)
    all_dropped (suc m) (x ∷ xs) less = all_dropped m xs (omega arith)
