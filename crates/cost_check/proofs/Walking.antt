-- The nearest anchors of the end of a list, as it grows towards its front.
use Rattle.std.proofs.Common.{ℕ, zero, suc, ◌≡◌, ◌≤◌, ◌<◌, ◌+◌, ◌-◌, Bool, true, false, cond, List, [], ◌∷◌, length}
use Rattle.std.proofs.Common.{map, take, drop}
use Rattle.std.proofs.Common.{slice_index_or, ap, sym, ◌∙◌, refl, arith}
use Rattle.std.proofs.lemmas.List.{get_or-map, get_or-take, length-map, length-take-le, take-map}
use Rattle.std.proofs.Math.Seq.{drop-cons}
use Rattle.cache_model.specs.Caches.{Anchor}
use Rattle.cache_model.specs.Choices.{Candidate, by_nearness, greater_product, lesser_product, placed_from}
use Rattle.cache_model.specs.Choices.{put_in_order}
use Rattle.cache_model.specs.Choices as choice
use Rattle.anchor_cache.specs.declared.anchors.Anchor as held
use Rattle.anchor_cache.specs.Anchors.{held as to_held}
use Rattle.cost_check.specs.declared.nearest.Near.{Near}
use Rattle.cost_check.specs.Nearest.{near_of, put_near}
use Rattle.cost_check.proofs.Putting.{take_put}

map_by : (instance : List ℕ) (b : Bool) (new first : Candidate) (rest put : List Candidate) (nears : List Near)
    → map (near_of instance) put ≡ nears
    → map (near_of instance) (cond b (first ∷ put) (new ∷ first ∷ rest))
    ≡ cond b (near_of instance first ∷ nears) (near_of instance new ∷ near_of instance first ∷ map (near_of instance)
    rest)
map_by instance true new first rest put nears e = ap (λ xs. near_of instance first ∷ xs) e
map_by instance false new first rest put nears e = refl

put_map : (instance : List ℕ) (new : Candidate) (candidates : List Candidate)
    → map (near_of instance) (put_in_order instance new candidates)
    ≡ put_near (near_of instance new) (map (near_of instance) candidates)
put_map instance new [] = refl
put_map instance new (first ∷ rest) =
    map_by instance (choice.is_nearer instance first.anchor new.anchor) new first rest (put_in_order instance new rest)
    (put_near (near_of instance new) (map (near_of instance) rest)) (put_map instance new rest)

-- the nearest of the anchors from this position on
abbrev pub nearest_from : List ℕ → ℕ → List Anchor → ℕ → List Near
nearest_from instance limit anchors position =
    map (near_of instance) (take limit (by_nearness instance (placed_from position (drop position anchors))))

pub one_before : (instance : List ℕ) (limit : ℕ) (anchors : List Anchor) (position : ℕ) (d : Anchor)
    → position < length anchors
    → take limit (put_near (near_of instance (record {
      position = position;
      anchor = slice_index_or anchors position d;
    }))
    (nearest_from instance limit anchors (position + 1)))
    ≡ nearest_from instance limit anchors position
one_before instance limit anchors position d inside =
    let candidate : Candidate = record { position = position; anchor = slice_index_or anchors position d } in
    let next : suc position ≡ position + 1 = omega arith in
    let later = by_nearness instance (placed_from (position + 1) (drop (position + 1) anchors)) in
    ap (λ nears. take limit (put_near (near_of instance candidate) nears)) (sym (take-map (near_of instance) limit
    later))
    ∙ take_put limit (near_of instance candidate) (map (near_of instance) later)
    ∙ ap (take limit) (sym (put_map instance candidate later))
    ∙ take-map (near_of instance) limit (put_in_order instance candidate later)
    ∙ ap (λ rest. map (near_of instance) (take limit (by_nearness instance (placed_from position rest))))
    (sym (drop-cons anchors position d inside
    ∙ ap (λ n. slice_index_or anchors position d ∷ drop n anchors) next))

pub none_after : (instance : List ℕ) (limit : ℕ) (anchors : List Anchor)
    → nearest_from instance limit anchors (length anchors) ≡ []
none_after instance limit anchors =
    ap (λ rest. map (near_of instance) (take limit (by_nearness instance (placed_from (length anchors) rest))))
    (all_dropped anchors) ∙ ap (map (near_of instance)) (none_taken limit)
  where
    all_dropped : (xs : List Anchor) → drop (length xs) xs ≡ []
    all_dropped [] = refl
    all_dropped (x ∷ xs) = all_dropped xs

    none_taken : (n : ℕ) → take {A = Candidate} n [] ≡ []
    none_taken zero = refl
    none_taken (suc n) = refl

-- One step of the walk.

shorter : {X : Type 0} (m n : ℕ) (xs : List X) → m ≤ n → take m (take n xs) ≡ take m xs
shorter zero n xs less = refl
shorter (suc m) zero xs less = absurd (omega arith)
shorter (suc m) (suc n) [] less = refl
shorter (suc m) (suc n) (x ∷ xs) less = ap (λ rest. x ∷ rest) (shorter m n xs (omega arith))

no_longer : {X : Type 0} (n : ℕ) (xs : List X) → length (take n xs) ≤ length xs
no_longer zero xs = omega arith
no_longer (suc n) [] = omega arith
no_longer (suc n) (x ∷ xs) = let less = no_longer n xs in omega arith

pub front_stays : {X : Type 0} (before all : List X) → before ≡ take (length before) all
    → take (length before - 1) before ≡ take (length (take (length before - 1) before)) all
front_stays before all front =
    let long = length-take-le (length before - 1) before (omega arith) in
    ap (take (length before - 1)) front ∙ shorter (length before - 1) (length before) all (omega arith)
    ∙ ap (λ n. take n all) (sym long)

same_near : (new : Near) (instance : List ℕ) (position : ℕ) (anchor other : Anchor) → new.position ≡ position
    → new.greater ≡ greater_product instance anchor.at → new.lesser ≡ lesser_product instance anchor.at
    → anchor ≡ other
    → new ≡ near_of instance (record { position = position; anchor = other })
same_near new instance position anchor other e f g same =
    ap (λ n. record { position = n; greater = new.greater; lesser = new.lesser }) e
    ∙ ap (λ n. record { position = position; greater = n; lesser = new.lesser }) f
    ∙ ap (λ n. record {
      position = position;
      greater = greater_product instance anchor.at;
      lesser = n;
    }) g ∙ ap (λ a. near_of instance (record { position = position; anchor = a })) same

pub walked : (instance : List ℕ) (limit : ℕ) (all before : List held.Anchor) (anchor : held.Anchor) (new : Near)
    (nears : List Near) → 1 ≤ length before → before ≡ take (length before) all
    → anchor ≡ slice_index_or before (length before - 1) anchor
    → new.position ≡ length (take (length before - 1) before)
    → new.greater ≡ greater_product instance anchor.at → new.lesser ≡ lesser_product instance anchor.at
    → nears ≡ nearest_from instance limit (map to_held all) (length before)
    → take limit (put_near new nears)
    ≡ nearest_from instance limit (map to_held all) (length (take (length before - 1) before))
walked instance limit all before anchor new nears some front is e f g kept =
    let position = length (take (length before - 1) before) in
    let long : position ≡ length before - 1 = length-take-le (length before - 1) before (omega arith) in
    let shown = ap length front in
    let few = no_longer (length before) all in
    let mapped = length-map all to_held in
    let inside : position < length all = omega arith in
    let mapped_inside : position < length (map to_held all) = omega arith in
    let next : position + 1 ≡ length before = omega arith in
    let last : position < length before = omega arith in
    let here : anchor ≡ slice_index_or all position anchor =
    is ∙ ap (λ n. slice_index_or before n anchor) (sym long)
    ∙ ap (λ xs. slice_index_or xs position anchor) front ∙ get_or-take (length before) all position anchor last in
    let there : to_held anchor ≡ slice_index_or (map to_held all) position (to_held anchor) =
    ap to_held here ∙ sym (get_or-map to_held all position anchor (to_held anchor) inside) in
    ap (λ near. take limit (put_near near nears))
    (same_near new instance position (to_held anchor) (slice_index_or (map to_held all) position (to_held anchor)) e f
    g there)
    ∙ ap (λ xs. take limit (put_near (near_of instance (record {
      position = position;
      anchor = slice_index_or (map
          to_held all) position (to_held anchor);
    })) xs))
    (kept ∙ ap (nearest_from instance limit (map to_held all)) (sym next))
    ∙ one_before instance limit (map to_held all) position (to_held anchor) mapped_inside
