-- The candidates are the anchors of the list, the nearest first.
use Rattle.std.proofs.Common.{ℕ, suc, ◌≡◌, ◌≤◌, ◌<◌, ◌+◌, ◌*◌, inl, inr, min, Bool, true, false, cond, List, [], ◌∷◌}
use Rattle.std.proofs.Common.{length, slice_get, All, Option, Some, ap, ◌∙◌, refl, arith, mul-le-mul, mul-le-mul_right}
use Rattle.std.specs.List.{AllByRecursion}
use Rattle.std.proofs.lemmas.Bool.{le-ltb, ltb-false, ltb-true}
use Rattle.cost_model.proofs.CheckBounds.{divided, order_five}
use Rattle.cache_model.specs.Caches.{Anchor}
use Rattle.cache_model.specs.Choices.{Candidate, by_nearness, greater_product, is_nearer, lesser_product, placed_from}
use Rattle.cache_model.specs.Choices.{put_in_order}
use Rattle.cache_model.specs.Laws.{AreByNearness, ComesBefore}
use Rattle.cache_model.proofs.Lists.{EachTwo, all_from, each_both, each_from, each_to, pairs_from}

-- Candidates are anchors of the list.

abbrev pub StandsIn : List Anchor → (Anchor → Type 0) → Candidate → Type 0
StandsIn anchors P candidate = (slice_get anchors candidate.position ≡ Some candidate.anchor) × P candidate.anchor

next_place : (all : List Anchor) (n k : ℕ) (x : Option Anchor) → slice_get all (n + suc k) ≡ x
    → slice_get all (n + 1 + k) ≡ x
next_place all n k x e = let same : n + 1 + k ≡ n + suc k = omega arith in ap (slice_get all) same ∙ e

first_place : (all : List Anchor) (n : ℕ) (x : Option Anchor) → slice_get all (n + 0) ≡ x → slice_get all n ≡ x
first_place all n x e = let same : n ≡ n + 0 = omega arith in ap (slice_get all) same ∙ e

pub each_placed : (P : Anchor → Type 0) (all : List Anchor) (n : ℕ) (anchors : List Anchor)
    → ((k : ℕ) → slice_get all (n + k) ≡ slice_get anchors k) → AllByRecursion P anchors
    → AllByRecursion (StandsIn all P) (placed_from n anchors)
each_placed P all n [] at h = tt
each_placed P all n (anchor ∷ anchors) at h = (
  (first_place all n (Some anchor) (at 0), h.0),
  each_placed P all (n + 1) anchors
      (λ k. next_place all n k (slice_get anchors k) (at (suc k))) h.1,
)

put_by : (P : Candidate → Type 0) (b : Bool) (new first : Candidate) (rest others : List Candidate) → P new → P first
    → AllByRecursion P rest → AllByRecursion P others → AllByRecursion P (cond b (first ∷ others) (new ∷ first ∷ rest))
put_by P true new first rest others n f r o = (f, o)
put_by P false new first rest others n f r o = (n, (f, r))

each_put : (P : Candidate → Type 0) (instance : List ℕ) (new : Candidate) (candidates : List Candidate) → P new
    → AllByRecursion P candidates → AllByRecursion P (put_in_order instance new candidates)
each_put P instance new [] n h = (n, tt)
each_put P instance new (candidate ∷ candidates) n h =
    put_by P (is_nearer instance candidate.anchor new.anchor) new candidate candidates
    (put_in_order instance new candidates) n h.0 h.1 (each_put P instance new candidates n h.1)

pub each_in_order : (P : Candidate → Type 0) (instance : List ℕ) (candidates : List Candidate)
    → AllByRecursion P candidates → AllByRecursion P (by_nearness instance candidates)
each_in_order P instance [] h = tt
each_in_order P instance (candidate ∷ candidates) h =
    each_put P instance candidate (by_nearness instance candidates) h.0 (each_in_order P instance candidates h.1)

-- Nearness is an order, where no number is 0.

-- of three ratios the first is at most the third, where no middle divisor is 0
ratios_rise : (n d m e k f : ℕ) → 1 ≤ e → n * e ≤ m * d → m * f ≤ k * e → n * f ≤ k * d
ratios_rise n d m e k f some first second =
    let a : n * e * f ≤ m * d * f = mul-le-mul_right f first in
    let b : m * f * d ≤ k * e * d = mul-le-mul_right d second in
    let g = order_five n e f in
    let h = order_five m d f in
    let j = order_five k e d in
    let both : n * f * e ≤ k * d * e = omega arith in
    divided (n * f) (k * d) e some both

no_farther : (instance : List ℕ) (a b : Candidate) → ComesBefore instance a b → is_nearer instance b.anchor a.anchor
    ≡ false
no_farther instance a b (inl near) =
    let less = ltb-true (greater_product instance a.anchor.at * lesser_product instance b.anchor.at)
    (greater_product instance b.anchor.at * lesser_product instance a.anchor.at) near in
    le-ltb (greater_product instance b.anchor.at * lesser_product instance a.anchor.at)
    (greater_product instance a.anchor.at * lesser_product instance b.anchor.at) (omega arith)
no_farther instance a b (inr later) = later.0

not_nearer : (instance : List ℕ) (a b c : Candidate) → 1 ≤ lesser_product instance b.anchor.at
    → is_nearer instance b.anchor a.anchor ≡ false → is_nearer instance c.anchor b.anchor ≡ false
    → is_nearer instance c.anchor a.anchor ≡ false
not_nearer instance a b c some first second =
    le-ltb (greater_product instance c.anchor.at * lesser_product instance a.anchor.at)
    (greater_product instance a.anchor.at * lesser_product instance c.anchor.at)
    (ratios_rise (greater_product instance a.anchor.at) (lesser_product instance a.anchor.at)
    (greater_product instance b.anchor.at) (lesser_product instance b.anchor.at)
    (greater_product instance c.anchor.at) (lesser_product instance c.anchor.at) some
    (ltb-false (greater_product instance b.anchor.at * lesser_product instance a.anchor.at)
    (greater_product instance a.anchor.at * lesser_product instance b.anchor.at) first)
    (ltb-false (greater_product instance c.anchor.at * lesser_product instance b.anchor.at)
    (greater_product instance b.anchor.at * lesser_product instance c.anchor.at) second))

-- Putting one more in its place.

abbrev pub IsEarlier : Candidate → Candidate → Type 0
IsEarlier a b = a.position < b.position

abbrev pub HasNumbers : List ℕ → Candidate → Type 0
HasNumbers instance candidate = 1 ≤ lesser_product instance candidate.anchor.at

before_rest : (instance : List ℕ) (new first : Candidate) → HasNumbers instance first
    → is_nearer instance first.anchor new.anchor ≡ false → (x : Candidate) → ComesBefore instance first x
    × IsEarlier new x → ComesBefore instance new x
before_rest instance new first some far x h =
    inr (not_nearer instance new first x some far (no_farther instance first x h.0), h.1)

put_ordered_by : (instance : List ℕ) (b : Bool) (new first : Candidate) (rest : List Candidate)
    → is_nearer instance first.anchor new.anchor ≡ b → HasNumbers instance first
    → AllByRecursion (IsEarlier new) (first ∷ rest) → AllByRecursion (ComesBefore instance first) rest
    → EachTwo (ComesBefore instance) rest → EachTwo (ComesBefore instance) (put_in_order instance new rest)
    → EachTwo (ComesBefore instance) (cond b (first ∷ put_in_order instance new rest) (new ∷ first ∷ rest))
put_ordered_by instance true new first rest e some earlier before two put =
    (each_put (ComesBefore instance first) instance new rest (inl e) before, put)
put_ordered_by instance false new first rest e some earlier before two put = (
  (
    inr (e, earlier.0),
    each_to (λ x. ComesBefore instance first x × IsEarlier new x) (ComesBefore instance new)
        (before_rest instance new first some e) rest
        (each_both (ComesBefore instance first) (IsEarlier new) rest before earlier.1),
  ),
  (before, two),
)

put_ordered : (instance : List ℕ) (new : Candidate) (candidates : List Candidate)
    → AllByRecursion (HasNumbers instance) candidates → AllByRecursion (IsEarlier new) candidates
    → EachTwo (ComesBefore instance) candidates → EachTwo (ComesBefore instance) (put_in_order instance new candidates)
put_ordered instance new [] some earlier two = (tt, tt)
put_ordered instance new (first ∷ rest) some earlier two =
    put_ordered_by instance (is_nearer instance first.anchor new.anchor) new first rest refl some.0 earlier two.0 two.1
    (put_ordered instance new rest some.1 earlier.1 two.1)

ordered : (instance : List ℕ) (candidates : List Candidate) → AllByRecursion (HasNumbers instance) candidates
    → EachTwo IsEarlier candidates → EachTwo (ComesBefore instance) (by_nearness instance candidates)
ordered instance [] some rising = tt
ordered instance (candidate ∷ candidates) some rising =
    put_ordered instance candidate (by_nearness instance candidates)
    (each_in_order (HasNumbers instance) instance candidates some.1)
    (each_in_order (IsEarlier candidate) instance candidates rising.0) (ordered instance candidates some.1 rising.1)

-- None is lost.

length_by : (b : Bool) (new first : Candidate) (rest put : List Candidate) → length put ≡ suc (length rest)
    → length (cond b (first ∷ put) (new ∷ first ∷ rest)) ≡ suc (suc (length rest))
length_by true new first rest put e = ap (λ (n : ℕ). suc n) e
length_by false new first rest put e = refl

length_put : (instance : List ℕ) (new : Candidate) (candidates : List Candidate)
    → length (put_in_order instance new candidates) ≡ suc (length candidates)
length_put instance new [] = refl
length_put instance new (first ∷ rest) =
    length_by (is_nearer instance first.anchor new.anchor) new first rest (put_in_order instance new rest)
    (length_put instance new rest)

length_ordered : (instance : List ℕ) (candidates : List Candidate) → length (by_nearness instance candidates)
    ≡ length candidates
length_ordered instance [] = refl
length_ordered instance (candidate ∷ candidates) = length_put instance candidate (by_nearness instance candidates)
    ∙ ap (λ (n : ℕ). suc n) (length_ordered instance candidates)

length_placed : (n : ℕ) (anchors : List Anchor) → length (placed_from n anchors) ≡ length anchors
length_placed n [] = refl
length_placed n (anchor ∷ anchors) = ap (λ (m : ℕ). suc m) (length_placed (n + 1) anchors)

-- All of it.

each_later : (n : ℕ) (first : ℕ) (anchors : List Anchor) → n < first
    → AllByRecursion (λ candidate. n < candidate.position) (placed_from first anchors)
each_later n first [] less = tt
each_later n first (anchor ∷ anchors) less = (less, each_later n (first + 1) anchors (omega arith))

places_rise : (n : ℕ) (anchors : List Anchor) → EachTwo IsEarlier (placed_from n anchors)
places_rise n [] = tt
places_rise n (anchor ∷ anchors) = (each_later n (n + 1) anchors (omega arith), places_rise (n + 1) anchors)

some_least : (xs ys : List ℕ) → AllByRecursion (λ x. 1 ≤ x) xs → AllByRecursion (λ y. 1 ≤ y) ys
    → 1 ≤ lesser_product xs ys
some_least [] ys h k = omega arith
some_least (x ∷ xs) [] h k = omega arith
some_least (x ∷ xs) (y ∷ ys) h k =
    let a : 1 ≤ x = h.0 in
    let b : 1 ≤ y = k.0 in
    let first : 1 ≤ min x y = omega arith in
    mul-le-mul {n₁ = 1} {m₁ = 1} first (some_least xs ys h.1 k.1)

pub are_by_nearness : (instance : List ℕ) (anchors : List Anchor) → All (λ n. 1 ≤ n) instance
    → All (λ anchor. All (λ n. 1 ≤ n) anchor.at) anchors
    → AreByNearness instance anchors (by_nearness instance (placed_from 0 anchors))
are_by_nearness instance anchors counts vectors =
    let some = each_to (λ anchor. All (λ n. 1 ≤ n) anchor.at) (λ anchor. 1 ≤ lesser_product instance anchor.at)
    (λ anchor h. some_least instance anchor.at (each_from (λ n. 1 ≤ n) instance counts)
    (each_from (λ n. 1 ≤ n) anchor.at h)) anchors
    (each_from (λ anchor. All (λ n. 1 ≤ n) anchor.at) anchors vectors) in
    let placed = each_placed (λ anchor. 1 ≤ lesser_product instance anchor.at) anchors 0 anchors
    (λ k. ap (slice_get anchors) (omega arith)) some in
    let stand = StandsIn anchors (λ anchor. 1 ≤ lesser_product instance anchor.at) in
    record {
      placed =
          all_from (λ candidate. slice_get anchors candidate.position
          ≡ Some candidate.anchor) (by_nearness instance (placed_from 0 anchors))
          (each_to stand (λ candidate. slice_get anchors candidate.position
          ≡ Some candidate.anchor) (λ candidate h. h.0) (by_nearness instance (placed_from 0 anchors))
          (each_in_order stand instance (placed_from 0 anchors) placed));
      whole = length_ordered instance (placed_from 0 anchors) ∙ length_placed 0 anchors;
      in_order =
          pairs_from (ComesBefore instance) (by_nearness instance (placed_from 0 anchors))
          (ordered instance (placed_from 0 anchors) (each_to stand (HasNumbers instance) (λ candidate h. h.1)
          (placed_from 0 anchors) placed) (places_rise 0 anchors));
    }
