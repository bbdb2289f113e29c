-- The numbers of a faithful cache and of sound vectors are small enough to be computed with.
use Rattle.std.proofs.Common.{ℕ, zero, suc, ◌≡◌, ◌≤◌, ◌<◌, ◌^◌, max, true, List, [], ◌∷◌, length, map, slice_index, ap}
use Rattle.std.proofs.Common.{sym, ◌∙◌, refl, subst, arith}
use Rattle.std.specs.List.{AllByRecursion}
use Rattle.row_values.specs.Statements.{Statement, IsSoundQuery}
use Rattle.plan_trees.specs.PlaceSets.{all_below, has}
use Rattle.plan_trees.specs.PlanSpace.{IsValidTop}
use Rattle.plan_trees.specs.Statistics.{Statistics, IsSoundStats, IsSoundVector, IsWithin, selectivity_places}
use Rattle.cost_model.specs.Cardinalities.{marked_product}
use Rattle.cost_model.specs.Laws.{CostRangeLaw, IsCost}
use Rattle.cost_model.proofs.CostBounds.{selected_few}
use Rattle.cost_model.proofs.Products.{IsVector}
use Rattle.cost_model.proofs.SomeTop.{has_below}
use Rattle.cost_model.proofs.SoundNumbers.{are_sized}
use Rattle.cache_model.specs.Caches.{Anchor, CacheState}
use Rattle.cache_model.specs.Choices.{greater_product}
use Rattle.cache_model.specs.Faithful.{IsFaithfulAnchor, IsFaithfulCache}
use Rattle.cache_model.specs.Laws.{IsSoundAnchor}
use Rattle.cache_model.proofs.Choosing.{valid_there}

-- Costs.

pub anchor_fits : CostRangeLaw → (cache : CacheState) (q : Statement) (s : Statistics) (executions budget : ℕ)
    → IsSoundQuery q → IsSoundStats q s → IsFaithfulCache cache q s executions budget → (anchor : Anchor)
    → IsFaithfulAnchor q s cache.plans executions anchor → IsSoundAnchor anchor
anchor_fits law cache q s executions budget sound stats h anchor k =
    let valid : IsValidTop q s.indexed k.top = valid_there cache q s executions budget anchor.plan k.top h k.there in
    let fit = law q s anchor.at sound stats k.vector in
    record {
      plan_cost = subst IsCost (sym k.plan_cost) (fit.tops k.top valid);
      least = subst IsCost k.least.reached.costs (fit.tops k.least.reached.top k.least.reached.valid);
      no_less = subst (λ cost. anchor.least ≤ cost) (sym k.plan_cost) (k.least.below_all k.top valid);
    }

-- The greater numbers of two sound vectors are a sound vector.

greater : List ℕ → List ℕ → List ℕ
greater [] ys = []
greater (x ∷ xs) [] = []
greater (x ∷ xs) (y ∷ ys) = max x y ∷ greater xs ys

length-greater : (xs ys : List ℕ) → length xs ≡ length ys → length (greater xs ys) ≡ length xs
unfolding greater
length-greater [] ys e = refl
length-greater (x ∷ xs) [] e = absurd (omega arith)
length-greater (x ∷ xs) (y ∷ ys) e = ap (λ (n : ℕ). suc n) (length-greater xs ys (omega arith))

greater_at : (xs ys : List ℕ) (i : ℕ) → length xs ≡ length ys → slice_index (greater xs ys) i
    ≡ max (slice_index xs i) (slice_index ys i)
unfolding greater
greater_at [] [] i e = refl
greater_at [] (y ∷ ys) i e = absurd (omega arith)
greater_at (x ∷ xs) [] i e = absurd (omega arith)
greater_at (x ∷ xs) (y ∷ ys) zero e = refl
greater_at (x ∷ xs) (y ∷ ys) (suc i) e = greater_at xs ys i (omega arith)

both_within : (limit a b : ℕ) → IsWithin limit a → IsWithin limit b → IsWithin limit (max a b)
both_within limit a b h k =
    let p : 1 ≤ a = h.low in
    let q : a ≤ limit = h.high in
    let r : b ≤ limit = k.high in
    record { low = omega arith; high = omega arith }

sound_greater : (q : Statement) (s : Statistics) (a b : List ℕ) → IsSoundVector q s a → IsSoundVector q s b
    → IsSoundVector q s (greater a b)
sound_greater q s a b h k =
    let e = h.one_each ∙ sym k.one_each in
    record {
      one_each = length-greater a b e ∙ h.one_each;
      within = λ i place there.
          subst (λ n. IsWithin (slice_index s.rows place) n) (sym (greater_at a b i e))
          (both_within (slice_index s.rows place) (slice_index a i) (slice_index b i) (h.within i place there)
          (k.within i place there));
    }

-- Its product is that of all places.

all_marked : (set : ℕ) (on xs ys : List ℕ) → AllByRecursion (λ t. has set t ≡ true) on → length xs ≡ length on
    → length xs ≡ length ys → greater_product xs ys ≡ marked_product (map (has set) on) (greater xs ys)
unfolding greater
all_marked set [] [] ys h e f = refl
all_marked set [] (x ∷ xs) ys h e f = absurd (omega arith)
all_marked set (t ∷ on) [] ys h e f = absurd (omega arith)
all_marked set (t ∷ on) (x ∷ xs) [] h e f = absurd (omega arith)
all_marked set (t ∷ on) (x ∷ xs) (y ∷ ys) h e f = rw (h.0, all_marked set on xs ys h.1 (omega arith) (omega arith)) refl

each_there : (rows on vector : List ℕ) (count : ℕ) → length rows ≡ count → IsVector rows on vector
    → AllByRecursion (λ t. has (all_below count) t ≡ true) on
each_there rows [] vector count e h = tt
each_there rows (t ∷ on) [] count e h = absurd h
each_there rows (t ∷ on) (x ∷ vector) count e h =
    (has_below count t (subst (λ n. t < n) e h.0), each_there rows on vector count e h.3)

same_length : (a b c : ℕ) → a ≡ c → b ≡ c → a ≡ b
same_length a b c e f = e ∙ sym f

length_on : (rows on vector : List ℕ) → IsVector rows on vector → length vector ≡ length on
length_on rows [] [] h = refl
length_on rows [] (x ∷ vector) h = absurd h
length_on rows (t ∷ on) [] h = absurd h
length_on rows (t ∷ on) (x ∷ vector) h = ap (λ (n : ℕ). suc n) (length_on rows on vector h.3)

pub vectors_fit : (q : Statement) (s : Statistics) (instance anchor : List ℕ) → IsSoundQuery q → IsSoundStats q s
    → IsSoundVector q s instance → IsSoundVector q s anchor → greater_product instance anchor ≤ 2 ^ 63
vectors_fit q s instance anchor sound stats h k =
    let on = selectivity_places q.preds in
    let all = all_below (length q.places) in
    let sized = are_sized q s (greater instance anchor) sound stats (sound_greater q s instance anchor h k) in
    let here = are_sized q s instance sound stats h in
    subst (λ n. n ≤ 2 ^ 63)
    (sym (all_marked all on instance anchor (each_there s.rows on instance (length q.places) stats.row_counts
    here.numbers) (length_on s.rows on instance here.numbers) (h.one_each ∙ sym k.one_each)))
    (selected_few q s (greater instance anchor) all sized)
