-- An anchor that is not near by its first selectivity fails the selectivity check.
use Rattle.std.proofs.Common.{ℕ, ◌≡◌, ◌≤◌, ◌<◌, ◌+◌, ◌*◌, ◌^◌, ◌&&◌, ◌⊎◌, inl, inr, min, max, Bool, true, false}
use Rattle.std.proofs.Common.{nat_le}
use Rattle.std.proofs.Common.{All, List, length, slice_index, slice_index_or, refl, sym, arith, mul_assoc, mul_comm}
use Rattle.std.proofs.Common.{mul-le-mul, mul-le-mul_left}
use Rattle.std.proofs.Common.{mul-le-mul_right}
use Rattle.std.proofs.lemmas.Bool.{cases_lt, leb-false}
use Rattle.fraction_math.specs.Fraction.{Fraction}
use Rattle.cost_polynomials.specs.Growth.{grown_to, grown_from, shrunk_to, shrunk_from}
use Rattle.cost_polynomials.proofs.Growth.{from_below_to}
use Rattle.cost_model.proofs.CheckBounds.{to_some}
use Rattle.cache_model.specs.Caches.{Anchor}
use Rattle.cache_model.specs.Choices.{passes_selectivity_check}
use Rattle.cache_model.proofs.Distances.{check_fails, fails_outside, less_by_both}
use Rattle.anchor_cache.specs.declared.kept_plans.Kept.{Kept}
use Rattle.anchor_cache.specs.Contents.{IsKeptAnchor}
use Rattle.anchor_cache.specs.Window.{entry_of}
use Rattle.selectivity_check.specs.Near.{is_near}

-- Below a ratio of 1 nothing passes.

left_in_order : (c u d den : ℕ) → c * u * d * den ≡ den * (c * (u * d))
left_in_order c u d den = grind (arith, mul_assoc, mul_comm)

right_in_order : (num o f g : ℕ) → num * o * f * g ≡ num * (o * (f * g))
right_in_order num o f g = grind (arith, mul_assoc)

below_one : (lambda : Fraction) (instance : List ℕ) (anchor : Anchor) → lambda.num < lambda.den → 1 ≤ anchor.least
    → anchor.least ≤ anchor.plan_cost → passes_selectivity_check lambda instance anchor ≡ false
below_one lambda instance anchor less some dear =
    let up : grown_from instance anchor.at * grown_from anchor.at instance
    ≤ grown_to instance anchor.at * grown_to anchor.at instance =
    mul-le-mul (from_below_to instance anchor.at) (from_below_to anchor.at instance) in
    let one : 1 ≤ grown_to instance anchor.at * grown_to anchor.at instance =
    mul-le-mul {n₁ = 1} {m₁ = 1} (to_some instance anchor.at) (to_some anchor.at instance) in
    let costly : 1 ≤ anchor.plan_cost = omega arith in
    let both = less_by_both lambda.num lambda.den
    (anchor.least * (grown_from instance anchor.at * grown_from anchor.at instance))
    (anchor.plan_cost * (grown_to instance anchor.at * grown_to anchor.at instance)) less (mul-le-mul dear up)
    (mul-le-mul {n₁ = 1} {m₁ = 1} costly one) in
    let left = left_in_order anchor.plan_cost (grown_to instance anchor.at) (grown_to anchor.at instance) lambda.den in
    let right = right_in_order lambda.num anchor.least (grown_from instance anchor.at) (grown_from anchor.at instance)
    in
    check_fails (anchor.plan_cost * grown_to instance anchor.at * shrunk_from instance anchor.at * lambda.den)
    (lambda.num * anchor.least * grown_from instance anchor.at * shrunk_to instance anchor.at) (omega arith)

-- Outside the window.

too_far : (num den x y : ℕ) → num * x < y * den → num * min x y < max x y * den
too_far num den x y less =
    let low : num * min x y ≤ num * x = mul-le-mul_left num (omega arith) in
    let high : y * den ≤ max x y * den = mul-le-mul_right den (omega arith) in
    omega arith

too_near : (num den x y : ℕ) → num * y < x * den → num * min x y < max x y * den
too_near num den x y less =
    let low : num * min x y ≤ num * y = mul-le-mul_left num (omega arith) in
    let high : x * den ≤ max x y * den = mul-le-mul_right den (omega arith) in
    omega arith

outside_by : (a b : Bool) (num den x y : ℕ) → nat_le (y * den) (num * x) ≡ a → nat_le (x * den) (num * y) ≡ b
    → (a && b) ≡ false → num * min x y < max x y * den
outside_by true true num den x y e f far = absurd (cc)
outside_by true false num den x y e f far = too_near num den x y (leb-false (x * den) (num * y) f)
outside_by false b num den x y e f far = too_far num den x y (leb-false (y * den) (num * x) e)

fails_by : (lambda : Fraction) (instance : List ℕ) (anchor : Anchor) → 1 ≤ anchor.least
    → anchor.least ≤ anchor.plan_cost → length instance ≡ length anchor.at
    → is_near lambda (slice_index instance 0) (slice_index anchor.at 0) ≡ false
    → (lambda.num < lambda.den) ⊎ (lambda.den ≤ lambda.num)
    → passes_selectivity_check lambda instance anchor ≡ false
fails_by lambda instance anchor some dear long far (inl less) = below_one lambda instance anchor less some dear
fails_by lambda instance anchor some dear long far (inr more) =
    fails_outside lambda instance anchor more some dear long
    (outside_by (nat_le (slice_index anchor.at 0 * lambda.den) (lambda.num * slice_index instance 0))
    (nat_le (slice_index instance 0 * lambda.den) (lambda.num * slice_index anchor.at 0)) lambda.num lambda.den
    (slice_index instance 0) (slice_index anchor.at 0) refl refl far)

pub fails_far : (lambda : Fraction) (instance : List ℕ) (anchor : Anchor) → 1 ≤ anchor.least
    → anchor.least ≤ anchor.plan_cost → length instance ≡ length anchor.at
    → is_near lambda (slice_index instance 0) (slice_index anchor.at 0) ≡ false
    → passes_selectivity_check lambda instance anchor ≡ false
fails_far lambda instance anchor some dear long far =
    fails_by lambda instance anchor some dear long far (cases_lt lambda.num lambda.den)

-- so do all anchors of a cache that aren't near
pub all_fail_far : (lambda : Fraction) (instance : List ℕ) (plans : List Kept) (anchors : List Anchor)
    → All (IsKeptAnchor plans) anchors → All (λ anchor. length anchor.at ≡ length instance) anchors
    → All (λ anchor. is_near lambda (slice_index instance 0) (entry_of anchor).first ≡ false
    → passes_selectivity_check lambda instance anchor ≡ false) anchors
all_fail_far lambda instance plans anchors kept long k d less far =
    fails_far lambda instance (slice_index_or anchors k d) (kept k d less).least (kept k d less).plan_cost
    (sym (long k d less)) far
