-- How far two vectors are apart: what is grown and what has shrunk, where the first numbers are outside the window.
use Rattle.std.proofs.Common.{ℕ, ◌≡◌, ◌≤◌, ◌<◌, ◌+◌, ◌*◌, ◌^◌, ◌&&◌, min, max, nat_lt, nat_le, Bool, true, false, List}
use Rattle.std.proofs.Common.{[], ◌∷◌, length, slice_index, if◌then◌else◌, ap, refl, subst, arith, mul_assoc, mul_comm}
use Rattle.std.proofs.Common.{mul-le-mul, mul-le-mul_left, mul-le-mul_right, add-mul}
use Rattle.std.proofs.lemmas.Bool.{and_right, lt-leb, ltb-false, ltb-true}
use Rattle.fraction_math.specs.Fraction.{Fraction}
use Rattle.cost_polynomials.specs.Growth.{grown_to, grown_from, shrunk_to, shrunk_from}
use Rattle.cost_polynomials.proofs.Growth.{from_below_to}
use Rattle.cost_model.proofs.CheckBounds.{to_some}
use Rattle.cache_model.specs.Caches.{Anchor}
use Rattle.cache_model.specs.Choices.{is_at_most, passes_selectivity_check}
use Rattle.cache_model.specs.Laws.{IsOutside}

-- The first numbers, where they differ.

greater_first : (b d : Bool) (x y : ℕ) → nat_lt y x ≡ b → nat_lt x y ≡ d → (x ≡ y → ⊥)
    → (if b then x else 1) * (if d then y else 1) ≡ max x y
greater_first true true x y e k other = let a = ltb-true y x e in let f = ltb-true x y k in absurd (omega arith)
greater_first true false x y e k other = let a = ltb-true y x e in omega arith
greater_first false true x y e k other = let a = ltb-true x y k in omega arith
greater_first false false x y e k other = let a = ltb-false y x e in let f =
    ltb-false x y k in absurd (other (omega arith))

lesser_first : (b d : Bool) (x y : ℕ) → nat_lt y x ≡ b → nat_lt x y ≡ d → (x ≡ y → ⊥)
    → (if b then y else 1) * (if d then x else 1) ≡ min x y
lesser_first true true x y e k other = let a = ltb-true y x e in let f = ltb-true x y k in absurd (omega arith)
lesser_first true false x y e k other = let a = ltb-true y x e in omega arith
lesser_first false true x y e k other = let a = ltb-true x y k in omega arith
lesser_first false false x y e k other = let a = ltb-false y x e in let f =
    ltb-false x y k in absurd (other (omega arith))

outside_differs : (num den x y : ℕ) → den ≤ num → num * min x y < max x y * den → x ≡ y → ⊥
outside_differs num den x y more outside e =
    let same : max x y ≡ min x y = omega arith in
    let turned = mul_comm (min x y) den in
    let a : den * min x y ≤ num * min x y = mul-le-mul_right (min x y) more in
    let b : num * min x y < min x y * den = subst (λ n. num * min x y < n * den) same outside in
    omega arith

-- The products.

left_in_order : (c u t d v den : ℕ) → c * (u * t) * (d * v) * den ≡ u * d * den * (c * (t * v))
left_in_order c u t d v den = grind (arith, mul_assoc, mul_comm)

right_in_order : (num o a f b g : ℕ) → num * o * (a * f) * (b * g) ≡ num * (a * b) * (o * (f * g))
right_in_order num o a f b g = grind (arith, mul_assoc, mul_comm)

pub less_by_both : (p r v w : ℕ) → p < r → v ≤ w → 1 ≤ w → p * v < r * w
less_by_both p r v w less more some =
    let a : (p + 1) * w ≤ r * w = mul-le-mul_right w (omega arith) in
    let b = add-mul p 1 w in
    let e : p * v ≤ p * w = mul-le-mul_left p more in
    omega arith

further : (c least num den u d a b t f v g low high : ℕ) → u * d ≡ high → a * b ≡ low → num * low < high * den
    → least * (f * g) ≤ c * (t * v) → 1 ≤ c * (t * v) → num * least * (a * f) * (b * g) < c * (u * t) * (d * v) * den
further c least num den u d a b t f v g low high up down outside more some =
    let left = left_in_order c u t d v den in
    let right = right_in_order num least a f b g in
    let here = ap (λ n. n * den * (c * (t * v))) up in
    let there = ap (λ n. num * n * (least * (f * g))) down in
    let less = less_by_both (num * low) (high * den) (least * (f * g)) (c * (t * v)) outside more some in
    omega arith

-- The check.

pub check_fails : (left right : ℕ) → right < left → is_at_most left right ≡ false
check_fails left right less =
    and_right (nat_lt left (2 ^ 128) && nat_lt right (2 ^ 128)) (nat_le left right) (lt-leb left right less)

first_outside : (num den cost least x y : ℕ) (xs ys : List ℕ) → den ≤ num → 1 ≤ least → least ≤ cost
    → num * min x y < max x y * den
    → num * least * grown_from (x ∷ xs) (y ∷ ys) * shrunk_to (x ∷ xs) (y ∷ ys) < cost * grown_to (x ∷ xs) (y ∷ ys)
    * shrunk_from (x ∷ xs) (y ∷ ys) * den
first_outside num den cost least x y xs ys more some dear outside =
    let other = outside_differs num den x y more outside in
    let up = greater_first (nat_lt y x) (nat_lt x y) x y refl refl other in
    let down = lesser_first (nat_lt y x) (nat_lt x y) x y refl refl other in
    let rest : grown_from xs ys * grown_from ys xs ≤ grown_to xs ys * grown_to ys xs =
    mul-le-mul (from_below_to xs ys) (from_below_to ys xs) in
    let one : 1 ≤ grown_to xs ys * grown_to ys xs = mul-le-mul {n₁ = 1} {m₁ = 1} (to_some xs ys) (to_some ys xs) in
    let costly : 1 ≤ cost = omega arith in
    further cost least num den (if nat_lt y x then x else 1) (if nat_lt x y then y else 1) (if nat_lt y x then y
    else 1) (if nat_lt x y then x else 1) (grown_to xs ys) (grown_from xs ys) (grown_to ys xs) (grown_from ys xs)
    (min x y) (max x y) up down outside
    (mul-le-mul dear rest) (mul-le-mul {n₁ = 1} {m₁ = 1} costly one)

vectors_outside : (num den cost least : ℕ) (instance at : List ℕ) → den ≤ num → 1 ≤ least → least ≤ cost
    → length instance ≡ length at
    → num * min (slice_index instance 0) (slice_index at 0) < max (slice_index instance 0) (slice_index at 0) * den
    → num * least * grown_from instance at * shrunk_to instance at < cost * grown_to instance at
    * shrunk_from instance at * den
vectors_outside num den cost least [] [] more some dear long outside = absurd (omega arith)
vectors_outside num den cost least [] (y ∷ ys) more some dear long outside = absurd (omega arith)
vectors_outside num den cost least (x ∷ xs) [] more some dear long outside = absurd (omega arith)
vectors_outside num den cost least (x ∷ xs) (y ∷ ys) more some dear long outside =
    first_outside num den cost least x y xs ys more some dear outside

pub fails_outside : (lambda : Fraction) (instance : List ℕ) (anchor : Anchor) → lambda.den ≤ lambda.num
    → 1 ≤ anchor.least → anchor.least ≤ anchor.plan_cost → length instance ≡ length anchor.at
    → IsOutside lambda instance anchor.at
    → passes_selectivity_check lambda instance anchor ≡ false
fails_outside lambda instance anchor more some dear long outside =
    check_fails (anchor.plan_cost * grown_to instance anchor.at * shrunk_from instance anchor.at * lambda.den)
    (lambda.num * anchor.least * grown_from instance anchor.at * shrunk_to instance anchor.at)
    (vectors_outside lambda.num lambda.den anchor.plan_cost anchor.least instance anchor.at more some dear long outside)
