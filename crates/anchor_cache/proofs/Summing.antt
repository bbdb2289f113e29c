-- How often a plan's anchors were used, after each change of the anchors.
use Rattle.std.proofs.Common.{ℕ, zero, suc, ◌≡◌, ◌≤◌, ◌<◌, ◌+◌, ◌*◌, ◌^◌, ◌==◌, Bool, true, false, cond, not, ◌||◌, List, [], ◌∷◌, ◌++◌, length, map, slice_get, Option, Some, None, ap, sym, ◌∙◌, refl, arith}
use Rattle.std.specs.List.{AllByRecursion, filter, find, sum_by}
use Rattle.std.specs.Option.{option_map}
use Rattle.std.proofs.lemmas.Bool.{eqb-false, eqb-true, ne_eqb}
use Rattle.std.proofs.lemmas.List.Sums.{sum_by-cons}
use Rattle.std.proofs.lemmas.Option.{none-some, same_Some}
use Rattle.cache_model.specs.Caches.{Anchor, anchors_of, is_of, used_at, uses_of}
use Rattle.anchor_cache.specs.declared.kept_plans.Kept.{Kept}
use Rattle.anchor_cache.specs.declared.kept_plans.PlanUses.{PlanUses}
use Rattle.anchor_cache.specs.Contents.{has_number, has_plan}
use Rattle.anchor_cache.specs.Sums.{sum_of, sums_of, used_more}

-- One anchor.

uses_by : (b : Bool) (anchor : Anchor) (rest : List Anchor)
    → sum_by (λ a. a.uses) (cond b (anchor ∷ rest) rest) ≡ cond b anchor.uses 0 + sum_by (λ a. a.uses) rest
uses_by true anchor rest = sum_by-cons (λ a. a.uses) anchor rest
uses_by false anchor rest = omega arith

pub uses_cons : (anchor : Anchor) (anchors : List Anchor) (number : ℕ)
    → uses_of (anchor ∷ anchors) number ≡ cond (anchor.plan == number) anchor.uses 0 + uses_of anchors number
uses_cons anchor anchors number = uses_by (anchor.plan == number) anchor (anchors_of anchors number)

-- An anchor more.

pub uses_pushed : (anchors : List Anchor) (new : Anchor) (number : ℕ)
    → uses_of (anchors ++ new ∷ []) number ≡ uses_of anchors number + cond (new.plan == number) new.uses 0
uses_pushed [] new number = uses_cons new [] number ∙ omega arith
uses_pushed (anchor ∷ anchors) new number =
    let whole = uses_cons anchor (anchors ++ new ∷ []) number in
    let part = uses_cons anchor anchors number in
    let later = uses_pushed anchors new number in
    omega arith

-- One use more.

one_more : (b : Bool) (n : ℕ) → cond b (n + 1) 0 ≡ cond b n 0 + cond b 1 0
one_more true n = refl
one_more false n = refl

pub uses_used : (anchors : List Anchor) (place : ℕ) (anchor : Anchor) (number : ℕ)
    → slice_get anchors place ≡ Some anchor → uses_of (used_at anchors place) number
    ≡ uses_of anchors number + cond (anchor.plan == number) 1 0
uses_used [] place anchor number h = absurd (none-some anchor h)
uses_used (first ∷ rest) zero anchor number h =
    let same = same_Some first anchor h in
    let more = one_more (first.plan == number) first.uses in
    let after : uses_of (used_at (first ∷ rest) zero) number
    ≡ cond (first.plan == number) (first.uses + 1) 0 + uses_of rest number =
    uses_cons (record first { uses = first.uses + 1 }) rest number in
    let before = uses_cons first rest number in
    let one : cond {A = ℕ} (first.plan == number) 1 0 ≡ cond (anchor.plan == number) 1 0 =
    ap (λ (a : Anchor). cond {A = ℕ} (a.plan == number) 1 0) same in
    omega arith
uses_used (first ∷ rest) (suc place) anchor number h =
    let after : uses_of (used_at (first ∷ rest) (suc place)) number
    ≡ cond (first.plan == number) first.uses 0 + uses_of (used_at rest place) number =
    uses_cons first (used_at rest place) number in
    let before = uses_cons first rest number in
    let later = uses_used rest place anchor number h in
    omega arith

-- Another plan is gone.

uses_without : (b : Bool) (anchor : Anchor) (rest : List Anchor) (number : ℕ) (before : ℕ)
    → (b ≡ true → (anchor.plan == number) ≡ false) → uses_of rest number ≡ before
    → uses_of (cond (not b) (anchor ∷ rest) rest) number ≡ cond (anchor.plan == number) anchor.uses 0 + before
uses_without true anchor rest number before other e = let gone = ap (λ t. cond t anchor.uses 0) (other refl) in
    omega arith
uses_without false anchor rest number before other e = let kept = uses_cons anchor rest number in omega arith

pub uses_filter : (gone : ℕ) (anchors : List Anchor) (number : ℕ) → (number ≡ gone → ⊥)
    → uses_of (filter (λ anchor. not (is_of gone anchor)) anchors) number ≡ uses_of anchors number
uses_filter gone [] number other = refl
uses_filter gone (anchor ∷ anchors) number other =
    uses_without (is_of gone anchor) anchor (filter (λ anchor. not (is_of gone anchor)) anchors) number
    (uses_of anchors number)
    (λ e. ne_eqb anchor.plan number (λ k. other (sym k ∙ eqb-true anchor.plan gone e)))
    (uses_filter gone anchors number other)
    ∙ sym (uses_cons anchor anchors number)

-- Bounds.

unused_by : (b : Bool) (n : ℕ) → b ≡ false → cond b n 0 ≡ 0
unused_by true n e = ap (λ t. cond t n 0) e
unused_by false n e = refl

pub uses_none : (anchors : List Anchor) (number : ℕ) → AllByRecursion (λ anchor. anchor.plan < number) anchors
    → uses_of anchors number ≡ 0
uses_none [] number h = refl
uses_none (anchor ∷ anchors) number h =
    let less : anchor.plan < number = h.0 in
    let first = unused_by (anchor.plan == number) anchor.uses (ne_eqb anchor.plan number (λ e. omega arith)) in
    let all = uses_cons anchor anchors number in
    let rest = uses_none anchors number h.1 in
    omega arith

few_by : (b : Bool) (n limit : ℕ) → n < limit → cond b n 0 ≤ limit
few_by true n limit h = omega arith
few_by false n limit h = omega arith

pub uses_few : (anchors : List Anchor) (number : ℕ) → AllByRecursion (λ anchor. anchor.uses < 2 ^ 64) anchors
    → uses_of anchors number ≤ length anchors * 2 ^ 64
uses_few [] number h = omega arith
uses_few (anchor ∷ anchors) number h =
    let first = few_by (anchor.plan == number) anchor.uses (2 ^ 64) h.0 in
    let all = uses_cons anchor anchors number in
    let rest = uses_few anchors number h.1 in
    omega arith

-- The sums of all plans.

abbrev so_many : ℕ → ℕ → PlanUses
so_many number uses = record { plan = number; uses = uses }

more_by : (b : Bool) (number uses more after : ℕ) → after ≡ uses + cond b more 0
    → so_many number after ≡ cond b (so_many number (uses + more)) (so_many number uses)
more_by true number uses more after e = ap (so_many number) e
more_by false number uses more after e = let same : after ≡ uses = omega arith in ap (so_many number) same

-- where each plan of this number was used so often more, the sums are those before with so many more
pub sums_more : (plans : List Kept) (before after : List Anchor) (plan more : ℕ)
    → ((number : ℕ) → uses_of after number ≡ uses_of before number + cond (plan == number) more 0)
    → map (used_more plan more) (sums_of plans before) ≡ sums_of plans after
sums_more [] before after plan more h = refl
sums_more (kept ∷ plans) before after plan more h =
    ap (λ sum. sum ∷ map (used_more plan more) (sums_of plans before))
    (sym (more_by (plan == kept.number) kept.number (uses_of before kept.number) more (uses_of after kept.number)
    (h kept.number)))
    ∙ ap (λ sums. sum_of after kept ∷ sums) (sums_more plans before after plan more h)

sums_without : (gone : ℕ) (b : Bool) (kept : Kept) (plans : List Kept) (before after : List Anchor)
    (rest : List PlanUses) → (b ≡ false → sum_of before kept ≡ sum_of after kept) → rest ≡ sums_of plans after
    → cond (not b) (sum_of before kept ∷ rest) rest ≡ sums_of (cond (not b) (kept ∷ plans) plans) after
sums_without gone true kept plans before after rest same e = e
sums_without gone false kept plans before after rest same e =
    ap (λ sum. sum ∷ rest) (same refl) ∙ ap (λ sums. sum_of after kept ∷ sums) e

pub sums_filter : (gone : ℕ) (plans : List Kept) (before after : List Anchor)
    → ((number : ℕ) → (number ≡ gone → ⊥) → uses_of after number ≡ uses_of before number)
    → filter (λ sum. not (sum.plan == gone)) (sums_of plans before)
    ≡ sums_of (filter (λ kept. not (has_number gone kept)) plans) after
sums_filter gone [] before after h = refl
sums_filter gone (kept ∷ plans) before after h =
    sums_without gone (kept.number == gone) kept (filter (λ kept. not (has_number gone kept)) plans) before after
    (filter (λ sum. not (sum.plan == gone)) (sums_of plans before))
    (λ e. ap (so_many kept.number) (sym (h kept.number (eqb-false kept.number gone e))))
    (sums_filter gone plans before after h)

-- The sum of one plan.

found_by : (b there : Bool) (anchors : List Anchor) (kept : Kept) (number : ℕ) (rest : Option ℕ)
    → (kept.number == number) ≡ b → rest ≡ cond there (Some (uses_of anchors number)) None
    → cond b (Some (uses_of anchors kept.number)) rest ≡ cond (b || there) (Some (uses_of anchors number)) None
found_by true there anchors kept number rest e h = ap (λ n. Some (uses_of anchors n)) (eqb-true kept.number number e)
found_by false there anchors kept number rest e h = h

uses_or : (b : Bool) (sum : PlanUses) (rest : Option PlanUses)
    → option_map (λ s. s.uses) (cond b (Some sum) rest) ≡ cond b (Some sum.uses) (option_map (λ s. s.uses) rest)
uses_or true sum rest = refl
uses_or false sum rest = refl

pub uses_found : (plans : List Kept) (anchors : List Anchor) (number : ℕ)
    → option_map (λ sum. sum.uses) (find (λ sum. sum.plan == number) (sums_of plans anchors))
    ≡ cond (has_plan plans number) (Some (uses_of anchors number)) None
uses_found [] anchors number = refl
uses_found (kept ∷ plans) anchors number =
    uses_or (kept.number == number) (sum_of anchors kept) (find (λ sum. sum.plan == number) (sums_of plans anchors))
    ∙ found_by (kept.number == number) (has_plan plans number) anchors kept number
    (option_map (λ sum. sum.uses) (find (λ sum. sum.plan == number) (sums_of plans anchors))) refl
    (uses_found plans anchors number)
