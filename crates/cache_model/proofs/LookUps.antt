-- Plans by their numbers, and the anchors of a plan.
use Rattle.std.proofs.Common.{ℕ, zero, suc, ◌≡◌, ◌≤◌, ◌<◌, ◌==◌, ◌||◌, Bool, true, false, cond, not, List, [], ◌∷◌}
use Rattle.std.proofs.Common.{◌++◌, length, Option, Some, None, ap, sym, ◌∙◌, refl, subst, arith}
use Rattle.std.specs.List.{AllByRecursion, filter}
use Rattle.std.proofs.lemmas.Bool.{false≢true, cond-true, cond-false, eq-eqb, ne_eqb, eqb-true, eqb-false, not-true}
use Rattle.std.proofs.lemmas.Bool.{or_left, or_right}
use Rattle.std.proofs.lemmas.Option.{none-some, same_Some}
use Rattle.plan_trees.specs.Trees.{TopTree}
use Rattle.cache_model.specs.Caches.{Anchor, CachedPlan, has_anchor, is_of, top_numbered, used_at}
use Rattle.cache_model.proofs.Lists.{EachTwo, each_both, each_to, length_by, length-filter}

-- not this number
abbrev pub is_other : ℕ → CachedPlan → Bool
is_other gone plan = not (plan.number == gone)

abbrev pub is_of_other : ℕ → Anchor → Bool
is_of_other gone anchor = not (is_of gone anchor)

other_number : (a b : ℕ) → not (a == b) ≡ true → a ≡ b → ⊥
other_number a b h e = eqb-false a b (not-true (a == b) h) e

pub plan_is_other : (gone : ℕ) (plan : CachedPlan) → is_other gone plan ≡ true → plan.number ≡ gone → ⊥
plan_is_other gone plan h e = other_number plan.number gone h e

pub anchor_is_other : (gone : ℕ) (anchor : Anchor) → is_of_other gone anchor ≡ true → anchor.plan ≡ gone → ⊥
anchor_is_other gone anchor h e = other_number anchor.plan gone h e

-- Plans.

or_else : {T : Type 0} (b : Bool) (x rest other y : Option T) → cond b x rest ≡ y → (rest ≡ y → other ≡ y)
    → cond b x other ≡ y
or_else true x rest other y h to = h
or_else false x rest other y h to = to h

pub numbered_push : (plans : List CachedPlan) (new : CachedPlan) (number : ℕ) (top : TopTree)
    → top_numbered plans number ≡ Some top → top_numbered (plans ++ new ∷ []) number ≡ Some top
numbered_push [] new number top h = absurd (none-some top h)
numbered_push (plan ∷ plans) new number top h =
    or_else (plan.number == number) (Some plan.top) (top_numbered plans number)
    (top_numbered (plans ++ new ∷ []) number) (Some top) h (λ k. numbered_push plans new number top k)

pub numbered_new : (plans : List CachedPlan) (number : ℕ) (top : TopTree)
    → AllByRecursion (λ plan. plan.number < number) plans
    → top_numbered (plans ++ record { number = number; top = top } ∷ []) number ≡ Some top
numbered_new [] number top h = cond-true (number == number) (Some top) None (eq-eqb number number refl)
numbered_new (plan ∷ plans) number top h =
    let less : plan.number < number = h.0 in
    cond-false (plan.number == number) (Some plan.top) (top_numbered (plans ++ record { number = number; top = top }
    ∷ []) number) (ne_eqb plan.number number (λ e. omega arith))
    ∙ numbered_new plans number top h.1

kept_by : (b : Bool) (plan : CachedPlan) (plans rest : List CachedPlan) (number : ℕ) (top : TopTree)
    → (b ≡ true → (plan.number == number) ≡ false) → top_numbered (plan ∷ plans) number ≡ Some top
    → (top_numbered plans number ≡ Some top → top_numbered rest number ≡ Some top)
    → top_numbered (cond (not b) (plan ∷ rest) rest) number ≡ Some top
kept_by true plan plans rest number top other h later =
    later (sym (cond-false (plan.number == number) (Some plan.top) (top_numbered plans number) (other refl)) ∙ h)
kept_by false plan plans rest number top other h later =
    or_else (plan.number == number) (Some plan.top) (top_numbered plans number) (top_numbered rest number)
    (Some top) h later

pub numbered_filter : (gone : ℕ) (plans : List CachedPlan) (number : ℕ) (top : TopTree) → (number ≡ gone → ⊥)
    → top_numbered plans number ≡ Some top → top_numbered (filter (is_other gone) plans) number ≡ Some top
numbered_filter gone [] number top other h = h
numbered_filter gone (plan ∷ plans) number top other h =
    kept_by (plan.number == gone) plan plans (filter (is_other gone) plans) number top
    (λ e. ne_eqb plan.number number (λ k. other (sym k ∙ eqb-true plan.number gone e))) h
    (λ k. numbered_filter gone plans number top other k)

numbered_by : (P : TopTree → Type 0) (b : Bool) (x : TopTree) (rest : Option TopTree) (top : TopTree) → P x
    → (rest ≡ Some top → P top) → cond b (Some x) rest ≡ Some top → P top
numbered_by P true x rest top first later h = subst P (same_Some x top h) first
numbered_by P false x rest top first later h = later h

-- what each plan's tree has, that of a number has
pub numbered_has : (P : TopTree → Type 0) (plans : List CachedPlan) (number : ℕ) (top : TopTree)
    → AllByRecursion (λ plan. P plan.top) plans → top_numbered plans number ≡ Some top → P top
numbered_has P [] number top h e = absurd (none-some top e)
numbered_has P (plan ∷ plans) number top h e =
    numbered_by P (plan.number == number) plan.top (top_numbered plans number) top h.0
    (λ k. numbered_has P plans number top h.1 k) e

behind_first : (plan : CachedPlan) (plans : List CachedPlan) (x : CachedPlan) → (plan.number < x.number)
    × (top_numbered plans x.number ≡ Some x.top) → top_numbered (plan ∷ plans) x.number ≡ Some x.top
behind_first plan plans x h =
    let less : plan.number < x.number = h.0 in
    cond-false (plan.number == x.number) (Some plan.top) (top_numbered plans x.number)
    (ne_eqb plan.number x.number (λ e. omega arith)) ∙ h.1

-- where numbers rise, each plan is the one of its number
pub each_by_number : (plans : List CachedPlan) → EachTwo (λ a b. a.number < b.number) plans
    → AllByRecursion (λ plan. top_numbered plans plan.number ≡ Some plan.top) plans
each_by_number [] h = tt
each_by_number (plan ∷ plans) h = (
  cond-true (plan.number == plan.number) (Some plan.top) (top_numbered plans plan.number)
      (eq-eqb plan.number plan.number refl),
  each_to (λ x. (plan.number < x.number) × (top_numbered plans x.number ≡ Some x.top))
      (λ x. top_numbered (plan ∷ plans) x.number ≡ Some x.top) (behind_first plan plans) plans
      (each_both (λ x. plan.number < x.number) (λ x. top_numbered plans x.number
      ≡ Some x.top) plans h.0 (each_by_number plans h.1)),
)

-- Each plan that goes makes the list shorter.

first_gone : (b : Bool) (plan : CachedPlan) (rest : List CachedPlan) (count : ℕ) → b ≡ true → length rest ≤ count
    → length (cond (not b) (plan ∷ rest) rest) < suc count
first_gone true plan rest count e h = omega arith
first_gone false plan rest count e h = absurd (false≢true e)

pub each_shortens : (plans : List CachedPlan)
    → AllByRecursion (λ x. length (filter (is_other x.number) plans) < length plans) plans
each_shortens [] = tt
each_shortens (plan ∷ plans) = (
  first_gone (plan.number == plan.number) plan (filter (is_other plan.number) plans) (length plans)
      (eq-eqb plan.number plan.number refl) (length-filter (is_other plan.number) plans),
  each_to (λ x. length (filter (is_other x.number) plans) < length plans)
      (λ x. length (filter (is_other x.number) (plan ∷ plans)) < length (plan ∷ plans))
      (λ x less. let more = length_by (is_other x.number plan) plan (filter (is_other x.number) plans)
      in omega arith) plans (each_shortens plans),
)

-- Anchors.

anchored_by : (b rest other : Bool) → (b || rest) ≡ true → (rest ≡ true → other ≡ true) → (b || other) ≡ true
anchored_by true rest other h to = refl
anchored_by false rest other h to = to h

pub anchored_push : (anchors : List Anchor) (new : Anchor) (number : ℕ) → has_anchor anchors number ≡ true
    → has_anchor (anchors ++ new ∷ []) number ≡ true
anchored_push [] new number h = absurd (false≢true h)
anchored_push (anchor ∷ anchors) new number h =
    anchored_by (is_of number anchor) (has_anchor anchors number) (has_anchor (anchors ++ new ∷ []) number) h
    (λ k. anchored_push anchors new number k)

pub anchored_new : (anchors : List Anchor) (new : Anchor) (number : ℕ) → new.plan ≡ number
    → has_anchor (anchors ++ new ∷ []) number ≡ true
anchored_new [] new number e = or_left (new.plan == number) false (eq-eqb new.plan number e)
anchored_new (anchor ∷ anchors) new number e =
    or_right (is_of number anchor) (has_anchor (anchors ++ new ∷ []) number) (anchored_new anchors new number e)

anchored_kept : (b : Bool) (anchor : Anchor) (rest : List Anchor) (number : ℕ) (before : Bool)
    → (b ≡ true → is_of number anchor ≡ false) → (is_of number anchor || before) ≡ true
    → (before ≡ true → has_anchor rest number ≡ true)
    → has_anchor (cond (not b) (anchor ∷ rest) rest) number ≡ true
anchored_kept true anchor rest number before other h later = later (ap (λ t. t || before) (sym (other refl)) ∙ h)
anchored_kept false anchor rest number before other h later =
    anchored_by (is_of number anchor) before (has_anchor rest number) h later

pub anchored_filter : (gone : ℕ) (anchors : List Anchor) (number : ℕ) → (number ≡ gone → ⊥) → has_anchor anchors number
    ≡ true → has_anchor (filter (is_of_other gone) anchors) number ≡ true
anchored_filter gone [] number other h = h
anchored_filter gone (anchor ∷ anchors) number other h =
    anchored_kept (is_of gone anchor) anchor (filter (is_of_other gone) anchors) number (has_anchor anchors number)
    (λ e. ne_eqb anchor.plan number (λ k. other (sym k ∙ eqb-true anchor.plan gone e))) h
    (λ k. anchored_filter gone anchors number other k)

pub anchored_used : (anchors : List Anchor) (position number : ℕ) → has_anchor (used_at anchors position) number
    ≡ has_anchor anchors number
anchored_used [] position number = refl
anchored_used (anchor ∷ anchors) zero number = refl
anchored_used (anchor ∷ anchors) (suc position) number =
    ap (λ t. is_of number anchor || t) (anchored_used anchors position number)
