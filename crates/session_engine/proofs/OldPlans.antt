-- The old plan that serves is one of the plans, and costs what the model says.
use Rattle.std.proofs.Common.{ℕ, ◌≡◌, ◌≤◌, ◌<◌, ◌==◌, nat_lt, Bool, true, false, cond, List, [], ◌∷◌, map, All}
use Rattle.std.proofs.Common.{Option, Some, None, ap, sym, ◌∙◌, refl, subst, arith}
use Rattle.std.specs.List.{AllByRecursion, AllPairs, best_of, filter, find}
use Rattle.std.specs.Option.{option_map, option_or}
use Rattle.std.proofs.lemmas.Bool.{cond-false, cond-true, eq-eqb, ne_eqb, or_left, or_right}
use Rattle.std.proofs.lemmas.Option.{none-some, same_Some}
use Rattle.fraction_math.specs.Fraction.{Fraction}
use Rattle.plan_trees.specs.Trees.{TopTree, same_top, top_tree}
use Rattle.cache_model.specs.Caches.{Anchor, CachedPlan, uses_of}
use Rattle.cache_model.specs.Keeping as model
use Rattle.cache_model.proofs.Lists.{EachTwo, each_both, each_filter, each_from, each_to, each_two_from}
use Rattle.cache_model.proofs.Lists.{found_is}
use Rattle.anchor_cache.specs.declared.kept_plans.Kept.{Kept}
use Rattle.anchor_cache.specs.Contents.{cached, has_number, has_plan}
use Rattle.anchor_cache.specs.Instances.{cost_at}
use Rattle.anchor_cache.proofs.FirstLeast.{least_map}
use Rattle.redundancy_check.specs.Covering.{cheapest_serving, serves}
use Rattle.redundancy_check.proofs.Agreeing.{covering_agrees}
use Rattle.session_engine.specs.declared.keeping.OldPlan.{OldPlan}
use Rattle.session_engine.specs.declared.keeping.Optimum.{Optimum}
use Rattle.session_engine.specs.Keeping.{CostsAt, old_kept, old_plan_at, optimum_of}

-- The first of the least is one of the list.

lesser_has : {X : Type 0} (P : X → Type 0) (b : Bool) (x y : X) → P x → P y → P (cond b y x)
lesser_has P true x y h k = k
lesser_has P false x y h k = h

best_has : {X : Type 0} (P : X → Type 0) (beats : X → X → Bool) (x : X) (xs : List X) → P x → AllByRecursion P xs
    → P (best_of beats x xs)
best_has P beats x [] h k = h
best_has P beats x (y ∷ ys) h k = best_has P beats (cond (beats y x) y x) ys (lesser_has P (beats y x) x y h k.0) k.1

least_has : {X : Type 0} (P : X → Type 0) (number : X → ℕ) (xs : List X) (y : X) → AllByRecursion P xs
    → model.first_least number xs ≡ Some y → P y
least_has P number [] y h e = absurd (none-some y e)
least_has P number (x ∷ xs) y h e =
    subst P (same_Some (best_of (λ z least. nat_lt (number z) (number least)) x xs) y e)
    (best_has P (λ z least. nat_lt (number z) (number least)) x xs h.0 h.1)

-- Options.

or_has : {X : Type 0} (P : X → Type 0) (first second : Option X) (y : X) → ((z : X) → first ≡ Some z → P z)
    → ((z : X) → second ≡ Some z → P z) → option_or first second ≡ Some y → P y
or_has P None second y h k e = k y e
or_has P (Some x) second y h k e = h y e

map_or : {X Y : Type 0} (f : X → Y) (first second : Option X)
    → option_map f (option_or first second) ≡ option_or (option_map f first) (option_map f second)
map_or f None second = refl
map_or f (Some x) second = refl

found_by : {X Y : Type 0} (f : X → Y) (b : Bool) (x : X) (found : Option Y) (rest : Option X)
    → found ≡ option_map f rest → cond b (Some (f x)) found ≡ option_map f (cond b (Some x) rest)
found_by f true x found rest e = refl
found_by f false x found rest e = e

find_map : {X Y : Type 0} (f : X → Y) (test : Y → Bool) (xs : List X)
    → find test (map f xs) ≡ option_map f (find (λ x. test (f x)) xs)
find_map f test [] = refl
find_map f test (x ∷ xs) =
    found_by f (test (f x)) x (find test (map f xs)) (find (λ y. test (f y)) xs) (find_map f test xs)

-- Plans by their numbers.

each_there : (plans : List Kept) → AllByRecursion (λ kept. has_plan plans kept.number ≡ true) plans
each_there [] = tt
each_there (kept ∷ plans) = (
  or_left (kept.number == kept.number) (has_plan plans kept.number) (eq-eqb kept.number kept.number refl),
  each_to (λ other. has_plan plans other.number ≡ true) (λ other. has_plan (kept ∷ plans) other.number ≡ true)
      (λ other h. or_right (kept.number == other.number) (has_plan plans other.number) h) plans (each_there plans),
)

behind_first : (kept : Kept) (plans : List Kept) (other : Kept) → (kept.number < other.number)
    × (find (has_number other.number) plans ≡ Some other) → find (has_number other.number) (kept ∷ plans) ≡ Some other
behind_first kept plans other h =
    let less : kept.number < other.number = h.0 in
    cond-false (kept.number == other.number) (Some kept) (find (has_number other.number) plans)
    (ne_eqb kept.number other.number (λ e. omega arith)) ∙ h.1

each_found : (plans : List Kept) → EachTwo (λ a b. a.number < b.number) plans
    → AllByRecursion (λ kept. find (has_number kept.number) plans ≡ Some kept) plans
each_found [] h = tt
each_found (kept ∷ plans) h = (
  cond-true (kept.number == kept.number) (Some kept) (find (has_number kept.number) plans)
      (eq-eqb kept.number kept.number refl),
  each_to (λ other. (kept.number < other.number) × (find (has_number other.number) plans ≡ Some other))
      (λ other. find (has_number other.number) (kept ∷ plans) ≡ Some other) (behind_first kept plans) plans
      (each_both (λ other. kept.number < other.number) (λ other. find (has_number other.number) plans ≡ Some other)
      plans h.0 (each_found plans h.1)),
)

-- The old plan.

abbrev same_kept : Optimum → Kept → Bool
same_kept optimum kept = same_top (top_tree kept.costed.plan.value) (top_tree optimum.costed.plan.value)

pub old_has : (P : Kept → Type 0) (optimum : Optimum) (keep : Fraction) (plans : List Kept) (kept : Kept)
    → AllByRecursion P plans → old_kept optimum keep plans ≡ Some kept → P kept
old_has P optimum keep plans kept h e =
    or_has P (find (same_kept optimum) plans) (cheapest_serving keep optimum.least optimum.at plans) kept
    (λ z k. (found_is P (same_kept optimum) plans z h k).0)
    (λ z k. least_has P (cost_at optimum.at) (filter (serves keep optimum.least optimum.at) plans) z
    (each_filter P P (serves keep optimum.least optimum.at) (λ x _ f. f) plans h) k) e

abbrev number_of : Kept → ℕ
number_of kept = kept.number

number_cached : (found : Option Kept)
    → option_map number_of found ≡ option_map (λ (plan : CachedPlan). plan.number) (option_map cached found)
number_cached None = refl
number_cached (Some kept) = refl

-- its number: of the same plan, else of the cheapest that serves
pub old_numbers : (optimum : Optimum) (keep : Fraction) (plans : List Kept) (top : TopTree) (same : Option ℕ)
    → top ≡ top_tree optimum.costed.plan.value
    → same ≡ option_map (λ (plan : CachedPlan). plan.number) (find (λ plan. same_top plan.top top) (map cached plans))
    → option_map number_of (old_kept optimum keep plans)
    ≡ option_or same (option_map number_of (cheapest_serving keep optimum.least optimum.at plans))
old_numbers optimum keep plans top same is e =
    let covering = cheapest_serving keep optimum.least optimum.at plans in
    map_or number_of (find (same_kept optimum) plans) covering
    ∙ ap (λ found. option_or found (option_map number_of covering))
    (number_cached (find (same_kept optimum) plans)
    ∙ ap (option_map (λ (plan : CachedPlan). plan.number))
    (sym (find_map cached (λ plan. same_top plan.top (top_tree optimum.costed.plan.value)) plans))
    ∙ ap (λ t. option_map (λ (plan : CachedPlan). plan.number) (find (λ plan. same_top plan.top t) (map cached plans)))
    (sym is)
    ∙ sym e)

numbered_by : (optimum : Optimum) (keep : Fraction) (plans : List Kept) (number : ℕ)
    → AllPairs (λ a b. a.number < b.number) plans → (found : Option Kept) → old_kept optimum keep plans ≡ found
    → option_map number_of found ≡ Some number → find (has_number number) plans ≡ found
numbered_by optimum keep plans number rise None e h = absurd (none-some number h)
numbered_by optimum keep plans number rise (Some kept) e h =
    subst (λ n. find (has_number n) plans ≡ Some kept) (same_Some kept.number number h)
    (old_has (λ k. find (has_number k.number) plans ≡ Some k) optimum keep plans kept
    (each_found plans (each_two_from (λ a b. a.number < b.number) plans rise)) e)

-- where numbers rise, it is the plan of its number
pub old_numbered : (optimum : Optimum) (keep : Fraction) (plans : List Kept) (number : ℕ)
    → AllPairs (λ a b. a.number < b.number) plans → option_map number_of (old_kept optimum keep plans) ≡ Some number
    → find (has_number number) plans ≡ old_kept optimum keep plans
old_numbered optimum keep plans number rise h =
    numbered_by optimum keep plans number rise (old_kept optimum keep plans) refl h

-- what is found of it, in both its parts

both_by : (instance : List ℕ) (number cost : ℕ) (found : Option Kept) → option_map number_of found ≡ Some number
    → option_map (cost_at instance) found ≡ Some cost
    → Some (record { number = number; cost = cost }) ≡ option_map (old_plan_at instance) found
both_by instance number cost None h e = absurd (none-some number h)
both_by instance number cost (Some kept) h e =
    ap (λ n. Some (old_of n cost)) (sym (same_Some kept.number number h))
    ∙ ap (λ n. Some (old_of kept.number n)) (sym (same_Some (cost_at instance kept) cost e))
  where
    old_of : ℕ → ℕ → OldPlan
    old_of number cost = record { number = number; cost = cost }

pub old_found : (optimum : Optimum) (keep : Fraction) (plans : List Kept) (number cost : ℕ)
    → AllPairs (λ a b. a.number < b.number) plans → option_map number_of (old_kept optimum keep plans) ≡ Some number
    → option_map (cost_at optimum.at) (find (has_number number) plans) ≡ Some cost
    → Some (record { number = number; cost = cost })
    ≡ option_map (old_plan_at optimum.at) (old_kept optimum keep plans)
old_found optimum keep plans number cost rise h e =
    both_by optimum.at number cost (old_kept optimum keep plans) h
    (ap (option_map (cost_at optimum.at)) (sym (old_numbered optimum keep plans number rise h)) ∙ e)

none_of : {Y : Type 0} (f : Kept → Y) {Z : Type 0} (g : Kept → Z) (found : Option Kept) → option_map f found ≡ None
    → None ≡ option_map g found
none_of f g None h = refl
none_of f g (Some kept) h = absurd (none-some (f kept) (sym h))

-- without a number there is none
pub none_numbered : (optimum : Optimum) (keep : Fraction) (plans : List Kept)
    → option_map number_of (old_kept optimum keep plans) ≡ None
    → None ≡ option_map (old_plan_at optimum.at) (old_kept optimum keep plans)
none_numbered optimum keep plans h = none_of number_of (old_plan_at optimum.at) (old_kept optimum keep plans) h

-- without a cost there is none
pub none_costed : (optimum : Optimum) (keep : Fraction) (plans : List Kept) (number : ℕ)
    → AllPairs (λ a b. a.number < b.number) plans → option_map number_of (old_kept optimum keep plans) ≡ Some number
    → option_map (cost_at optimum.at) (find (has_number number) plans) ≡ None
    → None ≡ option_map (old_plan_at optimum.at) (old_kept optimum keep plans)
none_costed optimum keep plans number rise h e =
    none_of (cost_at optimum.at) (old_plan_at optimum.at) (old_kept optimum keep plans)
    (ap (option_map (cost_at optimum.at)) (sym (old_numbered optimum keep plans number rise h)) ∙ e)

fact_by : (P : OldPlan → Type 0) (optimum : Optimum) (keep : Fraction) (plans : List Kept) (old : OldPlan)
    → AllByRecursion (λ kept. P (old_plan_at optimum.at kept)) plans → (found : Option Kept)
    → old_kept optimum keep plans ≡ found → option_map (old_plan_at optimum.at) found ≡ Some old → P old
fact_by P optimum keep plans old each None e h = absurd (none-some old h)
fact_by P optimum keep plans old each (Some kept) e h =
    subst P (same_Some (old_plan_at optimum.at kept) old h)
    (old_has (λ k. P (old_plan_at optimum.at k)) optimum keep plans kept each e)

-- what each plan has, the old one has
old_fact : (P : OldPlan → Type 0) (optimum : Optimum) (keep : Fraction) (plans : List Kept) (old : OldPlan)
    → AllByRecursion (λ kept. P (old_plan_at optimum.at kept)) plans
    → option_map (old_plan_at optimum.at) (old_kept optimum keep plans) ≡ Some old → P old
old_fact P optimum keep plans old each h = fact_by P optimum keep plans old each (old_kept optimum keep plans) refl h

pub old_there : (optimum : Optimum) (keep : Fraction) (plans : List Kept) (old : OldPlan)
    → option_map (old_plan_at optimum.at) (old_kept optimum keep plans) ≡ Some old → has_plan plans old.number ≡ true
old_there optimum keep plans old h =
    old_fact (λ o. has_plan plans o.number ≡ true) optimum keep plans old (each_there plans) h

-- a plan that may go for room is there
pub least_there : (plans : List Kept) (anchors : List Anchor) (number : ℕ)
    → option_map (λ (plan : CachedPlan). plan.number)
    (model.first_least (λ plan. uses_of anchors plan.number) (map cached plans)) ≡ Some number
    → has_plan plans number ≡ true
least_there plans anchors number h =
    by_least plans anchors number (model.first_least (λ kept. uses_of anchors kept.number) plans) refl
    (number_cached (model.first_least (λ kept. uses_of anchors kept.number) plans)
    ∙ ap (option_map (λ (plan : CachedPlan). plan.number))
    (sym (least_map cached (λ plan. uses_of anchors plan.number) plans)) ∙ h)
  where
    by_least : (plans : List Kept) (anchors : List Anchor) (number : ℕ) (found : Option Kept)
        → model.first_least (λ (kept : Kept). uses_of anchors kept.number) plans ≡ found
        → option_map number_of found ≡ Some number → has_plan plans number ≡ true
    by_least plans anchors number None e k = absurd (none-some number k)
    by_least plans anchors number (Some kept) e k =
        subst (λ n. has_plan plans n ≡ true) (same_Some kept.number number k)
        (least_has (λ x. has_plan plans x.number ≡ true) (λ x. uses_of anchors x.number) plans kept (each_there plans)
        e)

pub old_no_less : (optimum : Optimum) (keep : Fraction) (plans : List Kept) (old : OldPlan)
    → All (λ kept. optimum.least ≤ cost_at optimum.at kept) plans
    → option_map (old_plan_at optimum.at) (old_kept optimum keep plans) ≡ Some old → optimum.least ≤ old.cost
old_no_less optimum keep plans old least h =
    old_fact (λ o. optimum.least ≤ o.cost) optimum keep plans old
    (each_from (λ kept. optimum.least ≤ cost_at optimum.at kept) plans least) h

-- The rule of the model.

pub old_agrees : (optimum : Optimum) (keep : Fraction) (cost : TopTree → ℕ) (plans : List Kept)
    → All (CostsAt cost optimum.at) plans
    → option_map cached (old_kept optimum keep plans)
    ≡ model.old_plan (optimum_of optimum) keep cost (map cached plans)
old_agrees optimum keep cost plans h =
    map_or cached (find (same_kept optimum) plans) (cheapest_serving keep optimum.least optimum.at plans)
    ∙ ap (λ first. option_or first (option_map cached (cheapest_serving keep optimum.least optimum.at plans)))
    (sym (find_map cached (λ plan. same_top plan.top (top_tree optimum.costed.plan.value)) plans))
    ∙ ap (option_or (find (λ plan. same_top plan.top (top_tree optimum.costed.plan.value)) (map cached plans)))
    (covering_agrees keep optimum.least optimum.at plans cost (λ k d less. sym (h k d less)))
