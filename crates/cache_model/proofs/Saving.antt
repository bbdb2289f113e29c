-- What is kept of an optimum, with an older plan or with its own: the cache stays faithful.
use Rattle.std.proofs.Common.{ℕ, ◌≡◌, ◌≢◌, ◌≤◌, ◌<◌, ◌+◌, nat_lt, Bool, true, false, cond, List, [], ◌∷◌, ◌++◌, length}
use Rattle.std.proofs.Common.{Option, Some, None, ap, sym, ◌∙◌, refl, subst, arith, le_trans}
use Rattle.std.specs.List.{AllByRecursion, best_of, filter, find}
use Rattle.std.specs.Option.{option_map, option_map_or, option_or}
use Rattle.std.proofs.lemmas.Bool.{false≢true, ltb-true, ltb-false}
use Rattle.std.proofs.lemmas.List.{length_push}
use Rattle.std.proofs.lemmas.Option.{none-some, same_Some}
use Rattle.fraction_math.specs.Fraction.{Fraction}
use Rattle.row_values.specs.Statements.{Statement}
use Rattle.plan_trees.specs.Statistics.{Statistics}
use Rattle.plan_trees.proofs.SameTrees.{same_tops}
use Rattle.plan_trees.specs.Trees.{TopTree, same_top}
use Rattle.cost_model.specs.Costs.{top_cost}
use Rattle.cache_model.specs.Caches.{Anchor, CachedPlan, CacheState, top_numbered, uses_of, with_anchor, without}
use Rattle.cache_model.specs.Faithful.{IsFaithfulAnchor, IsFaithfulCache, IsFaithfulPlan, IsWide}
use Rattle.cache_model.specs.Keeping.{KeptNothing, Optimum, added, anchor_of, covering, covers, evicted_for_room}
use Rattle.cache_model.specs.Keeping.{first_least, kept_after, kept_with_new, kept_with_old, old_plan, victim}
use Rattle.cache_model.specs.Keeping.{with_room}
use Rattle.cache_model.specs.Laws.{IsNextOf, IsOptimum}
use Rattle.cache_model.specs.declared.limits.TheConstants.{ANCHOR_LIMIT}
use Rattle.cache_model.proofs.Evicting.{faithful_without}
use Rattle.cache_model.proofs.Lists.{all_from, each_filter, each_from, each_push, each_to, each_two_from, found_is}
use Rattle.cache_model.proofs.Lists.{length-filter, none_found, pairs_from, two_push}
use Rattle.cache_model.proofs.LookUps.{anchored_new, anchored_push, each_by_number, each_shortens, is_of_other}
use Rattle.cache_model.proofs.LookUps.{is_other, numbered_new, numbered_push}
use Rattle.cache_model.proofs.Reusing.{Rises, anchor_later, faithful_after}

-- One more anchor.

one_longer : {X : Type 0} (xs : List X) (x : X) (limit : ℕ) → length xs < limit → length (xs ++ x ∷ []) ≤ limit
one_longer xs x limit less = let e = length_push xs x in omega arith

rises_to : (executions : ℕ) (a : Anchor) → a.execution ≤ executions → a.execution < executions + 1
rises_to executions a h = omega arith

rise_to : (q : Statement) (s : Statistics) (plans : List CachedPlan) (executions : ℕ) (anchors : List Anchor)
    (new : Anchor) → new.execution ≡ executions + 1 → AllByRecursion (IsFaithfulAnchor q s plans executions) anchors
    → AllByRecursion (λ anchor. Rises anchor new) anchors
rise_to q s plans executions anchors new e h =
    each_to (IsFaithfulAnchor q s plans executions) (λ anchor. Rises anchor new)
    (λ anchor k. subst (λ n. anchor.execution < n) (sym e) (rises_to executions anchor k.execution)) anchors h

plan_anchored : (q : Statement) (s : Statistics) (anchors : List Anchor) (new : Anchor) (next : ℕ) (plan : CachedPlan)
    → IsFaithfulPlan q s anchors next plan → IsFaithfulPlan q s (anchors ++ new ∷ []) next plan
plan_anchored q s anchors new next plan h =
    record { valid = h.valid; anchored = anchored_push anchors new plan.number h.anchored; given = h.given }

new_is_faithful : (q : Statement) (s : Statistics) (plans : List CachedPlan) (executions : ℕ) (optimum : Optimum)
    (number : ℕ) (top : TopTree) → top_numbered plans number ≡ Some top → IsOptimum q s optimum → optimum.execution
    ≡ executions + 1
    → IsFaithfulAnchor q s plans (executions + 1) (anchor_of optimum number (top_cost q s optimum.at top))
new_is_faithful q s plans executions optimum number top there is_optimum now =
    record {
      vector = is_optimum.vector;
      top = top;
      there = there;
      plan_cost = refl;
      least = is_optimum.least;
      execution = le_if_same optimum.execution (executions + 1) now;
      uses = record { low = omega arith; high = omega arith };
    }
  where
    le_if_same : (a b : ℕ) → a ≡ b → a ≤ b
    le_if_same a b e = omega arith

-- Of an older plan.

faithful_with_old : (cache : CacheState) (q : Statement) (s : Statistics) (executions budget : ℕ) (optimum : Optimum)
    (number : ℕ) (top : TopTree) → IsFaithfulCache cache q s executions budget → ¬ IsWide q s
    → length cache.anchors < ANCHOR_LIMIT
    → top_numbered cache.plans number ≡ Some top → IsOptimum q s optimum → optimum.execution ≡ executions + 1
    → IsFaithfulCache (with_anchor cache (anchor_of optimum number (top_cost q s optimum.at top))) q s
    (executions + 1) budget
faithful_with_old cache q s executions budget optimum number top h narrow room there is_optimum now =
    let new : Anchor = anchor_of optimum number (top_cost q s optimum.at top) in
    let each = each_from (IsFaithfulAnchor q s cache.plans executions) cache.anchors h.anchors in
    record {
      plans = λ k d inside. plan_anchored q s cache.anchors new cache.next_plan _ (h.plans k d inside);
      anchors =
          all_from (IsFaithfulAnchor q s cache.plans (executions + 1)) (cache.anchors ++ new ∷ [])
          (each_push (IsFaithfulAnchor q s cache.plans (executions + 1)) cache.anchors new
          (each_to (IsFaithfulAnchor q s cache.plans executions) (IsFaithfulAnchor q s cache.plans (executions + 1))
          (anchor_later q s cache.plans executions (executions + 1) (omega arith)) cache.anchors each)
          (new_is_faithful q s cache.plans executions optimum number top there is_optimum now));
      numbers_rise = h.numbers_rise;
      executions_rise =
          pairs_from Rises (cache.anchors ++ new
          ∷ []) (two_push Rises cache.anchors new (each_two_from Rises cache.anchors h.executions_rise)
          (rise_to q s cache.plans executions cache.anchors new now each));
      no_two_same = h.no_two_same;
      few_plans = h.few_plans;
      few_anchors = one_longer cache.anchors new ANCHOR_LIMIT room;
      no_plan_if_wide = h.no_plan_if_wide;
      no_anchor_if_wide = λ wide. absurd (narrow wide);
    }

-- Of its own plan.

plan_numbered : (q : Statement) (s : Statistics) (anchors : List Anchor) (new : Anchor) (next : ℕ) (plan : CachedPlan)
    → IsFaithfulPlan q s anchors next plan → IsFaithfulPlan q s (anchors ++ new ∷ []) (next + 1) plan
plan_numbered q s anchors new next plan h =
    record {
      valid = h.valid;
      anchored = anchored_push anchors new plan.number h.anchored;
      given =
          le_trans h.given (omega arith);
    }

anchor_numbered : (q : Statement) (s : Statistics) (plans : List CachedPlan) (new : CachedPlan) (executions : ℕ)
    (anchor : Anchor) → IsFaithfulAnchor q s plans executions anchor
    → IsFaithfulAnchor q s (plans ++ new ∷ []) executions anchor
anchor_numbered q s plans new executions anchor h =
    record {
      vector = h.vector;
      top = h.top;
      there = numbered_push plans new anchor.plan h.top h.there;
      plan_cost = h.plan_cost;
      least = h.least;
      execution = h.execution;
      uses = h.uses;
    }

faithful_with_new : (cache : CacheState) (q : Statement) (s : Statistics) (executions budget : ℕ) (optimum : Optimum)
    → IsFaithfulCache cache q s executions budget → ¬ IsWide q s → length cache.anchors < ANCHOR_LIMIT
    → length cache.plans < budget
    → AllByRecursion (λ plan. plan.top ≢ optimum.top) cache.plans → IsOptimum q s optimum → optimum.execution
    ≡ executions + 1 → IsFaithfulCache (added cache optimum (top_cost q s optimum.at)) q s (executions + 1) budget
faithful_with_new cache q s executions budget optimum h narrow room few others is_optimum now =
    let plan : CachedPlan = record { number = cache.next_plan; top = optimum.top } in
    let new : Anchor = anchor_of optimum cache.next_plan (top_cost q s optimum.at optimum.top) in
    let each = each_from (IsFaithfulAnchor q s cache.plans executions) cache.anchors h.anchors in
    let plans = each_from (IsFaithfulPlan q s cache.anchors cache.next_plan) cache.plans h.plans in
    let below = each_to (IsFaithfulPlan q s cache.anchors cache.next_plan) (λ x. x.number < cache.next_plan)
    (λ x k. k.given) cache.plans plans in
    record {
      plans =
          all_from (IsFaithfulPlan q s (cache.anchors ++ new ∷ []) (cache.next_plan + 1)) (cache.plans ++ plan ∷ [])
          (each_push (IsFaithfulPlan q s (cache.anchors ++ new ∷ []) (cache.next_plan + 1)) cache.plans plan
          (each_to (IsFaithfulPlan q s cache.anchors cache.next_plan) (IsFaithfulPlan q s (cache.anchors ++ new
          ∷ []) (cache.next_plan + 1)) (plan_numbered q s cache.anchors new cache.next_plan) cache.plans plans)
          (record {
            valid = is_optimum.valid;
            anchored = anchored_new cache.anchors new cache.next_plan refl;
            given =
                omega arith;
          }));
      anchors =
          all_from (IsFaithfulAnchor q s (cache.plans ++ plan ∷ []) (executions + 1)) (cache.anchors ++ new ∷ [])
          (each_push (IsFaithfulAnchor q s (cache.plans ++ plan ∷ []) (executions + 1)) cache.anchors new
          (each_to (IsFaithfulAnchor q s cache.plans executions) (IsFaithfulAnchor q s (cache.plans ++ plan
          ∷ []) (executions + 1))
          (λ anchor k. anchor_numbered q s cache.plans plan (executions + 1) anchor
          (anchor_later q s cache.plans executions (executions + 1) (omega arith) anchor k)) cache.anchors each)
          (new_is_faithful q s (cache.plans ++ plan ∷ []) executions optimum cache.next_plan optimum.top
          (numbered_new cache.plans cache.next_plan optimum.top below) is_optimum now));
      numbers_rise = pairs_from (λ a b. a.number < b.number) (cache.plans ++ plan
          ∷ []) (two_push (λ a b. a.number < b.number) cache.plans plan
          (each_two_from (λ a b. a.number < b.number) cache.plans h.numbers_rise) below);
      executions_rise =
          pairs_from Rises (cache.anchors ++ new
          ∷ []) (two_push Rises cache.anchors new (each_two_from Rises cache.anchors h.executions_rise)
          (rise_to q s cache.plans executions cache.anchors new now each));
      no_two_same = pairs_from (λ a b. a.top ≢ b.top) (cache.plans ++ plan
          ∷ []) (two_push (λ a b. a.top ≢ b.top) cache.plans plan
          (each_two_from (λ a b. a.top ≢ b.top) cache.plans h.no_two_same) others);
      few_plans = one_longer cache.plans plan budget few;
      few_anchors = one_longer cache.anchors new ANCHOR_LIMIT room;
      no_plan_if_wide = λ wide. absurd (narrow wide);
      no_anchor_if_wide = λ wide. absurd (narrow wide);
    }

-- The first of the least is one of the list.

lesser_has : {X : Type 0} (P : X → Type 0) (b : Bool) (x y : X) → P x → P y → P (cond b y x)
lesser_has P true x y h k = k
lesser_has P false x y h k = h

best_has : {X : Type 0} (P : X → Type 0) (beats : X → X → Bool) (x : X) (xs : List X) → P x → AllByRecursion P xs
    → P (best_of beats x xs)
best_has P beats x [] h k = h
best_has P beats x (y ∷ xs) h k = best_has P beats (cond (beats y x) y x) xs (lesser_has P (beats y x) x y h k.0) k.1

first_least_has : {X : Type 0} (P : X → Type 0) (number : X → ℕ) (xs : List X) (y : X) → AllByRecursion P xs
    → first_least number xs ≡ Some y → P y
first_least_has P number [] y h e = absurd (none-some y e)
first_least_has P number (x ∷ xs) y h e =
    subst P (same_Some (best_of (λ z least. nat_lt (number z) (number least)) x xs) y e)
    (best_has P (λ z least. nat_lt (number z) (number least)) x xs h.0 h.1)

none_least : {X : Type 0} (number : X → ℕ) (xs : List X) → first_least number xs ≡ None → xs ≡ []
none_least number [] e = refl
none_least number (x ∷ xs) e = absurd (none-some (best_of (λ z least. nat_lt (number z) (number least)) x xs) (sym e))

-- Room.

pub record HasRoom (cache base : CacheState) (q : Statement) (s : Statistics) (executions budget : ℕ)
    (top : TopTree) : Type 0 where
  pub faithful : IsFaithfulCache base q s executions budget
  pub next : base.next_plan ≡ cache.next_plan
  pub few : length base.plans < budget
  pub room : length base.anchors < ANCHOR_LIMIT
  pub others : AllByRecursion (λ plan. plan.top ≢ top) base.plans

room_without : (cache : CacheState) (q : Statement) (s : Statistics) (executions budget : ℕ) (top : TopTree)
    (gone : CachedPlan) → IsFaithfulCache cache q s executions budget → length cache.anchors < ANCHOR_LIMIT
    → AllByRecursion (λ plan. plan.top ≢ top) cache.plans
    → length (filter (is_other gone.number) cache.plans) < length cache.plans
    → HasRoom cache (without cache gone.number) q s executions budget top
room_without cache q s executions budget top gone h room others less =
    record {
      faithful = faithful_without cache q s executions budget gone.number h;
      next = refl;
      few = le_trans less h.few_plans;
      room = below_filter (length (filter (is_of_other gone.number) cache.anchors)) (length cache.anchors) ANCHOR_LIMIT
          (length-filter (is_of_other gone.number) cache.anchors) room;
      others = each_filter (λ plan. plan.top ≢ top) (λ plan. plan.top ≢ top) (is_other gone.number) (λ plan e k. k)
          cache.plans others;
    }
  where
    below_filter : (a b c : ℕ) → a ≤ b → b < c → a < c
    below_filter a b c x y = omega arith

room_by_victim : (cache : CacheState) (q : Statement) (s : Statistics) (executions budget : ℕ) (top : TopTree)
    → 1 ≤ budget → IsFaithfulCache cache q s executions budget → length cache.anchors < ANCHOR_LIMIT
    → AllByRecursion (λ plan. plan.top ≢ top) cache.plans
    → budget ≤ length cache.plans → (found : Option CachedPlan) → victim cache ≡ found
    → HasRoom cache (option_map_or (without cache) (option_map (λ plan. plan.number) found) cache) q s executions
    budget top
room_by_victim cache q s executions budget top some h room others full None e =
    let empty = ap (λ plans. length plans) (none_least (λ plan. uses_of cache.anchors plan.number) cache.plans e) in
    absurd (nothing budget (length cache.plans) some full empty)
  where
    nothing : (a b : ℕ) → 1 ≤ a → a ≤ b → b ≡ 0 → ⊥
    nothing a b x y z = omega arith
room_by_victim cache q s executions budget top some h room others full (Some gone) e =
    room_without cache q s executions budget top gone h room others
    (first_least_has (λ x. length (filter (is_other x.number) cache.plans) < length cache.plans)
    (λ plan. uses_of cache.anchors plan.number) cache.plans gone (each_shortens cache.plans) e)

room_by : (cache : CacheState) (q : Statement) (s : Statistics) (executions budget : ℕ) (top : TopTree) → 1 ≤ budget
    → IsFaithfulCache cache q s executions budget → length cache.anchors < ANCHOR_LIMIT
    → AllByRecursion (λ plan. plan.top ≢ top) cache.plans
    → (b : Bool) → nat_lt (length cache.plans) budget ≡ b
    → HasRoom cache (option_map_or (without cache) (cond b None (option_map (λ plan. plan.number) (victim cache)))
    cache) q s executions budget top
room_by cache q s executions budget top some h room others true e =
    record { faithful = h; next = refl; few = ltb-true (length cache.plans) budget e; room = room; others = others }
room_by cache q s executions budget top some h room others false e =
    room_by_victim cache q s executions budget top some h room others (ltb-false (length cache.plans) budget e)
    (victim cache) refl

has_room : (cache : CacheState) (q : Statement) (s : Statistics) (executions budget : ℕ) (top : TopTree) → 1 ≤ budget
    → IsFaithfulCache cache q s executions budget → length cache.anchors < ANCHOR_LIMIT
    → AllByRecursion (λ plan. plan.top ≢ top) cache.plans
    → HasRoom cache (with_room cache budget) q s executions budget top
has_room cache q s executions budget top some h room others =
    room_by cache q s executions budget top some h room others (nat_lt (length cache.plans) budget) refl

-- The rule.

or_by : {X : Type 0} (P : X → Type 0) (first second : Option X) (y : X) → ((z : X) → first ≡ Some z → P z)
    → ((z : X) → second ≡ Some z → P z) → option_or first second ≡ Some y → P y
or_by P None second y h k e = k y e
or_by P (Some x) second y h k e = h y e

or_none : {X : Type 0} (first second : Option X) → option_or first second ≡ None → first ≡ None
or_none None second e = refl
or_none (Some x) second e = absurd (none-some x (sym e))

-- an older plan is the one of its number
old_is_numbered : (cache : CacheState) (q : Statement) (s : Statistics) (executions budget : ℕ) (optimum : Optimum)
    (keep : Fraction) (cost : TopTree → ℕ) (plan : CachedPlan) → IsFaithfulCache cache q s executions budget
    → old_plan optimum keep cost cache.plans ≡ Some plan → top_numbered cache.plans plan.number ≡ Some plan.top
old_is_numbered cache q s executions budget optimum keep cost plan h e =
    let each = each_by_number cache.plans (each_two_from (λ a b. a.number < b.number) cache.plans h.numbers_rise) in
    or_by (λ x. top_numbered cache.plans x.number ≡ Some x.top) (find (λ x. same_top x.top optimum.top) cache.plans)
    (covering keep optimum.least cost cache.plans) plan
    (λ z k. (found_is (λ x. top_numbered cache.plans x.number ≡ Some x.top) (λ x. same_top x.top optimum.top)
    cache.plans z each k).0)
    (λ z k. first_least_has (λ x. top_numbered cache.plans x.number
    ≡ Some x.top) (λ x. cost x.top) (filter (λ x. covers keep optimum.least (cost x.top)) cache.plans) z
    (each_filter (λ x. top_numbered cache.plans x.number ≡ Some x.top) (λ x. top_numbered cache.plans x.number
    ≡ Some x.top) (λ x. covers keep optimum.least (cost x.top)) (λ x _ f. f) cache.plans each) k) e

-- where there is none, each plan is another tree
old_is_other : (optimum : Optimum) (keep : Fraction) (cost : TopTree → ℕ) (plans : List CachedPlan)
    → old_plan optimum keep cost plans ≡ None → AllByRecursion (λ plan. plan.top ≢ optimum.top) plans
old_is_other optimum keep cost plans e =
    each_to (λ plan. same_top plan.top optimum.top ≡ false) (λ plan. plan.top ≢ optimum.top)
    (λ plan f k. false≢true (sym f ∙ (same_tops plan.top optimum.top).1 k)) plans
    (none_found (λ plan. same_top plan.top optimum.top) plans
    (or_none (find (λ plan. same_top plan.top optimum.top) plans) (covering keep optimum.least cost plans) e))

kept_new : (cache : CacheState) (q : Statement) (s : Statistics) (executions budget : ℕ) (optimum : Optimum)
    → ¬ IsWide q s → IsOptimum q s optimum → optimum.execution ≡ executions + 1
    → HasRoom cache (with_room cache budget) q s executions budget optimum.top
    → IsFaithfulCache (kept_with_new cache optimum (top_cost q s optimum.at) budget).cache q s (executions + 1) budget
kept_new cache q s executions budget optimum narrow is_optimum now base =
    faithful_with_new (with_room cache budget) q s executions budget optimum base.faithful narrow base.room base.few
    base.others is_optimum now

kept_old : (cache : CacheState) (q : Statement) (s : Statistics) (executions budget : ℕ) (optimum : Optimum)
    (keep : Fraction) → 1 ≤ budget → ¬ IsWide q s → IsOptimum q s optimum → optimum.execution ≡ executions + 1
    → IsFaithfulCache cache q s executions budget → length cache.anchors < ANCHOR_LIMIT → (found : Option CachedPlan)
    → old_plan optimum keep (top_cost q s optimum.at) cache.plans ≡ found
    → IsFaithfulCache (option_map_or (kept_with_old cache optimum (top_cost q s optimum.at)) found
    (kept_with_new cache optimum (top_cost q s optimum.at) budget)).cache q s (executions + 1) budget
kept_old cache q s executions budget optimum keep some narrow is_optimum now h room (Some plan) e =
    faithful_with_old cache q s executions budget optimum plan.number plan.top h narrow room
    (old_is_numbered cache q s executions budget optimum keep (top_cost q s optimum.at) plan h e) is_optimum now
kept_old cache q s executions budget optimum keep some narrow is_optimum now h room None e =
    kept_new cache q s executions budget optimum narrow is_optimum now
    (has_room cache q s executions budget optimum.top some h room
    (old_is_other optimum keep (top_cost q s optimum.at) cache.plans e))

kept_by : (cache : CacheState) (q : Statement) (s : Statistics) (executions budget : ℕ) (optimum : Optimum)
    (keep : Fraction) → 1 ≤ budget → ¬ IsWide q s → IsOptimum q s optimum → optimum.execution ≡ executions + 1
    → IsFaithfulCache cache q s executions budget → (b : Bool) → nat_lt (length cache.anchors) ANCHOR_LIMIT ≡ b
    → IsFaithfulCache
    (cond b (option_map_or (kept_with_old cache optimum (top_cost q s optimum.at))
    (old_plan optimum keep (top_cost q s optimum.at) cache.plans)
    (kept_with_new cache optimum (top_cost q s optimum.at) budget))
    (record { cache = cache; evicted = None; kept = KeptNothing })).cache q s (executions + 1) budget
kept_by cache q s executions budget optimum keep some narrow is_optimum now h true e =
    kept_old cache q s executions budget optimum keep some narrow is_optimum now h
    (ltb-true (length cache.anchors) ANCHOR_LIMIT e) (old_plan optimum keep (top_cost q s optimum.at) cache.plans)
    refl
kept_by cache q s executions budget optimum keep some narrow is_optimum now h false e =
    faithful_after cache q s executions (executions + 1) budget budget (omega arith) (omega arith) h

pub faithful_kept : (cache : CacheState) (q : Statement) (s : Statistics) (executions : ℕ) (optimum : Optimum)
    (keep : Fraction) (budget : ℕ) → 1 ≤ budget → ¬ IsWide q s → IsOptimum q s optimum → optimum.execution
    ≡ executions + 1
    → IsFaithfulCache cache q s executions budget
    → IsFaithfulCache (kept_after cache q s optimum keep budget).cache q s (executions + 1) budget
faithful_kept cache q s executions optimum keep budget some narrow is_optimum now h =
    kept_by cache q s executions budget optimum keep some narrow is_optimum now h
    (nat_lt (length cache.anchors) ANCHOR_LIMIT) refl

-- Plan numbers.

room_next : (cache : CacheState) (gone : Option ℕ) → (option_map_or (without cache) gone cache).next_plan
    ≡ cache.next_plan
room_next cache None = refl
room_next cache (Some number) = refl

next_by : (cache : CacheState) (optimum : Optimum) (cost : TopTree
    → ℕ) (budget : ℕ) (b : Bool) (found : Option CachedPlan) → IsNextOf cache.next_plan
    (cond b (option_map_or (kept_with_old cache optimum cost) found (kept_with_new cache optimum cost budget))
    (record { cache = cache; evicted = None; kept = KeptNothing })).cache.next_plan
next_by cache optimum cost budget true None =
    let same : (with_room cache budget).next_plan ≡ cache.next_plan = room_next cache (evicted_for_room cache budget) in
    subst (λ n. IsNextOf cache.next_plan (n + 1)) (sym same) (record {
      goes_on = omega arith;
      one_at_most =
          omega arith;
    })
next_by cache optimum cost budget true (Some plan) = record { goes_on = omega arith; one_at_most = omega arith }
next_by cache optimum cost budget false found = record { goes_on = omega arith; one_at_most = omega arith }

pub next_kept : (cache : CacheState) (q : Statement) (s : Statistics) (optimum : Optimum) (keep : Fraction) (budget : ℕ)
    → IsNextOf cache.next_plan (kept_after cache q s optimum keep budget).cache.next_plan
next_kept cache q s optimum keep budget =
    next_by cache optimum (top_cost q s optimum.at) budget (nat_lt (length cache.anchors) ANCHOR_LIMIT)
    (old_plan optimum keep (top_cost q s optimum.at) cache.plans)
