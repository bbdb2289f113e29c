-- What is chosen is the first that passes, and none passes where nothing is chosen.
use Rattle.std.proofs.Common.{ℕ, zero, suc, ◌≡◌, ◌≤◌, ◌<◌, ◌+◌, Bool, true, false, cond, not, nat_lt, List, [], ◌∷◌}
use Rattle.std.proofs.Common.{length, take, slice_index_or, All, Option, Some, None, ap, sym, ◌∙◌, refl, subst, arith}
use Rattle.std.specs.List.{AllByRecursion, position, position_or_len, prefix_len}
use Rattle.std.specs.Option.{option_map_or}
use Rattle.std.proofs.lemmas.Bool.{false≢true, ltb-false, not-true}
use Rattle.std.proofs.lemmas.List.{get_or-take, length-take-le}
use Rattle.std.proofs.lemmas.List.Quantifiers.{position-Some}
use Rattle.std.proofs.lemmas.Option.{none-some, slice_get-get_or}
use Rattle.fraction_math.specs.Fraction.{Fraction}
use Rattle.row_values.specs.Statements.{Statement}
use Rattle.plan_trees.specs.Statistics.{Statistics}
use Rattle.plan_trees.specs.Trees.{TopTree}
use Rattle.cost_model.specs.Costs.{top_cost}
use Rattle.cache_model.specs.Caches.{Anchor, CachedPlan, CacheState, top_numbered}
use Rattle.cache_model.specs.Choices.{ByCost, ByOptimum, BySelectivity, Candidate, Choice, candidates_of, choice_among}
use Rattle.cache_model.specs.Choices.{choice_of, is_cheap_enough, passes_cost_check, passes_selectivity_check}
use Rattle.cache_model.specs.Laws.{IsChoice, IsFirst, PassesByCost, PassesBySelectivity}
use Rattle.cache_model.proofs.Lists.{all_from, each_to}
use Rattle.cache_model.proofs.Tests.{cost_tells, selectivity_tells}

-- A test that passes has found its fact, and one that fails rules it out.

abbrev pub Tells : {X : Type 0} → (X → Bool) → (X → Type 0) → Type 0
Tells {X} test P = (x : X) → (test x ≡ true → P x) × (P x → test x ≡ true)

ruled_out : {X : Type 0} (test : X → Bool) (P : X → Type 0) → Tells test P → (x : X) → test x ≡ false → ¬ P x
ruled_out test P tells x e = λ h. false≢true (sym e ∙ (tells x).1 h)

-- The first anchor.

none_by : (b : Bool) (n m : ℕ) → suc m ≤ cond b (1 + n) 0 → (b ≡ true) × (m ≤ n)
none_by true n m h = (refl, omega arith)
none_by false n m h = absurd (omega arith)

none_pass : {X : Type 0} (test : X → Bool) (xs : List X) → length xs ≤ prefix_len (λ x. not (test x)) xs
    → AllByRecursion (λ x. test x ≡ false) xs
none_pass test [] h = tt
none_pass test (x ∷ xs) h =
    let parts = none_by (not (test x)) (prefix_len (λ y. not (test y)) xs) (length xs) h in
    (not-true (test x) parts.0, none_pass test xs parts.1)

no_position_by : {X : Type 0} (test : X → Bool) (xs : List X) (b : Bool) → nat_lt (position_or_len test xs) (length xs)
    ≡ b → cond b (Some (position_or_len test xs)) None ≡ None → AllByRecursion (λ x. test x ≡ false) xs
no_position_by test xs true e h = absurd (none-some (position_or_len test xs) (sym h))
no_position_by test xs false e h = none_pass test xs (ltb-false (position_or_len test xs) (length xs) e)

no_position : {X : Type 0} (test : X → Bool) (xs : List X) → position test xs ≡ None
    → AllByRecursion (λ x. test x ≡ false) xs
no_position test xs h = no_position_by test xs (nat_lt (position_or_len test xs) (length xs)) refl h

below_first : {X : Type 0} (test : X → Bool) (P : X → Type 0) (xs : List X) (i : ℕ) → Tells test P → i ≤ length xs
    → ((k : ℕ) (d : X) → k < i → test (slice_index_or xs k d) ≡ false) → All (λ x. ¬ P x) (take i xs)
below_first test P xs i tells inside before = λ k d less.
    let long = length-take-le i xs inside in
    let small : k < i = subst (λ n. k < n) long less in
    subst (λ x. ¬ P x) (sym (get_or-take i xs k d small)) (ruled_out test P tells (slice_index_or xs k d)
    (before k d small))

first_at : {X : Type 0} (test : X → Bool) (P : X → Type 0) (xs : List X) (i : ℕ) (d : X) → Tells test P
    → position test xs ≡ Some i → IsFirst P xs i
first_at test P xs i d tells e =
    let found = position-Some test xs i d e in
    record {
      item = slice_index_or xs i d;
      there = slice_get-get_or xs i d found.0;
      passes = (tells (slice_index_or xs i d)).0 found.1;
      none_before = below_first test P xs i tells (within i (length xs) found.0) (λ k other less.
          (position-Some test xs i other e).2 k less);
    }
  where
    within : (a b : ℕ) → a < b → a ≤ b
    within a b h = omega arith

-- The first candidate.

pub record IsFirstFrom (P : Candidate → Type 0) (candidates : List Candidate) (tried position total : ℕ) : Type 0 where
  pub before : ℕ
  pub counted : total ≡ tried + before + 1
  pub first : IsFirst P candidates before
  pub placed : first.item.position ≡ position

-- what the choice among candidates says of them
abbrev pub IsAmong : (Candidate → Type 0) → List Candidate → ℕ → Choice → Type 0
IsAmong P candidates tried (BySelectivity position) = ⊥
IsAmong P candidates tried (ByCost position total) = IsFirstFrom P candidates tried position total
IsAmong P candidates tried (ByOptimum total) = All (λ candidate. ¬ P candidate) candidates
    × (total ≡ tried + length candidates)

all_behind : (Q : Candidate → Type 0) (first : Candidate) (rest : List Candidate) → Q first → All Q rest
    → All Q (first ∷ rest)
all_behind Q first rest h k zero d less = h
all_behind Q first rest h k (suc n) d less = k n d (omega arith)

among_first : (P : Candidate → Type 0) (first : Candidate) (rest : List Candidate) (tried : ℕ) → P first
    → IsFirstFrom P (first ∷ rest) tried first.position (tried + 1)
among_first P first rest tried h =
    record {
      before = 0;
      counted = omega arith;
      first = record {
        item = first;
        there = refl;
        passes = h;
        none_before =
            λ k d less. absurd (omega arith);
      };
      placed = refl;
    }

among_later : (P : Candidate → Type 0) (first : Candidate) (rest : List Candidate) (tried : ℕ) (choice : Choice)
    → ¬ P first → IsAmong P rest (tried + 1) choice → IsAmong P (first ∷ rest) tried choice
among_later P first rest tried (BySelectivity position) fails h = h
among_later P first rest tried (ByCost position total) fails h =
    let counts = h.counted in
    record {
      before = suc h.before;
      counted = omega arith;
      first = record {
        item = h.first.item;
        there = h.first.there;
        passes = h.first.passes;
        none_before =
            all_behind (λ candidate. ¬ P candidate) first (take h.before rest) fails h.first.none_before;
      };
      placed = h.placed;
    }
among_later P first rest tried (ByOptimum total) fails h = let counts =
    h.1 in (all_behind (λ candidate. ¬ P candidate) first rest fails h.0, omega arith)

among_by : (test : Anchor → Bool) (P : Candidate → Type 0) (b : Bool) (first : Candidate) (rest : List Candidate)
    (tried : ℕ) (choice : Choice) → Tells (λ candidate. test candidate.anchor) P → test first.anchor ≡ b
    → IsAmong P rest (tried + 1) choice
    → IsAmong P (first ∷ rest) tried (cond b (ByCost first.position (tried + 1)) choice)
among_by test P true first rest tried choice tells e h = among_first P first rest tried ((tells first).0 e)
among_by test P false first rest tried choice tells e h =
    among_later P first rest tried choice (ruled_out (λ candidate. test candidate.anchor) P tells first e) h

is_among : (test : Anchor → Bool) (P : Candidate → Type 0) (candidates : List Candidate) (tried : ℕ)
    → Tells (λ candidate. test candidate.anchor) P → IsAmong P candidates tried (choice_among test tried candidates)
is_among test P [] tried tells = (λ k d less. absurd (omega arith), omega arith)
is_among test P (first ∷ rest) tried tells =
    among_by test P (test first.anchor) first rest tried (choice_among test (tried + 1) rest) tells refl
    (is_among test P rest (tried + 1) tells)

-- The choice.

cost_found : (q : Statement) (s : Statistics) (plans : List CachedPlan) (lambda : Fraction) (instance : List ℕ)
    (anchor : Anchor) (found : Option TopTree) → top_numbered plans anchor.plan ≡ found
    → option_map_or (λ top. is_cheap_enough lambda instance anchor (top_cost q s instance top)) found false ≡ true
    → PassesByCost q s plans lambda instance anchor
cost_found q s plans lambda instance anchor None e h = absurd (false≢true h)
cost_found q s plans lambda instance anchor (Some top) e h =
    record {
      top = top;
      plan = e;
      check = (cost_tells q s lambda instance plans anchor top e).0
          (ap (λ o. option_map_or (λ t. is_cheap_enough lambda instance anchor (top_cost q s instance t)) o false) e
          ∙ h);
    }

cost_test : (q : Statement) (s : Statistics) (plans : List CachedPlan) (lambda : Fraction) (instance : List ℕ)
    → Tells {X = Candidate} (λ candidate. passes_cost_check q s lambda instance plans candidate.anchor)
    (λ candidate. PassesByCost q s plans lambda instance candidate.anchor)
cost_test q s plans lambda instance = λ candidate. (
  λ e. cost_found q s plans lambda instance candidate.anchor (top_numbered plans candidate.anchor.plan) refl e,
  λ h. (cost_tells q s lambda instance plans candidate.anchor h.top h.plan).1 h.check,
)

choice_from : (cache : CacheState) (q : Statement) (s : Statistics) (instance : List ℕ) (lambda : Fraction)
    (recosts : ℕ) (choice : Choice) → All (λ anchor. ¬ PassesBySelectivity lambda instance anchor) cache.anchors
    → IsAmong (λ candidate. PassesByCost q s cache.plans lambda instance candidate.anchor)
    (candidates_of instance recosts cache.anchors) 0 choice → IsChoice cache q s instance lambda recosts choice
choice_from cache q s instance lambda recosts (BySelectivity position) none h = absurd h
choice_from cache q s instance lambda recosts (ByCost position tried) none h =
    let counts = h.counted in record {
      not_by_selectivity = none;
      before = h.before;
      counted = omega arith;
      first =
          h.first;
      placed = h.placed;
    }
choice_from cache q s instance lambda recosts (ByOptimum tried) none h =
    let counts = h.1 in record { not_by_selectivity = none; not_by_cost = h.0; counted = omega arith }

choice_by : (cache : CacheState) (q : Statement) (s : Statistics) (instance : List ℕ) (lambda : Fraction) (recosts : ℕ)
    (found : Option ℕ) → position (passes_selectivity_check lambda instance) cache.anchors ≡ found
    → IsChoice cache q s instance lambda recosts
    (option_map_or BySelectivity found (choice_among (passes_cost_check q s lambda instance cache.plans) 0
    (candidates_of instance recosts cache.anchors)))
choice_by cache q s instance lambda recosts (Some first) e =
    first_at (passes_selectivity_check lambda instance) (PassesBySelectivity lambda instance) cache.anchors first
    (record { execution = 0; at = []; plan = 0; plan_cost = 0; least = 0; uses = 0 })
    (λ anchor. selectivity_tells lambda instance anchor) e
choice_by cache q s instance lambda recosts None e =
    choice_from cache q s instance lambda recosts (choice_among (passes_cost_check q s lambda instance cache.plans) 0
    (candidates_of instance recosts cache.anchors))
    (all_from (λ anchor. ¬ PassesBySelectivity lambda instance anchor) cache.anchors
    (each_to (λ anchor. passes_selectivity_check lambda instance anchor
    ≡ false) (λ anchor. ¬ PassesBySelectivity lambda instance anchor)
    (ruled_out (passes_selectivity_check lambda instance) (PassesBySelectivity lambda instance)
    (λ anchor. selectivity_tells lambda instance anchor)) cache.anchors
    (no_position (passes_selectivity_check lambda instance) cache.anchors e)))
    (is_among (passes_cost_check q s lambda instance cache.plans)
    (λ candidate. PassesByCost q s cache.plans lambda instance candidate.anchor)
    (candidates_of instance recosts cache.anchors) 0 (cost_test q s cache.plans lambda instance))

pub choice_is : (cache : CacheState) (q : Statement) (s : Statistics) (instance : List ℕ) (lambda : Fraction)
    (recosts : ℕ) → IsChoice cache q s instance lambda recosts (choice_of cache q s instance lambda recosts)
choice_is cache q s instance lambda recosts =
    choice_by cache q s instance lambda recosts (position (passes_selectivity_check lambda instance) cache.anchors) refl
