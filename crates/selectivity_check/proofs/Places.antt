-- The first of the places that pass, as the entries come, and over the whole list.
use Rattle.std.proofs.Common.{ℕ, zero, suc, ◌≡◌, ◌≤◌, ◌<◌, ◌==◌, ◌⊎◌, inl, inr, Bool, true, false, cond, nat_lt, List}
use Rattle.std.proofs.Common.{[], ◌∷◌, ◌++◌, length}
use Rattle.std.proofs.Common.{map, All, slice_get, slice_index_or, Option, Some, None, IfSome, ap, sym, ◌∙◌, refl}
use Rattle.std.proofs.Common.{subst, arith}
use Rattle.std.specs.List.{AllByRecursion, AllPairs, filter, position, position_or_len}
use Rattle.std.specs.List.Sorted.{IsNonDecreasingBy, IsPartitionPoint, IsPermutation}
use Rattle.std.specs.Option.{option_map_or}
use Rattle.std.proofs.lemmas.Bool.{cases_lt, cond-true, cond-false, eq-eqb, false≢true, ne_eqb, lt-ltb, le-ltb}
use Rattle.std.proofs.lemmas.Bool.{ltb-true}
use Rattle.std.proofs.lemmas.Bool.{ltb-false}
use Rattle.std.proofs.lemmas.List.{get_or-map, length-map}
use Rattle.std.proofs.lemmas.List.Sums.{position_or_len_is}
use Rattle.std.proofs.lemmas.List.Sorted.{All-permutation, IsPermutation-sym}
use Rattle.std.proofs.lemmas.Option.{get_or_from_slice_get, slice_get-get_or, slice_get_within, same_Some}
use Rattle.cache_model.specs.Caches.{Anchor}
use Rattle.cache_model.proofs.Lists.{EachTwo, all_from, each_from, each_push, each_two_from, pairs_from}
use Rattle.anchor_cache.specs.declared.anchors.Anchor as held
use Rattle.anchor_cache.specs.declared.window.WindowEntry.{WindowEntry}
use Rattle.anchor_cache.specs.Anchors.{held as to_held}
use Rattle.anchor_cache.specs.Window.{entry_of}
use Rattle.anchor_cache.proofs.Views.{held_at}
use Rattle.selectivity_check.specs.Search.{IsFirstOf, IsNoLater, PassesAt, place_in}

-- Positions.

no_anchor : Anchor
no_anchor = record { execution = 0; at = []; plan = 0; plan_cost = 0; least = 0; uses = 0 }

pub position_at : {X : Type 0} (test : X → Bool) (xs : List X) (i : ℕ) → position_or_len test xs ≡ i → i < length xs
    → position test xs ≡ Some i
position_at test xs i e less = ap (λ n. cond (nat_lt n (length xs)) (Some n) None) e
    ∙ cond-true (nat_lt i (length xs)) (Some i) None (lt-ltb i (length xs) less)

pub position_none : {X : Type 0} (test : X → Bool) (xs : List X) → position_or_len test xs ≡ length xs
    → position test xs ≡ None
position_none test xs e = ap (λ n. cond (nat_lt n (length xs)) (Some n) None) e
    ∙ cond-false (nat_lt (length xs) (length xs)) (Some (length xs)) None
    (le-ltb (length xs) (length xs) (omega arith))

-- where executions rise, each anchor stands where its execution is looked up
pub place_is : (anchors : List Anchor) (place : ℕ) (d : Anchor) → AllPairs (λ a b. a.execution < b.execution) anchors
    → place < length anchors → place_in anchors (slice_index_or anchors place d).execution ≡ Some place
place_is anchors place d rising inside =
    position_at (λ anchor. anchor.execution == (slice_index_or anchors place d).execution) anchors place
    (position_or_len_is (λ anchor. anchor.execution == (slice_index_or anchors place d).execution) anchors place d
    (omega arith)
    (λ k less.
    let below : (slice_index_or anchors k d).execution < (slice_index_or anchors place d).execution =
    rising k place d less inside in
    ne_eqb (slice_index_or anchors k d).execution (slice_index_or anchors place d).execution (λ e. omega arith))
    (λ less. eq-eqb (slice_index_or anchors place d).execution (slice_index_or anchors place d).execution refl))
    inside

-- Entry by entry.

pub none_yet : (test : Anchor → Bool) (anchors : List Anchor) → IsFirstOf test anchors [] None
none_yet test anchors = record { passes = tt; first = λ k d less. absurd (omega arith) }

abbrev IsAfter : (Anchor → Bool) → List Anchor → Option ℕ → WindowEntry → Type 0
IsAfter test anchors found entry = (place : ℕ) → place_in anchors entry.execution ≡ Some place
    → PassesAt test anchors place → IsNoLater found place

pub first_stays : (test : Anchor → Bool) (anchors : List Anchor) (entries : List WindowEntry) (entry : WindowEntry)
    (found : Option ℕ) → IsFirstOf test anchors entries found → IsAfter test anchors found entry
    → IsFirstOf test anchors (entries ++ entry ∷ []) found
first_stays test anchors entries entry found h after = record {
  passes = h.passes;
  first = all_from (IsAfter test anchors found) (entries ++ entry ∷ [])
      (each_push (IsAfter test anchors found) entries entry
      (each_from (IsAfter test anchors found) entries h.first) after);
}

no_later_still : (found : Option ℕ) (new place : ℕ) → option_map_or (nat_lt new) found true ≡ true
    → IsNoLater found place → new ≤ place
no_later_still None new place before h = absurd h
no_later_still (Some first) new place before h = let less = ltb-true new first before in omega arith

pub first_taken : (test : Anchor → Bool) (anchors : List Anchor) (entries : List WindowEntry) (entry : WindowEntry)
    (found : Option ℕ) (new : ℕ) → IsFirstOf test anchors entries found
    → place_in anchors entry.execution ≡ Some new → PassesAt test anchors new
    → option_map_or (nat_lt new) found true ≡ true
    → IsFirstOf test anchors (entries ++ entry ∷ []) (Some new)
first_taken test anchors entries entry found new h there passes before = record {
  passes = passes;
  first = all_from (IsAfter test anchors (Some new)) (entries ++ entry ∷ [])
      (each_push (IsAfter test anchors (Some new)) entries entry
      (each_from (IsAfter test anchors (Some new)) entries
      (λ k d less place at holds. no_later_still found new place before (h.first k d less place at holds)))
      (λ place at holds. let same = same_Some new place (sym there ∙ at) in omega arith));
}

same_place : (a b : ℕ) (found : Option ℕ) → found ≡ Some a → found ≡ Some b → a ≡ b
same_place a b found e f = same_Some a b (sym e ∙ f)

fails_here : (test : Anchor → Bool) (anchors : List Anchor) (place : ℕ) (anchor : Anchor)
    → slice_get anchors place ≡ Some anchor → test anchor ≡ false → PassesAt test anchors place → ⊥
fails_here test anchors place anchor there fails h =
    false≢true (sym fails ∙ ap test (sym (get_or_from_slice_get anchors place anchor anchor there)) ∙ h.1 anchor)

pub after_fails : (test : Anchor → Bool) (anchors : List Anchor) (entry : WindowEntry) (found : Option ℕ) (new : ℕ)
    (anchor : Anchor) → place_in anchors entry.execution ≡ Some new → slice_get anchors new ≡ Some anchor
    → test anchor ≡ false → IsAfter test anchors found entry
after_fails test anchors entry found new anchor at there fails place other holds =
    absurd (fails_here test anchors new anchor there fails
    (subst (PassesAt test anchors) (same_place place new (place_in anchors entry.execution) other at) holds))

not_before : (found : Option ℕ) (place : ℕ) → option_map_or (nat_lt place) found true ≡ false → IsNoLater found place
not_before None place e = absurd (false≢true (sym e))
not_before (Some first) place e = ltb-false place first e

pub after_later : (test : Anchor → Bool) (anchors : List Anchor) (entry : WindowEntry) (found : Option ℕ) (new : ℕ)
    → place_in anchors entry.execution ≡ Some new → option_map_or (nat_lt new) found true ≡ false
    → IsAfter test anchors found entry
after_later test anchors entry found new at e place other holds =
    subst (IsNoLater found) (same_place new place (place_in anchors entry.execution) at other) (not_before found new e)

pub passes_here : (test : Anchor → Bool) (anchors : List Anchor) (place : ℕ) (anchor : Anchor)
    → slice_get anchors place ≡ Some anchor → test anchor ≡ true → PassesAt test anchors place
passes_here test anchors place anchor there e = (
  slice_get_within anchors place anchor there,
  λ d. ap test (get_or_from_slice_get anchors place anchor d there) ∙ e,
)

-- Looking up.

pub none_there : (anchors : List Anchor) (execution : ℕ) → All (λ anchor. anchor.execution ≡ execution → ⊥) anchors
    → place_in anchors execution ≡ None
none_there anchors execution other =
    position_none (λ anchor. anchor.execution == execution) anchors
    (position_or_len_is (λ anchor. anchor.execution == execution) anchors (length anchors) no_anchor (omega arith)
    (λ k less. ne_eqb (slice_index_or anchors k no_anchor).execution execution (other k no_anchor less))
    (λ less. absurd (omega arith)))

pub looked_up : (held_anchors : List held.Anchor) (anchors : List Anchor) (execution place : ℕ)
    → map to_held held_anchors ≡ anchors → place_in (map to_held held_anchors) execution ≡ Some place
    → place_in anchors execution ≡ Some place
looked_up held_anchors anchors execution place e h = subst (λ xs. place_in xs execution ≡ Some place) e h

-- executions rise along the program's anchors as along the model's
pub rise_held : (held_anchors : List held.Anchor) (anchors : List Anchor) → map to_held held_anchors ≡ anchors
    → AllPairs (λ a b. a.execution < b.execution) anchors → AllPairs (λ a b. a.execution < b.execution) held_anchors
rise_held held_anchors anchors e rising =
    pairs_from (λ a b. a.execution < b.execution) held_anchors
    (two_unmapped held_anchors (each_two_from (λ a b. a.execution < b.execution) (map to_held held_anchors)
    (subst (AllPairs (λ a b. a.execution < b.execution)) (sym e) rising)))
  where
    each_unmapped : (execution : ℕ) (xs : List held.Anchor)
        → AllByRecursion (λ anchor. execution < anchor.execution) (map to_held xs)
        → AllByRecursion (λ anchor. execution < anchor.execution) xs
    each_unmapped execution [] h = tt
    each_unmapped execution (x ∷ xs) h = (h.0, each_unmapped execution xs h.1)

    two_unmapped : (xs : List held.Anchor) → EachTwo (λ a b. a.execution < b.execution) (map to_held xs)
        → EachTwo (λ a b. a.execution < b.execution) xs
    two_unmapped [] h = tt
    two_unmapped (x ∷ xs) h = (each_unmapped x.execution xs h.0, two_unmapped xs h.1)

-- a list that is cut at the execution has it there, or nowhere
cut_at : (anchors : List Anchor) (execution place : ℕ)
    → ((k : ℕ) (d : Anchor) → k < place → (slice_index_or anchors k d).execution < execution)
    → ((k : ℕ) (d : Anchor) → place < k → k < length anchors → execution < (slice_index_or anchors k d).execution)
    → ((d : Anchor) → place < length anchors → (slice_index_or anchors place d).execution ≡ execution → ⊥)
    → place_in anchors execution ≡ None
cut_at anchors execution place below above other = none_there anchors execution
    (λ k d less e. cut_by k d less e (cases_lt k place) (cases_lt place k))
  where
    cut_by : (k : ℕ) (d : Anchor) → k < length anchors → (slice_index_or anchors k d).execution ≡ execution
        → (k < place) ⊎ (place ≤ k) → (place < k) ⊎ (k ≤ place) → ⊥
    cut_by k d less e (inl small) b = let h = below k d small in absurd (omega arith)
    cut_by k d less e (inr large) (inl more) = let h = above k d more less in absurd (omega arith)
    cut_by k d less e (inr large) (inr last) =
        let same : k ≡ place = omega arith in
        other d (subst (λ n. n < length anchors) same less)
        (subst (λ n. (slice_index_or anchors n d).execution ≡ execution) same e)

-- Looking up among the program's anchors.

from_held : Anchor → held.Anchor
from_held anchor = record {
  execution = anchor.execution;
  at = anchor.at;
  plan = anchor.plan;
  plan_cost = anchor.plan_cost;
  least = anchor.least;
  uses = anchor.uses;
}

at_held : (P : Anchor → Type 0) (xs : List held.Anchor) (k : ℕ) (d : Anchor) → k < length xs
    → P (to_held (slice_index_or xs k (from_held d))) → P (slice_index_or (map to_held xs) k d)
at_held P xs k d less h = subst P (sym (get_or-map to_held xs k (from_held d) d less)) h

rise_mapped : (xs : List held.Anchor) → AllPairs (λ a b. a.execution < b.execution) xs
    → AllPairs (λ a b. a.execution < b.execution) (map to_held xs)
rise_mapped xs rising i j d before inside =
    let long = length-map xs to_held in
    at_held (λ a. a.execution < (slice_index_or (map to_held xs) j d).execution) xs i d (omega arith)
    (at_held (λ b. (to_held (slice_index_or xs i (from_held d))).execution < b.execution) xs j d (omega arith)
    (rising i j (from_held d) before (omega arith)))

pub never_falls : (xs : List held.Anchor) → AllPairs (λ a b. a.execution < b.execution) xs
    → IsNonDecreasingBy (λ a. a.execution) xs
never_falls xs rising i j d before inside = never_by (cases_lt i j)
  where
    never_by : (i < j) ⊎ (j ≤ i) → (slice_index_or xs i d).execution ≤ (slice_index_or xs j d).execution
    never_by (inl less) = let h = rising i j d less inside in omega arith
    never_by (inr same) = let e : i ≡ j = omega arith in
        subst (λ k. (slice_index_or xs i d).execution ≤ (slice_index_or xs k d).execution) e (omega arith)

pub some_cut : (xs : List held.Anchor) (execution place : ℕ) (anchor : held.Anchor)
    → AllPairs (λ a b. a.execution < b.execution) xs → anchor ≡ slice_index_or xs place anchor → place < length xs
    → anchor.execution ≡ execution → place_in (map to_held xs) execution ≡ Some place
some_cut xs execution place anchor rising is inside e =
    subst (λ n. place_in (map to_held xs) n ≡ Some place)
    (ap (λ a. a.execution) (get_or-map to_held xs place anchor (to_held anchor) inside)
    ∙ ap (λ (a : held.Anchor). a.execution) (sym is) ∙ e)
    (place_is (map to_held xs) place (to_held anchor) (rise_mapped xs rising)
    (subst (λ n. place < n) (sym (length-map xs to_held)) inside))

pub none_cut : (xs : List held.Anchor) (execution place : ℕ) → place ≤ length xs
    → AllPairs (λ a b. a.execution < b.execution) xs
    → IsPartitionPoint (λ a. nat_lt a.execution execution ≡ true) (λ a. nat_lt a.execution execution ≡ false) xs place
    → ((d : held.Anchor) → place < length xs → (slice_index_or xs place d).execution ≡ execution → ⊥)
    → place_in (map to_held xs) execution ≡ None
none_cut xs execution place bound rising cut other =
    let long = length-map xs to_held in
    cut_at (map to_held xs) execution place
    (λ k d less.
    at_held (λ a. a.execution < execution) xs k d (omega arith)
    (ltb-true (slice_index_or xs k (from_held d)).execution execution (cut.0 k (from_held d) (omega arith) less)))
    (λ k d more less.
    at_held (λ a. execution < a.execution) xs k d (omega arith)
    (let before : (slice_index_or xs place (from_held d)).execution < (slice_index_or xs k (from_held d)).execution =
    rising place k (from_held d) more (omega arith) in
    let here : execution ≤ (slice_index_or xs place (from_held d)).execution =
    ltb-false (slice_index_or xs place (from_held d)).execution execution
    (cut.1 place (from_held d) (omega arith) (omega arith)) in
    omega arith))
    (λ d less e.
    let inside : place < length xs = omega arith in
    other (from_held d) inside (sym (ap (λ a. a.execution) (get_or-map to_held xs place (from_held d) d inside)) ∙ e))

-- Over the whole list.

is_false : (b : Bool) → (b ≡ true → ⊥) → b ≡ false
is_false true h = absurd (h refl)
is_false false h = refl

first_passing : (test : Anchor → Bool) (anchors : List Anchor) (found : Option ℕ)
    → IfSome found (PassesAt test anchors)
    → ((place : ℕ) (d : Anchor) → place < length anchors → test (slice_index_or anchors place d) ≡ true
    → IsNoLater found place)
    → position test anchors ≡ found
first_passing test anchors None passes later =
    position_none test anchors
    (position_or_len_is test anchors (length anchors) no_anchor (omega arith)
    (λ k less. is_false (test (slice_index_or anchors k no_anchor)) (λ e. later k no_anchor less e))
    (λ less. absurd (omega arith)))
first_passing test anchors (Some first) passes later =
    let inside : first < length anchors = passes.0 in
    position_at test anchors first
    (position_or_len_is test anchors first no_anchor (omega arith)
    (λ k less. is_false (test (slice_index_or anchors k no_anchor))
    (λ e. let no = later k no_anchor (omega arith) e in omega arith))
    (λ less. passes.1 no_anchor)) inside

-- what holds of what passes, holds of each that passes
back_by : {X : Type 0} (Q : X → Type 0) (b : Bool) (x : X) (rest : List X) → AllByRecursion Q (cond b (x ∷ rest) rest)
    → (b ≡ true → Q x) × AllByRecursion Q rest
back_by Q true x rest h = (λ e. h.0, h.1)
back_by Q false x rest h = (λ e. absurd (cc), h)

each_back : {X : Type 0} (Q : X → Type 0) (p : X → Bool) (xs : List X) → AllByRecursion Q (filter p xs)
    → AllByRecursion (λ x. p x ≡ true → Q x) xs
each_back Q p [] h = tt
each_back Q p (x ∷ xs) h = let parts = back_by Q (p x) x (filter p xs) h in (parts.0, each_back Q p xs parts.1)

mapped_at : {X Y : Type 0} (P : Y → Type 0) (f : X → Y) (xs : List X) (i : ℕ) (d : X) → AllByRecursion P (map f xs)
    → i < length xs → P (f (slice_index_or xs i d))
mapped_at P f [] i d h less = absurd (omega arith)
mapped_at P f (x ∷ xs) zero d h less = h.0
mapped_at P f (x ∷ xs) (suc i) d h less = mapped_at P f xs i d h.1 (omega arith)

pub first_of_all : (test : Anchor → Bool) (anchors : List Anchor) (entries : List WindowEntry)
    (near : WindowEntry → Bool) (found : Option ℕ) → AllPairs (λ a b. a.execution < b.execution) anchors
    → IsPermutation (map entry_of anchors) entries
    → All (λ anchor. near (entry_of anchor) ≡ false → test anchor ≡ false) anchors
    → IsFirstOf test anchors (filter near entries) found → position test anchors ≡ found
first_of_all test anchors entries near found rising each far h =
    let after : AllByRecursion (λ entry. near entry ≡ true → IsAfter test anchors found entry) (map entry_of anchors) =
    each_from (λ entry. near entry ≡ true → IsAfter test anchors found entry) (map entry_of anchors)
    (All-permutation (λ entry. near entry ≡ true → IsAfter test anchors found entry) entries (map entry_of anchors)
    (IsPermutation-sym (map entry_of anchors) entries each)
    (all_from (λ entry. near entry ≡ true → IsAfter test anchors found entry) entries
    (each_back (IsAfter test anchors found) near entries
    (each_from (IsAfter test anchors found) (filter near entries) h.first)))) in
    first_passing test anchors found h.passes
    (λ place d inside e.
    mapped_at (λ entry. near entry ≡ true → IsAfter test anchors found entry) entry_of anchors place d after inside
    (is_true (near (entry_of (slice_index_or anchors place d))) (test (slice_index_or anchors place d))
    (far place d inside) e)
    place (place_is anchors place d rising inside) (inside, λ other. at_any anchors place d other inside e))
  where
    is_true : (b t : Bool) → (b ≡ false → t ≡ false) → t ≡ true → b ≡ true
    is_true true t h e = refl
    is_true false t h e = sym (h refl) ∙ e

    at_any : (xs : List Anchor) (i : ℕ) (d other : Anchor) → i < length xs → test (slice_index_or xs i d) ≡ true
        → test (slice_index_or xs i other) ≡ true
    at_any [] i d other less e = absurd (omega arith)
    at_any (x ∷ xs) zero d other less e = e
    at_any (x ∷ xs) (suc i) d other less e = at_any xs i d other (omega arith) e
