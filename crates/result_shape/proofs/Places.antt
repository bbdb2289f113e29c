-- Where a combination goes among groups: what a search by halving finds, and the parts of a list at an index.
use Rattle.std.proofs.Common.{ℕ, zero, suc, ◌≡◌, ◌<◌, ◌≤◌, ◌+◌, ◌-◌, ◌++◌, List, [], ◌∷◌, length, map, get_or, set, take, drop}
use Rattle.std.proofs.Common.{ap, sym, ◌∙◌, refl, arith, subst, length-take, length-drop, min}
use Rattle.std.specs.Prelude.{All, OnErr, OnOk, Result, Ok, Err}
use Rattle.std.specs.List.{AllWithin, insert}
use Rattle.std.specs.List.Sorted.{IsNonDecreasingBy, IsPartitionPoint, IsStrictlySortedBy}
use Rattle.std.specs.Ordering.{ordering_index}
use Rattle.std.specs.declared.cmp.Ordering.{Ordering}
use Rattle.std.specs.declared.cmp.Ordering.TheVariants.{Less, Equal, Greater}
use Rattle.std.proofs.lemmas.List.{get_or-drop, get_or-take, take-append-drop}
use Rattle.std.proofs.lemmas.List.Sorted.{searchable_from_sorted}
use Rattle.row_values.specs.Statements.{Statement}
use Rattle.row_values.specs.declared.values.Value.{Value}
use Rattle.plan_operators.specs.Keys.{keys_rank}
use Rattle.plan_operators.specs.declared.keys.ReadyKey.{ReadyKey}
use Rattle.statement_meaning.specs.Meaning.{group_keys, keys_order}
use Rattle.statement_meaning.proofs.FullOrders.{keys_total}
use Rattle.result_shape.specs.Groups.{AreReadyFor, HasPlace, IsBegun, IsGrown, firsts}
use Rattle.result_shape.specs.Tallies.{AreTalliesOf, IsReadyItem}
use Rattle.result_shape.specs.declared.groups.Group.{Group}
use Rattle.result_shape.specs.declared.tallies.ReadyItem.{ReadyItem}
use Rattle.result_shape.proofs.StrictOrder.{strict_sorted}

-- a list is what stands before an element, the element, and what stands behind it
pub parts_at : {X : Type 0} (xs : List X) (i : ℕ) (d : X) → i < length xs
    → xs ≡ take i xs ++ get_or xs i d ∷ drop (suc i) xs
parts_at [] i d l = absurd (omega (arith, l))
parts_at (x ∷ xs) zero d l = refl
parts_at {X = X} (x ∷ xs) (suc i) d l = ap (λ (ys : List X). x ∷ ys) (parts_at xs i d (omega (arith, l)))

pub set_at : {X : Type 0} (xs : List X) (i : ℕ) (v : X) → i < length xs → set xs i v ≡ take i xs ++ v ∷ drop (suc i) xs
set_at [] i v l = absurd (omega (arith, l))
set_at (x ∷ xs) zero v l = refl
set_at {X = X} (x ∷ xs) (suc i) v l = ap (λ (ys : List X). x ∷ ys) (set_at xs i v (omega (arith, l)))

pub all_before : {X : Type 0} (P : X → Type 0) (xs : List X) (i : ℕ) → AllWithin P xs 0 i → All P (take i xs)
all_before P xs i a =
    λ k d l.
    let m : k < min i (length xs) = rw length-take at l in
    let short : k < i = omega (arith, m) in
    let low : 0 ≤ k = omega arith in
    subst P (sym (get_or-take i xs k d short)) (a k d low short)

pub all_behind : {X : Type 0} (P : X → Type 0) (xs : List X) (i : ℕ) → i ≤ length xs
    → AllWithin P xs i (length xs) → All P (drop i xs)
all_behind P xs i b a =
    λ k d l.
    let m : k < length xs - i = rw length-drop at l in
    let short : i + k < length xs = omega (arith, m, b) in
    let low : i ≤ i + k = omega arith in
    subst P (sym (get_or-drop i xs k d)) (a (i + k) d low short)

-- groups in strict order may be searched by halving
pub searchable : (q : Statement) (tables : List (List (List Value))) (keys : List ReadyKey) (items : List ReadyItem)
    → AreReadyFor q tables keys items → (groups : List Group) (c : List ℕ)
    → IsStrictlySortedBy (keys_order tables (group_keys q.groups)) (firsts groups)
    → IsNonDecreasingBy (λ (group : Group). ordering_index (keys_rank keys group.first c)) groups
searchable q tables keys items ready groups c s =
    let same : keys_rank keys ≡ keys_order tables (group_keys q.groups) = λ i a b. ready.keys_are a b i in
    subst (λ (o : List ℕ → List ℕ → Ordering). IsNonDecreasingBy (λ (group : Group).
    ordering_index (o group.first c)) groups) (sym same)
    (searchable_from_sorted (keys_total tables (group_keys q.groups)) (λ (group : Group). group.first) groups c
    (strict_sorted (keys_order tables (group_keys q.groups)) (keys_total tables (group_keys q.groups))
    (λ (group : Group). group.first) groups s))

-- what the search finds where no group is the one that is sought
abbrev pub has_place : (keys : List ReadyKey) (c : List ℕ) (groups : List Group) (at : ℕ) → at ≤ length groups
    → IsPartitionPoint (λ (group : Group). keys_rank keys group.first c ≡ Less)
    (λ (group : Group). keys_rank keys group.first c ≡ Greater) groups at
    → HasPlace keys c groups
has_place keys c groups at b p = record {
  before = take at groups;
  behind = drop at groups;
  parts = sym (take-append-drop at groups);
  less = all_before (λ (group : Group). keys_rank keys group.first c ≡ Less) groups at p.0;
  greater = all_behind (λ (group : Group). keys_rank keys group.first c ≡ Greater) groups at b p.1;
}

-- and what becomes of the groups there
pub begun_at : (keys : List ReadyKey) (items : List ReadyItem) (c : List ℕ) (groups : List Group) (at : ℕ)
    (made : Group) → at ≤ length groups
    → IsPartitionPoint (λ (group : Group). keys_rank keys group.first c ≡ Less)
    (λ (group : Group). keys_rank keys group.first c ≡ Greater) groups at
    → made.first ≡ c
    → ((tables : List (List (List Value))) → All (IsReadyItem tables) items
    → AreTalliesOf tables c (c ∷ []) (map (λ ready. ready.item) items) made.tallies.items)
    → IsBegun keys items c groups (insert groups at made)
begun_at keys items c groups at made b p f t = record {
  place = has_place keys c groups at b p;
  made = made;
  new_is = refl;
  first = f;
  tallies = t;
}

-- what becomes of the groups where the search finds one
pub grown_at : (keys : List ReadyKey) (items : List ReadyItem) (c : List ℕ) (groups : List Group) (at : ℕ)
    (group made : Group) → at < length groups → group ≡ get_or groups at group
    → keys_rank keys group.first c ≡ Equal → made.first ≡ group.first
    → ((tables : List (List (List Value))) (members : List (List ℕ)) → All (IsReadyItem tables) items
    → AreTalliesOf tables group.first members (map (λ ready. ready.item) items) group.tallies.items
    → AreTalliesOf tables group.first (members ++ c ∷ []) (map (λ ready. ready.item) items) made.tallies.items)
    → IsGrown keys items c groups (set groups at made)
grown_at keys items c groups at group made b e n f t = record {
  before = take at groups;
  behind = drop (suc at) groups;
  group = group;
  made = made;
  old_is =
      parts_at groups at group b
      ∙ ap (λ (one : Group). take at groups ++ one ∷ drop (suc at) groups) (sym e);
  new_is = set_at groups at made b;
  ties = n;
  first = f;
  tallies = t;
}

-- what is meant of a failure holds of it
pub on_err : {T E : Type 0} (r : Result T E) (P : Type 0) → P → OnErr r P
on_err (Ok v) P p = tt
on_err (Err e) P p = p

-- and two things that are meant of a success make a third of it
pub on_ok_both : {T E : Type 0} (r : Result T E) (P Q R : Type 0) → (P → Q → R) → OnOk r P → OnOk r Q → OnOk r R
on_ok_both (Ok v) P Q R f p q = f p q
on_ok_both (Err e) P Q R f p q = tt
