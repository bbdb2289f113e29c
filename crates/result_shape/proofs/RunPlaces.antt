-- Runs of groups: in which run a combination goes, and what becomes of the groups of all runs.
use Rattle.std.proofs.Common.{ℕ, zero, suc, ◌≡◌, ◌==◌, ◌<◌, ◌++◌, List, [], ◌∷◌, length, get_or, set, take, drop}
use Rattle.std.proofs.Common.{Bool, true, false, ap, ap₂, sym, ◌∙◌, refl, arith, subst, append_assoc}
use Rattle.std.specs.Prelude.{All, Vec}
use Rattle.std.specs.declared.alloc.Global.{Global}
use Rattle.std.specs.Vec.{vec_len}
use Rattle.std.specs.List.{insert}
use Rattle.std.specs.List.Sorted.{IsStrictlySortedBy}
use Rattle.std.specs.Cmp.{IsTotalOrder}
use Rattle.std.specs.Ordering.{is_gt}
use Rattle.std.specs.declared.cmp.Ordering.{Ordering}
use Rattle.std.specs.declared.cmp.Ordering.TheVariants.{Less, Equal, Greater}
use Rattle.std.proofs.lemmas.Bool.{eqb-true}
use Rattle.std.proofs.lemmas.List.{drop_all, map-append, take-append-drop}
use Rattle.std.proofs.lemmas.List.Concat.{flat_map-append}
use Rattle.std.proofs.lemmas.List.Elements.{All-append, All-cons, All-nil, All-tail}
use Rattle.std.proofs.Math.Seq.{drop-cons}
use Rattle.row_values.specs.Statements.{Statement}
use Rattle.row_values.specs.declared.values.Value.{Value}
use Rattle.plan_operators.specs.Keys.{keys_rank}
use Rattle.plan_operators.specs.declared.keys.ReadyKey.{ReadyKey}
use Rattle.statement_meaning.specs.Meaning.{group_keys, is_same_group, keys_order}
use Rattle.statement_meaning.proofs.FullOrders.{keys_total}
use Rattle.result_shape.specs.Groups.{AreGroupsOf, AreReadyFor, AreRuns, HasPlace, IsTakenIn, LiesBetween, firsts}
use Rattle.result_shape.specs.Groups.{groups_in}
use Rattle.result_shape.specs.declared.groups.Group.{Group}
use Rattle.result_shape.specs.declared.tallies.ReadyItem.{ReadyItem}
use Rattle.result_shape.proofs.GrowingGroups.{all_of_map, all_parts}
use Rattle.result_shape.proofs.Places.{parts_at, set_at}
use Rattle.result_shape.proofs.StrictOrder.{greater_through, less_through, strict_back, strict_before}
use Rattle.result_shape.proofs.StrictOrder.{strict_behind, strict_front}
use Rattle.result_shape.proofs.TakenIn.{nothing_there, taken_in}

abbrev pub Run : Type 0
Run = Vec Group Global

abbrev pub HasGroup : Run → Type 0
HasGroup run = 0 < length run.items

-- the groups of all runs are those before a run, its own, and those behind it
pub groups_around : (runs : List Run) (i : ℕ) (d : Run) → i < length runs
    → groups_in runs ≡ groups_in (take i runs) ++ ((get_or runs i d).items ++ groups_in (drop (suc i) runs))
groups_around runs i d l =
    ap groups_in (parts_at runs i d l)
    ∙ flat_map-append (λ (run : Run). run.items) (take i runs) (get_or runs i d ∷ drop (suc i) runs)

-- and where it becomes another, so do they
pub groups_with : (runs : List Run) (i : ℕ) (run : Run) → i < length runs
    → groups_in (set runs i run) ≡ groups_in (take i runs) ++ (run.items ++ groups_in (drop (suc i) runs))
groups_with runs i run l =
    ap groups_in (set_at runs i run l)
    ∙ flat_map-append (λ (run : Run). run.items) (take i runs) (run ∷ drop (suc i) runs)

-- a run that holds a group begins with one
first_of : (gs : List Group) (d : Group) → 0 < length gs → gs ≡ get_or gs 0 d ∷ drop 1 gs
first_of [] d l = absurd (omega (arith, l))
first_of (g ∷ gs) d l = refl

from_run : (runs : List Run) (i : ℕ) (d : Run) → i < length runs
    → groups_in (drop i runs) ≡ (get_or runs i d).items ++ groups_in (drop (suc i) runs)
from_run runs i d l = ap groups_in (drop-cons runs i d l)

-- A run that is cut in two.

cut_at : (runs : List Run) (i : ℕ) (one two : Run) → i < length runs
    → insert (set runs i one) (suc i) two ≡ take i runs ++ one ∷ two ∷ drop (suc i) runs
cut_at [] i one two l = absurd (omega (arith, l))
cut_at (run ∷ runs) zero one two l = refl
cut_at (run ∷ runs) (suc i) one two l = ap (λ (rest : List Run). run ∷ rest) (cut_at runs i one two (omega (arith, l)))

module _ (runs : List Run) (i : ℕ) (d one two : Run) (l : i < length runs) where
  pub groups_cut : (n : ℕ) → one.items ≡ take n (get_or runs i d).items → two.items ≡ drop n (get_or runs i d).items
      → groups_in (insert (set runs i one) (suc i) two) ≡ groups_in runs
  groups_cut n e f =
      ap groups_in (cut_at runs i one two l)
      ∙ (flat_map-append (λ (run : Run). run.items) (take i runs) (one ∷ two ∷ drop (suc i) runs)
      ∙ (ap (λ (gs : List Group). groups_in (take i runs) ++ gs)
      (sym (append_assoc one.items two.items (groups_in (drop (suc i) runs)))
      ∙ ap (λ (gs : List Group). gs ++ groups_in (drop (suc i) runs))
      (ap₂ (λ (xs ys : List Group). xs ++ ys) e f ∙ take-append-drop n (get_or runs i d).items))
      ∙ sym (groups_around runs i d l)))

  pub runs_cut : AreRuns runs → 0 < length one.items → 0 < length two.items
      → AreRuns (insert (set runs i one) (suc i) two)
  runs_cut r o t =
      let both = all_parts HasGroup (take i runs) (get_or runs i d ∷ drop (suc i) runs)
      (subst (λ (rs : List Run). All HasGroup rs) (parts_at runs i d l) r) in
      subst (λ (rs : List Run). All HasGroup rs) (sym (cut_at runs i one two l))
      (All-append HasGroup (take i runs) (one ∷ two ∷ drop (suc i) runs) both.0
      (All-cons HasGroup one (two ∷ drop (suc i) runs) o
      (All-cons HasGroup two (drop (suc i) runs) t
      (All-tail HasGroup (get_or runs i d) (drop (suc i) runs) both.1))))

  -- a run that becomes another with a group
  pub runs_with : AreRuns runs → 0 < length one.items → AreRuns (set runs i one)
  runs_with r o =
      let both = all_parts HasGroup (take i runs) (get_or runs i d ∷ drop (suc i) runs)
      (subst (λ (rs : List Run). All HasGroup rs) (parts_at runs i d l) r) in
      subst (λ (rs : List Run). All HasGroup rs) (sym (set_at runs i one l))
      (All-append HasGroup (take i runs) (one ∷ drop (suc i) runs) both.0
      (All-cons HasGroup one (drop (suc i) runs) o
      (All-tail HasGroup (get_or runs i d) (drop (suc i) runs) both.1)))

-- Where a combination goes in.

module _ (cmp : List ℕ → List ℕ → Ordering) (o : IsTotalOrder cmp) (c : List ℕ) where
  IsBefore : Group → Type 0
  IsBefore group = cmp group.first c ≡ Less

  IsBehind : Group → Type 0
  IsBehind group = cmp group.first c ≡ Greater

  module _ (runs : List Run) (i : ℕ) (d : Run) (e : Group) (l : i < length runs) (r : AreRuns runs)
      (s : IsStrictlySortedBy cmp (firsts (groups_in runs))) where
    abbrev first : Group
    first = get_or (get_or runs i d).items 0 e

    abbrev rest : List Group
    rest = drop 1 (get_or runs i d).items ++ groups_in (drop (suc i) runs)

    begins : (get_or runs i d).items ++ groups_in (drop (suc i) runs) ≡ first ∷ rest
    begins =
        ap (λ (gs : List Group). gs ++ groups_in (drop (suc i) runs))
        (first_of (get_or runs i d).items e (r i d l))

    strict : IsStrictlySortedBy cmp (firsts (groups_in (take i runs)) ++ first.first ∷ firsts rest)
    strict =
        subst (λ (fs : List (List ℕ)). IsStrictlySortedBy cmp fs)
        (ap firsts (groups_around runs i d l ∙ ap (λ (gs : List Group). groups_in (take i runs) ++ gs) begins)
        ∙ map-append (λ (group : Group). group.first) (groups_in (take i runs)) (first ∷ rest)) s

    -- where the first group of a run isn't greater, all groups before that run are less
    pub runs_before : is_gt (cmp (get_or (get_or runs i d).items 0 e).first c) ≡ false
        → All (λ group. cmp group.first c ≡ Less) (groups_in (take i runs))
    runs_before g =
        let less : All (λ group. cmp group.first first.first ≡ Less) (groups_in (take i runs)) =
        all_of_map (λ (group : Group). group.first) (λ x. cmp x first.first ≡ Less) (groups_in (take i runs))
        (strict_before cmp (firsts (groups_in (take i runs))) (firsts rest) first.first strict) in
        λ k x m. less_through cmp o (get_or (groups_in (take i runs)) k x).first first.first c (less k x m) g

    -- where it is greater, so are all groups from that run on
    pub runs_behind : is_gt (cmp (get_or (get_or runs i d).items 0 e).first c) ≡ true
        → All (λ group. cmp group.first c ≡ Greater) (groups_in (drop i runs))
    runs_behind g =
        let greater : cmp first.first c ≡ Greater = told (cmp first.first c) g in
        let more : All (λ group. cmp first.first group.first ≡ Less) rest =
        all_of_map (λ (group : Group). group.first) (λ y. cmp first.first y ≡ Less) rest
        (strict_behind cmp (firsts (groups_in (take i runs))) (firsts rest) first.first strict) in
        subst (λ (gs : List Group). All (λ group. cmp group.first c ≡ Greater) gs)
        (sym (from_run runs i d l ∙ begins))
        (All-cons (λ (group : Group). cmp group.first c ≡ Greater) first rest greater
        (λ k x m. greater_through cmp o c first.first (get_or rest k x).first (more k x m) greater))
      where
        told : (w : Ordering) → is_gt w ≡ true → w ≡ Greater
        told Less h = cc
        told Equal h = cc
        told Greater h = refl

-- a run whose first group isn't greater moves the lower end up to it, and one whose first is greater the upper end down
module _ (keys : List ReadyKey) (c : List ℕ) (runs : List Run) (i : ℕ) (d : Run) (e : Group) (l : i < length runs)
    (r : AreRuns runs) where
  ranks_are : (q : Statement) (tables : List (List (List Value)))
      → ((a b : List ℕ) → keys_rank keys a b ≡ keys_order tables (group_keys q.groups) a b)
      → keys_order tables (group_keys q.groups) ≡ keys_rank keys
  ranks_are q tables same = λ i a b. sym (same a b) i

  pub low_moves : (low high : ℕ) → LiesBetween keys c runs low high
      → is_gt (keys_rank keys (get_or (get_or runs i d).items 0 e).first c) ≡ false → LiesBetween keys c runs i high
  low_moves low high b g =
      λ q tables same s. (
        runs_before (keys_rank keys)
            (subst IsTotalOrder (ranks_are q tables same) (keys_total tables (group_keys q.groups)))
            c runs i d e l r
            (subst (λ (cmp : List ℕ → List ℕ → Ordering). IsStrictlySortedBy cmp (firsts (groups_in runs)))
            (ranks_are q tables same) s) g,
        (b q tables same s).1,
      )

  pub high_moves : (low high : ℕ) → LiesBetween keys c runs low high
      → is_gt (keys_rank keys (get_or (get_or runs i d).items 0 e).first c) ≡ true → LiesBetween keys c runs low i
  high_moves low high b g =
      λ q tables same s. (
        (b q tables same s).0,
        runs_behind (keys_rank keys)
            (subst IsTotalOrder (ranks_are q tables same) (keys_total tables (group_keys q.groups)))
            c runs i d e l r
            (subst (λ (cmp : List ℕ → List ℕ → Ordering). IsStrictlySortedBy cmp (firsts (groups_in runs)))
            (ranks_are q tables same) s) g,
      )

-- at first nothing is before and nothing behind
pub all_between : (keys : List ReadyKey) (c : List ℕ) (runs : List Run) → LiesBetween keys c runs 0 (length runs)
all_between keys c runs =
    λ q tables same s. (
      All-nil (λ (group : Group). keys_rank keys group.first c ≡ Less),
      subst (λ (rest : List Run). All (λ group. keys_rank keys group.first c ≡ Greater) (groups_in rest))
          (sym (drop_all (length runs) runs (omega arith)))
          (All-nil (λ (group : Group). keys_rank keys group.first c ≡ Greater)),
    )

-- What becomes of the groups once one run has taken a combination in.

module _ (q : Statement) (tables : List (List (List Value))) (keys : List ReadyKey) (items : List ReadyItem)
    (ready : AreReadyFor q tables keys items) (h : List (List ℕ)) (c : List ℕ) (runs : List Run) (i : ℕ) (old : Run)
    (l : i < length runs) (is : old ≡ get_or runs i old) (b : LiesBetween keys c runs i (suc i))
    (a : AreGroupsOf q tables h (groups_in runs)) where
  abbrev before : List Group
  before = groups_in (take i runs)

  abbrev behind : List Group
  behind = groups_in (drop (suc i) runs)

  around : groups_in runs ≡ before ++ (old.items ++ behind)
  around =
      groups_around runs i old l
      ∙ ap (λ (run : Run). before ++ (run.items ++ behind)) (sym is)

  parts : AreGroupsOf q tables h (before ++ (old.items ++ behind))
  parts = subst (AreGroupsOf q tables h) around a

  sides : All (λ group. keys_rank keys group.first c ≡ Less) before
      × All (λ group. keys_rank keys group.first c ≡ Greater) behind
  sides = b q tables ready.keys_are a.in_order

  -- the run by itself is in strict order
  pub run_in_order : IsStrictlySortedBy (keys_order tables (group_keys q.groups)) (firsts old.items)
  run_in_order =
      strict_front (keys_order tables (group_keys q.groups)) (firsts old.items) (firsts behind)
      (strict_back (keys_order tables (group_keys q.groups)) (firsts before) (firsts old.items ++ firsts behind)
      (subst (λ (fs : List (List ℕ)). IsStrictlySortedBy (keys_order tables (group_keys q.groups)) fs)
      (map-append (λ (group : Group). group.first) before (old.items ++ behind)
      ∙ ap (λ (fs : List (List ℕ)). firsts before ++ fs)
      (map-append (λ (group : Group). group.first) old.items behind))
      parts.in_order))

  pub run_nothing_there : HasPlace keys c old.items → All (λ member. is_same_group tables q.groups member c ≡ false) h
  run_nothing_there p = nothing_there q tables keys items ready h c before behind old.items parts sides.0 sides.1 p

  pub run_taken_in : (new : Run) (begins : Bool) → IsTakenIn keys items c old.items new.items begins
      → AreGroupsOf q tables (h ++ c ∷ []) (groups_in (set runs i new))
  run_taken_in new begins t =
      subst (AreGroupsOf q tables (h ++ c ∷ [])) (sym (groups_with runs i new l))
      (taken_in q tables keys items ready h c before behind old.items new.items parts sides.0 sides.1 begins t)

-- what holds of the groups of all runs holds of those of one
pub of_run : (P : Group → Type 0) (runs : List Run) (i : ℕ) (old : Run) → i < length runs → old ≡ get_or runs i old
    → All P (groups_in runs) → All P old.items
of_run P runs i old l is a =
    (all_parts P old.items (groups_in (drop (suc i) runs))
    (all_parts P (groups_in (take i runs)) (old.items ++ groups_in (drop (suc i) runs))
    (subst (All P) (groups_around runs i old l
    ∙ ap (λ (run : Run). groups_in (take i runs) ++ (run.items ++ groups_in (drop (suc i) runs))) (sym is)) a)).1).0

-- where there is no run yet, the first one holds what took the combination in
pub first_nothing_there : (q : Statement) (tables : List (List (List Value))) (keys : List ReadyKey)
    (items : List ReadyItem) → AreReadyFor q tables keys items → (h : List (List ℕ)) (c : List ℕ) (runs : List Run)
    → runs ≡ [] → AreGroupsOf q tables h (groups_in runs)
    → All (λ member. is_same_group tables q.groups member c ≡ false) h
first_nothing_there q tables keys items ready h c runs none a =
    nothing_there q tables keys items ready h c [] [] []
    (subst (λ (rs : List Run). AreGroupsOf q tables h (groups_in rs)) none a)
    (All-nil (λ (group : Group). keys_rank keys group.first c ≡ Less))
    (All-nil (λ (group : Group). keys_rank keys group.first c ≡ Greater))
    record {
      before = [];
      behind = [];
      parts = refl;
      less = All-nil (λ (group : Group). keys_rank keys group.first c ≡ Less);
      greater = All-nil (λ (group : Group). keys_rank keys group.first c ≡ Greater);
    }

pub first_taken_in : (q : Statement) (tables : List (List (List Value))) (keys : List ReadyKey)
    (items : List ReadyItem) → AreReadyFor q tables keys items → (h : List (List ℕ)) (c : List ℕ)
    (runs : List Run) (old new : Run) (begins : Bool) → runs ≡ [] → old.items ≡ []
    → AreGroupsOf q tables h (groups_in runs) → IsTakenIn keys items c old.items new.items begins
    → AreGroupsOf q tables (h ++ c ∷ []) (groups_in (runs ++ new ∷ []))
first_taken_in q tables keys items ready h c runs old new begins none fresh a t =
    subst (λ (rs : List Run). AreGroupsOf q tables (h ++ c ∷ []) (groups_in (rs ++ new ∷ []))) (sym none)
    (taken_in q tables keys items ready h c [] [] [] new.items
    (subst (λ (rs : List Run). AreGroupsOf q tables h (groups_in rs)) none a)
    (All-nil (λ (group : Group). keys_rank keys group.first c ≡ Less))
    (All-nil (λ (group : Group). keys_rank keys group.first c ≡ Greater)) begins
    (subst (λ (gs : List Group). IsTakenIn keys items c gs new.items begins) fresh t))

pub no_runs : (runs : Vec Run Global) → (vec_len runs == 0) ≡ true → runs.items ≡ []
no_runs runs e = none runs.items (sym runs.ok.0 ∙ eqb-true (vec_len runs) 0 e)
  where
    none : (rs : List Run) → length rs ≡ 0 → rs ≡ []
    none [] e = refl
    none (run ∷ rs) e = absurd (omega (arith, e))
