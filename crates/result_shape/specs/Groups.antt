-- The groups of some combinations, as they are gathered.
use Rattle.std.specs.Prelude.{ℕ, ◌≡◌, ◌<◌, ◌++◌, ◌∷◌, [], Bool, true, false, List, All, Vec, length, map, filter, take, drop}
use Rattle.std.specs.List.{flat_map}
use Rattle.std.specs.declared.alloc.Global.{Global}
use Rattle.std.specs.List.Sorted.{IsStrictlySortedBy}
use Rattle.std.specs.declared.cmp.Ordering.TheVariants.{Less, Equal, Greater}
use Rattle.row_values.specs.Sorting.{heads, times}
use Rattle.row_values.specs.Statements.{Statement}
use Rattle.row_values.specs.declared.values.Value.{Value}
use Rattle.plan_operators.specs.Keys.{keys_rank}
use Rattle.plan_operators.specs.declared.keys.ReadyKey.{ReadyKey}
use Rattle.statement_meaning.specs.Meaning.{group_keys, is_same_group, keys_order}
use Rattle.statement_meaning.specs.PartialCombinations.{is_same}
use Rattle.result_shape.specs.Tallies.{AreTalliesOf, HasRoom, IsReadyItem}
use Rattle.result_shape.specs.declared.groups.Group.{Group}
use Rattle.result_shape.specs.declared.tallies.ReadyItem.{ReadyItem}

-- the keys of the GROUP BY columns and the items of a statement, ready over tables
pub record AreReadyFor (q : Statement) (tables : List (List (List Value))) (keys : List ReadyKey)
    (items : List ReadyItem) : Type 0 where
  pub keys_are : (a b : List ℕ) → keys_rank keys a b ≡ keys_order tables (group_keys q.groups) a b
  pub items_are : map (λ ready. ready.item) items ≡ q.items
  pub columns : All (IsReadyItem tables) items

-- the first members of groups
abbrev pub firsts : List Group → List (List ℕ)
firsts groups = map (λ group. group.first) groups

-- the groups of runs, one run behind the other
abbrev pub groups_in : List (Vec Group Global) → List Group
groups_in runs = flat_map (λ run. run.items) runs

-- each run has a group
abbrev pub AreRuns : List (Vec Group Global) → Type 0
AreRuns runs = All (λ run. 0 < length run.items) runs

-- all groups in the runs before an index are less than a combination, and all in the runs from another on are greater
abbrev pub LiesBetween : List ReadyKey → List ℕ → List (Vec Group Global) → ℕ → ℕ → Type 0
LiesBetween keys c runs low high =
    (q : Statement) (tables : List (List (List Value)))
    → ((a b : List ℕ) → keys_rank keys a b ≡ keys_order tables (group_keys q.groups) a b)
    → IsStrictlySortedBy (keys_order tables (group_keys q.groups)) (firsts (groups_in runs))
    → All (λ group. keys_rank keys group.first c ≡ Less) (groups_in (take low runs))
    × All (λ group. keys_rank keys group.first c ≡ Greater) (groups_in (drop high runs))

-- the groups of some combinations: the first combination of each, each once, with the tallies of what is in its group;
-- and they are in the order of the GROUP BY values
pub record AreGroupsOf (q : Statement) (tables : List (List (List Value))) (h : List (List ℕ))
    (groups : List Group) : Type 0 where
  pub heads_are : (c : List ℕ) → times is_same c (heads (is_same_group tables q.groups) h)
      ≡ times is_same c (firsts groups)
  pub tallies : All (λ group. AreTalliesOf tables group.first
      (filter (is_same_group tables q.groups group.first) h) q.items group.tallies.items) groups
  pub in_order : IsStrictlySortedBy (keys_order tables (group_keys q.groups)) (firsts groups)

-- a group with a tally for each of so many items, each with room for one more
pub record IsRoomy (count : ℕ) (group : Group) : Type 0 where
  pub same_count : length group.tallies.items ≡ count
  pub room : All HasRoom group.tallies.items

-- the place of a combination whose group isn't there
pub record HasPlace (keys : List ReadyKey) (c : List ℕ) (groups : List Group) : Type 0 where
  pub before : List Group
  pub behind : List Group
  pub parts : groups ≡ before ++ behind
  pub less : All (λ group. keys_rank keys group.first c ≡ Less) before
  pub greater : All (λ group. keys_rank keys group.first c ≡ Greater) behind

-- a group of this combination stands there now
pub record IsBegun (keys : List ReadyKey) (items : List ReadyItem) (c : List ℕ) (old new : List Group) : Type 0 where
  pub place : HasPlace keys c old
  pub made : Group
  pub new_is : new ≡ place.before ++ made ∷ place.behind
  pub first : made.first ≡ c
  pub tallies : (tables : List (List (List Value))) → All (IsReadyItem tables) items
      → AreTalliesOf tables c (c ∷ []) (map (λ ready. ready.item) items) made.tallies.items

-- the group of this combination has taken it in
pub record IsGrown (keys : List ReadyKey) (items : List ReadyItem) (c : List ℕ) (old new : List Group) : Type 0 where
  pub before : List Group
  pub behind : List Group
  pub group : Group
  pub made : Group
  pub old_is : old ≡ before ++ group ∷ behind
  pub new_is : new ≡ before ++ made ∷ behind
  pub ties : keys_rank keys group.first c ≡ Equal
  pub first : made.first ≡ group.first
  pub tallies : (tables : List (List (List Value))) (members : List (List ℕ)) → All (IsReadyItem tables) items
      → AreTalliesOf tables group.first members (map (λ ready. ready.item) items) group.tallies.items
      → AreTalliesOf tables group.first (members ++ c ∷ []) (map (λ ready. ready.item) items) made.tallies.items

-- what became of groups, where one began or none did
abbrev pub IsTakenIn : List ReadyKey → List ReadyItem → List ℕ → List Group → List Group → Bool → Type 0
IsTakenIn keys items c old new true = IsBegun keys items c old new
IsTakenIn keys items c old new false = IsGrown keys items c old new
