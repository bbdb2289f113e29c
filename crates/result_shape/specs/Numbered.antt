-- Groups by one column of packed numbers: what their parts say of each other, and of the combinations that they stand for.
use Rattle.std.specs.Prelude.{ℕ, ℤ, ◌≡◌, ◌<◌, ◌+◌, ◌*◌, List, Option, Some, length, filter, take, drop, slice_get, slice_index_or}
use Rattle.std.specs.Option.{option_cmp}
use Rattle.std.specs.Ordering.{int_cmp}
use Rattle.std.specs.BTreeMap.{BTreeMap, get}
use Rattle.row_values.specs.Sorting.{heads, times}
use Rattle.row_values.specs.Statements.{Statement}
use Rattle.row_values.specs.declared.values.Value.{Value}
use Rattle.row_values.specs.declared.statement.Item.{Item}
use Rattle.plan_operators.specs.Keys.{keys_rank}
use Rattle.plan_operators.specs.declared.keys.ReadyKey.{ReadyKey}
use Rattle.statement_meaning.specs.Meaning.{is_same_group}
use Rattle.statement_meaning.specs.PartialCombinations.{is_same}
use Rattle.result_shape.specs.Hints.{AreHintsAt}
use Rattle.result_shape.specs.Tallies.{HasRoom, IsTallyOf}
use Rattle.result_shape.specs.declared.numbered.NumberColumn.{NumberColumn}
use Rattle.result_shape.specs.declared.numbered.NumberGroups.{NumberGroups}
use Rattle.result_shape.specs.declared.numbered.Placed.{Placed}
use Rattle.result_shape.specs.declared.tallies.Tally.{Tally}

-- the number of a combination
abbrev pub number_seen : NumberColumn → List ℕ → Option ℤ
number_seen column c = slice_get column.numbers.now (slice_index_or c column.place 0)

-- two combinations stand by their keys as by their numbers
abbrev pub IsNumberOf : List ReadyKey → NumberColumn → Type 0
IsNumberOf keys column =
    (a b : List ℕ) → keys_rank keys a b ≡ option_cmp int_cmp (number_seen column a) (number_seen column b)

-- a map has the position of the group of each number, and nothing else
pub record IsMapped (column : NumberColumn) (positions : BTreeMap (Option ℤ) ℕ) (firsts : List (List ℕ)) : Type 0 where
  pub all : (i : ℕ) (d : List ℕ) → i < length firsts
      → get (option_cmp int_cmp) positions (number_seen column (slice_index_or firsts i d)) ≡ Some i
  pub inside : (number : Option ℤ) (i : ℕ) → get (option_cmp int_cmp) positions number ≡ Some i → i < length firsts
  pub own : (number : Option ℤ) (i : ℕ) (d : List ℕ) → get (option_cmp int_cmp) positions number ≡ Some i
      → number_seen column (slice_index_or firsts i d) ≡ number

-- the tallies of a group that is placed, so many among those of all
abbrev pub tallies_from : List Tally → ℕ → Placed → List Tally
tallies_from tallies count one = take count (drop one.start tallies)

-- the first members of the groups of some combinations, each once, and the tallies of what is in each group
pub record AreNumbered (q : Statement) (tables : List (List (List Value))) (h firsts : List (List ℕ))
    (tallies : List Tally) : Type 0 where
  pub heads_are : (c : List ℕ) → times is_same c (heads (is_same_group tables q.groups) h) ≡ times is_same c firsts
  pub whole : length tallies ≡ length firsts * length q.items
  pub each : (i k : ℕ) (d : List ℕ) (item : Item) (e : Tally) → i < length firsts → k < length q.items
      → IsTallyOf tables (slice_index_or firsts i d)
      (filter (is_same_group tables q.groups (slice_index_or firsts i d)) h) (slice_index_or q.items k item)
      (slice_index_or tallies (i * length q.items + k) e)

-- groups whose tallies are as many as there are items in each, and whose hints are true
pub record AreWhole (count : ℕ) (groups : NumberGroups) : Type 0 where
  pub mapped : IsMapped groups.column groups.positions groups.firsts.items
  pub whole : length groups.tallies.items ≡ length groups.firsts.items * count
  pub hinted : AreHintsAt groups.positions groups.hints

-- each tally of each group has room for one more
abbrev pub HaveRoom : ℕ → NumberGroups → Type 0
HaveRoom count groups =
    (i k : ℕ) (e : Tally) → i < length groups.firsts.items → k < count
    → HasRoom (slice_index_or groups.tallies.items (i * count + k) e)
