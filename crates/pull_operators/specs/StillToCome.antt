-- The combinations that an operator still gives, in turn.
use Rattle.std.specs.Prelude.{ℕ, suc, ◌≡◌, ◌≤◌, ◌++◌, List, All, drop, length, map, set, filter, flat_map, slice_range}
use Rattle.row_values.specs.declared.statement.Place.{Place}
use Rattle.plan_trees.specs.PlaceSets.{has}
use Rattle.row_tests.specs.Ready.{all_hold}
use Rattle.statement_meaning.specs.PartialCombinations.{merged}
use Rattle.table_index.specs.Indexes.{IsBuilt}
use Rattle.plan_operators.specs.BuildSides.{IsBuildSide}
use Rattle.plan_operators.specs.Edges.{all_meet}
use Rattle.pull_operators.specs.Pieces.{partners, piece}
use Rattle.pull_operators.specs.RowsLeft.{IsWithin, rows_left}
use Rattle.pull_operators.specs.declared.scan.Scan.{Scan}
use Rattle.pull_operators.specs.declared.sort.Sorted.{Sorted}
use Rattle.pull_operators.specs.declared.foot.Foot.{Foot}
use Rattle.pull_operators.specs.declared.foot.Foot.TheVariants as foot
use Rattle.pull_operators.specs.declared.hash_join.HashJoin.{HashJoin}
use Rattle.pull_operators.specs.declared.index_join.IndexJoin.{IndexJoin}
use Rattle.pull_operators.specs.declared.nested_loop_join.LoopJoin.{LoopJoin}
use Rattle.pull_operators.specs.declared.join.Join.{Join}
use Rattle.pull_operators.specs.declared.join.Join.TheVariants.{Loop, Index, Hash}
use Rattle.pull_operators.specs.declared.chain.Chain.{Chain}
use Rattle.pull_operators.specs.declared.chain.Pulled as pulled

-- The foot of a chain.

abbrev pub scan_to_come : Scan → List (List ℕ)
scan_to_come scan =
    map (set scan.empty scan.place) (filter (all_hold scan.args.now scan.table.now scan.ready.items) (rows_left scan.rows))

abbrev pub sorted_to_come : Sorted → List (List ℕ)
sorted_to_come sorted = drop sorted.next sorted.combos.items

abbrev pub foot_to_come : Foot → List (List ℕ)
foot_to_come (foot.Scan scan) = scan_to_come scan
foot_to_come (foot.Sorted sorted) = sorted_to_come sorted

abbrev pub IsReadyFoot : Foot → Type 0
IsReadyFoot (foot.Scan scan) = IsWithin scan.rows
IsReadyFoot (foot.Sorted sorted) = Unit {0}

-- What a join makes of its outer side's present combination, from a position on, and what it still makes.

abbrev pub loop_from : LoopJoin → ℕ → List (List ℕ)
loop_from join position =
    filter (all_meet join.edges.items) (map (set join.combo join.place) (drop position join.rows.items))

abbrev pub loop_to_come : LoopJoin → List (List ℕ)
loop_to_come join = loop_from join join.next

abbrev pub index_from : IndexJoin → ℕ → List (List ℕ)
index_from join position =
    filter (all_meet join.edges.items)
    (map (set join.combo join.place)
    (filter (all_hold join.args.now join.table.now join.ready.items) (drop position join.left.now)))

abbrev pub index_to_come : IndexJoin → List (List ℕ)
index_to_come join = index_from join 0

abbrev pub hash_from : HashJoin → ℕ → List (List ℕ)
hash_from join position =
    filter (all_meet join.edges.items)
    (map (merged (has join.places) join.combo) (slice_range join.side.combos.items position join.end))

abbrev pub hash_to_come : HashJoin → List (List ℕ)
hash_to_come join = hash_from join join.next

abbrev pub to_come : Join → List (List ℕ)
to_come (Loop join) = loop_to_come join
to_come (Index join) = index_to_come join
to_come (Hash join) = hash_to_come join

-- a combination has a row number for each place
abbrev pub is_as_long_as : List Place → List ℕ → Type 0
is_as_long_as places c = length c ≡ length places

-- the build side is in the order of its keys, and may be merged with the present combination
pub record IsReadyHash (join : HashJoin) : Type 0 where
  pub built : IsBuildSide join.side
  pub long : All (λ d. length join.combo ≡ length d) join.side.combos.items
  pub inside : join.end ≤ length join.side.combos.items

-- an index was built of its table, a build side is ready
abbrev pub IsReadyJoin : Join → Type 0
IsReadyJoin (Loop join) = Unit {0}
IsReadyJoin (Index join) = IsBuilt join.table.now join.index.now.column join.index.now
IsReadyJoin (Hash join) = IsReadyHash join

-- a combination of the outer side that may be merged
abbrev pub Takes : Join → List ℕ → Type 0
Takes join c = All (λ d. length c ≡ length d) (partners join)

-- A join over what still comes from below.

abbrev pub above : Join → List (List ℕ) → List (List ℕ)
above join below = to_come join ++ flat_map (piece join) below

abbrev pub pulled_to_come : pulled.Pulled → List (List ℕ)
pulled_to_come (pulled.Foot foot) = foot_to_come foot
pulled_to_come (pulled.Above' pointer below join) = above join (pulled_to_come below)

-- each join is ready for what still comes from below it
abbrev pub IsReadyPulled : pulled.Pulled → Type 0
IsReadyPulled (pulled.Foot foot) = IsReadyFoot foot
IsReadyPulled (pulled.Above' pointer below join) =
    IsReadyPulled below × IsReadyJoin join × All (Takes join) (pulled_to_come below)

abbrev pub joins_in : pulled.Pulled → ℕ
joins_in (pulled.Foot foot) = 0
joins_in (pulled.Above' pointer below join) = suc (joins_in below)

abbrev pub chain_to_come : Chain → List (List ℕ)
chain_to_come chain = pulled_to_come chain.pulled

abbrev pub IsReadyChain : Chain → Type 0
IsReadyChain chain = IsReadyPulled chain.pulled
