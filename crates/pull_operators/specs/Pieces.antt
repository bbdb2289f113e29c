-- What a join makes of one combination of its outer side.
use Rattle.std.specs.Prelude.{ℕ, ◌+◌, List, [], map, set, filter, flat_map, slice_get, slice_index_or, IsTrue}
use Rattle.std.specs.Ordering.{is_eq}
use Rattle.row_values.specs.Orders.{compares}
use Rattle.row_values.specs.Sorting.{Rises}
use Rattle.csv_tables.specs.Tables.{cell_at}
use Rattle.plan_trees.specs.PlaceSets.{has}
use Rattle.plan_trees.specs.PlanSpace.{has_all_keys, wanted_order}
use Rattle.row_tests.specs.Ready.{all_hold}
use Rattle.statement_meaning.specs.Meaning.{is_before}
use Rattle.statement_meaning.specs.PartialCombinations.{Once, merged}
use Rattle.plan_operators.specs.Columns.{cell_seen}
use Rattle.plan_operators.specs.Edges.{all_meet}
use Rattle.plan_operators.specs.Sources.{rows_read, world_read}
use Rattle.plan_operators.specs.declared.source.Source.{Source}
use Rattle.pull_operators.specs.declared.hash_join.HashJoin.{HashJoin}
use Rattle.pull_operators.specs.declared.index_join.IndexJoin.{IndexJoin}
use Rattle.pull_operators.specs.declared.nested_loop_join.LoopJoin.{LoopJoin}
use Rattle.pull_operators.specs.declared.join.Join.{Join}
use Rattle.pull_operators.specs.declared.join.Join.TheVariants.{Loop, Index, Hash}

-- with each row of the access
abbrev pub loop_piece : LoopJoin → List ℕ → List (List ℕ)
loop_piece join c = filter (all_meet join.edges.items) (map (set c join.place) join.rows.items)

-- the rows whose cell in the index's column equals the combination's key, in the order of the index
abbrev pub rows_found : IndexJoin → List ℕ → List ℕ
rows_found join c =
    filter (λ row. compares is_eq
    (slice_get (slice_index_or join.key_table.now.rows (slice_index_or c join.key.place 0) []) join.key.column)
    (cell_at join.table.now row join.index.now.column)) join.index.now.rows

-- with each row that its key finds and that meets the predicates on the place
abbrev pub index_piece : IndexJoin → List ℕ → List (List ℕ)
index_piece join c =
    filter (all_meet join.edges.items)
    (map (set c join.place) (filter (all_hold join.args.now join.table.now join.ready.items) (rows_found join c)))

-- with each combination of the build side that has its key
abbrev pub hash_piece : HashJoin → List ℕ → List (List ℕ)
hash_piece join c =
    filter (all_meet join.edges.items)
    (map (merged (has join.places) c)
    (filter (λ d. compares is_eq (cell_seen join.column c) (cell_seen join.side.column d)) join.side.combos.items))

abbrev pub piece : Join → List ℕ → List (List ℕ)
piece (Loop join) = loop_piece join
piece (Index join) = index_piece join
piece (Hash join) = hash_piece join

-- the combinations that are merged with those of the outer side
abbrev pub partners : Join → List (List ℕ)
partners (Loop join) = []
partners (Index join) = []
partners (Hash join) = join.side.combos.items

-- The join of an outer side over these places with what enters: of a list that has each combination over the outer
-- places once, it makes one that has each over both once, in the wanted order where the outer side is in it.
pub record JoinsTo (source : Source) (outer entering : ℕ) (piece_of : List ℕ → List (List ℕ)) : Type 0 where
  pub each_once : (cs : List (List ℕ)) → Once (world_read source) (has outer) cs
      → Once (world_read source) (has (outer + entering)) (flat_map piece_of cs)
  pub in_order : IsTrue (has_all_keys outer (wanted_order source.q.now)) → (cs : List (List ℕ))
      → Once (world_read source) (has outer) cs → Rises (is_before (rows_read source) (wanted_order source.q.now)) cs
      → Rises (is_before (rows_read source) (wanted_order source.q.now)) (flat_map piece_of cs)
