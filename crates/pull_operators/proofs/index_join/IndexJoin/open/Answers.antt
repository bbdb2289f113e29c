use Rattle.std.proofs.Common.{ℕ, List, [], ap, length, refl, slice_index_or, subst, sym, ◌∙◌, ◌≡◌, ◌==◌, false}
use Rattle.std.specs.Prelude.{filter, nat_eq, slice_get}
use Rattle.std.specs.Ordering.{is_eq}
use Rattle.row_values.specs.Orders.{compares}
use Rattle.row_values.specs.RowNumbers.{row_numbers}
use Rattle.row_values.specs.declared.statement.ColRef.{ColRef}
use Rattle.row_values.specs.declared.values.Value.{Value}
use Rattle.row_values.proofs.Counting.{HaveSame, same_from_permutation}
use Rattle.csv_tables.specs.StatementTables.{tables_in}
use Rattle.csv_tables.specs.Tables.{cell_at}
use Rattle.plan_trees.specs.PlaceSets.{has}
use Rattle.plan_trees.specs.PlanSpace.{wanted_order}
use Rattle.row_tests.specs.Ready.{all_hold}
use Rattle.statement_meaning.specs.Combinations.{row_at}
use Rattle.statement_meaning.specs.Conditions.{row_passes}
use Rattle.statement_meaning.specs.Meaning.{cell_of}
use Rattle.statement_meaning.specs.PartialCombinations.{end_in, single}
use Rattle.statement_meaning.proofs.Keeping.{sound_edges}
use Rattle.table_index.specs.Indexes.{IsBuilt}
use Rattle.plan_operators.specs.Sources.{rows_read}
use Rattle.plan_operators.proofs.Joins.{column_entering, each_edge, probed_once, rows_rise}
use Rattle.plan_operators.proofs.PlaceRows.{own_column, rows_there}
use Rattle.pull_operators.proofs.RowsFound.{found_is}
use Rattle.pull_operators.proofs.index_join.IndexJoin.open.Goals as goal

pub returns-clause-built : goal.returns-clause-built
returns-clause-built c =
    own_column c.table_there-table.result.now c.edge_column.result c.index_there.result.now
    (c.requires.sound.indexes.built c.args.place c.edge_column.result c.table_there-table.result.now
    c.index_there.result.now c.table_there-table.ensures c.index_there.ensures)

pub returns-clause-joins : goal.returns-clause-joins
returns-clause-joins c =
    let built : IsBuilt c.table_there-table.result.now c.edge_column.result c.index_there.result.now =
    c.requires.sound.indexes.built c.args.place c.edge_column.result c.table_there-table.result.now
    c.index_there.result.now c.table_there-table.ensures c.index_there.ensures in
    let here = rows_there (tables_in c.args.source.now.tables.now) c.args.place c.table_there-table.result.now
    (sym c.table_there-table.ensures) in
    let there = rows_there (tables_in c.args.source.now.tables.now) c.end_of-key.result.place c.table_there.result.now
    (sym c.table_there.ensures) in
    let enters = rw c.edge_of-joining.ensures at c.requires.valid in
    let apart = each_edge (λ e. (e.left.place == e.right.place) ≡ false) c.args.source.now.q.now.edges c.args.edge
    c.edge_of-joining.result c.edge_of-joining.ensures
    (sound_edges c.args.source.now.q.now (rows_read c.args.source.now) c.args.source.now.args.now
    c.requires.sound.sound).two_places in
    let column = built.column_is
    ∙ (c.edge_column.ensures ∙ column_entering c.args.places c.args.place c.edge_of-joining.result apart enters.0) in
    let tests = rw c.preds.ensures.value at c.in_ok-ready.ensures in
    let holds = all_hold c.args.source.now.args.now c.table_there-table.result.now c.in_ok-ready.ready.items in
    let offered = λ (x : List ℕ). filter holds
    (filter (λ row. compares is_eq
    (slice_get (slice_index_or c.table_there.result.now.rows (slice_index_or x c.end_of-key.result.place 0) [])
    c.end_of-key.result.column) (cell_at c.table_there-table.result.now row c.index_there.result.now.column))
    c.index_there.result.now.rows) in
    let offers : (x : List ℕ) → offered x
    ≡ filter (λ row. row_passes c.args.source.now.args.now c.args.source.now.q.now.preds c.args.place
    (row_at (rows_read c.args.source.now) c.args.place row))
    (filter (λ row. compares is_eq
    (cell_of (rows_read c.args.source.now) x (end_in (has c.args.places) c.edge_of-joining.result))
    (slice_get (row_at (rows_read c.args.source.now) c.args.place row)
    (end_in (single c.args.place) c.edge_of-joining.result).column)) c.index_there.result.now.rows) =
    λ x. found_is c.args.source.now.q.now (rows_read c.args.source.now) c.args.source.now.args.now c.args.place
    (end_in (single c.args.place) c.edge_of-joining.result).column c.table_there-table.result.now
    c.table_there.result.now c.end_of-key.result holds c.index_there.result.now.column c.index_there.result.now.rows
    here there column tests x
    ∙ ap (λ (key : ColRef). filter (λ row. row_passes c.args.source.now.args.now c.args.source.now.q.now.preds
    c.args.place (row_at (rows_read c.args.source.now) c.args.place row))
    (filter (λ row. compares is_eq (cell_of (rows_read c.args.source.now) x key)
    (slice_get (row_at (rows_read c.args.source.now) c.args.place row)
    (end_in (single c.args.place) c.edge_of-joining.result).column)) c.index_there.result.now.rows))
    c.end_of-key.ensures in
    let same = subst (λ (rows : List (List Value)). HaveSame nat_eq (row_numbers (length rows))
    c.index_there.result.now.rows) (sym here)
    (same_from_permutation nat_eq (row_numbers (length c.table_there-table.result.now.rows))
    c.index_there.result.now.rows built.rows_are.each_once) in
    let edges = rw c.one_place.ensures.value at c.in_ok-edges.ensures in
    record {
      each_once =
          λ cs o. probed_once c.args.source.now.q.now (rows_read c.args.source.now) c.args.source.now.args.now
          c.requires.sound.sound c.args.places c.args.place c.requires.absent c.requires.there c.args.edge
          c.edge_of-joining.result c.edge_of-joining.ensures enters.0 c.index_there.result.now.rows same cs o
          c.in_ok-edges.edges.items edges offered offers _ refl;
      in_order =
          λ wanted cs o rises. rows_rise c.args.source.now.q.now (rows_read c.args.source.now)
          c.args.source.now.args.now c.args.places c.args.place c.requires.absent
          (wanted_order c.args.source.now.q.now) wanted offered cs rises c.in_ok-edges.edges.items edges _ refl;
    }
