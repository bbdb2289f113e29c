use Rattle.std.proofs.Common.{◌≡◌, ◌∙◌, ℕ, List, [], ap, length, map, replicate, rules, set, slice_index_or, sym}
use Rattle.std.specs.Prelude.{filter}
use Rattle.csv_tables.specs.StatementTables.{tables_in}
use Rattle.row_values.specs.declared.values.Value.{Value}
use Rattle.plan_trees.specs.Trees.{place_of}
use Rattle.plan_trees.proofs.SoundParts.{access_in_range}
use Rattle.row_tests.specs.Ready.{all_hold}
use Rattle.statement_meaning.specs.Conditions.{row_passes}
use Rattle.plan_operators.specs.Sources.{masks_read, rows_read}
use Rattle.plan_operators.proofs.Joins.{placed_in_order, placed_once}
use Rattle.plan_operators.proofs.PlaceRows.{rows_there}
use Rattle.pull_operators.specs.RowsLeft.{rows_left}
use Rattle.pull_operators.proofs.scan.Scan.open.Goals as goal

pub returns : goal.returns
returns c =
    let there = access_in_range c.args.source.now.q.now (masks_read c.args.source.now) c.args.access c.requires.valid in
    let table = rw c.place_read-place.ensures at c.table_there-table.ensures in
    let here = rows_there (tables_in c.args.source.now.tables.now) (place_of c.args.access)
    c.table_there-table.result.now (sym table) in
    let tests = rw (c.preds.ensures.value, c.place_read-place.ensures) at c.in_ok-ready.ensures in
    let holds = all_hold c.args.source.now.args.now c.table_there-table.result.now c.in_ok-ready.ready.items in
    let passing = λ (row : ℕ). tests row
    ∙ ap (λ (rows : List (List Value)). row_passes c.args.source.now.args.now c.args.source.now.q.now.preds
    (place_of c.args.access) (slice_index_or rows row [])) (sym here) in
    let empty : c.zeros.result ≡ replicate (length c.args.source.now.q.now.places) 0 = search rules in
    let placed : map (set c.zeros.result c.place_read-place.result) (filter holds (rows_left c.in_ok-rows.rows))
    ≡ map (set (replicate (length c.args.source.now.q.now.places) 0) (place_of c.args.access))
    (filter holds (rows_left c.in_ok-rows.rows)) =
    λ i. map (set (empty i) (c.place_read-place.ensures i)) (filter holds (rows_left c.in_ok-rows.rows)) in
    record {
      within = c.in_ok-rows.ensures.within;
      each_once =
          placed_once c.args.source.now.q.now (rows_read c.args.source.now) c.args.source.now.args.now
          c.requires.sound.sound (place_of c.args.access) there (filter holds (rows_left c.in_ok-rows.rows))
          (c.in_ok-rows.ensures.each_once holds passing) _ placed;
      in_order =
          λ sorted. placed_in_order c.args.source.now c.args.access there sorted
          (filter holds (rows_left c.in_ok-rows.rows)) (c.in_ok-rows.ensures.in_order holds) _ placed;
    }
