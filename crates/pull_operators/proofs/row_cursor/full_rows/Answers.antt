use Rattle.std.proofs.Common.{◌++◌, ◌∙◌, List, ap, append-nil, rules, sym, slice_index_or, subst, []}
use Rattle.std.specs.Prelude.{filter}
use Rattle.csv_tables.specs.StatementTables.{tables_in}
use Rattle.index_ranges.specs.Ranges.{rows_between}
use Rattle.row_values.specs.Sorting.{Rises}
use Rattle.row_values.specs.declared.values.Value.{Value}
use Rattle.plan_trees.specs.PlanSpace.{column_of}
use Rattle.plan_trees.specs.declared.plans.Access.TheVariants.{Full}
use Rattle.plan_trees.proofs.SoundParts.{access_in_range}
use Rattle.statement_meaning.specs.Conditions.{row_passes}
use Rattle.plan_operators.specs.Sources.{is_row_before, masks_read, rows_read}
use Rattle.plan_operators.proofs.PlaceRows.{found_once, index_rises, rows_there}
use Rattle.pull_operators.proofs.Tables.{table_at}
use Rattle.pull_operators.proofs.row_cursor.full_rows.Goals as goal

pub returns : goal.returns
returns c =
    let has = table_at c.args.source.now.q.now (tables_in c.args.source.now.tables.now) c.args.place
    c.requires.sound.tables
    (access_in_range c.args.source.now.q.now (masks_read c.args.source.now) (Full c.args.place c.args.column)
    c.requires.valid) in
    let built = c.requires.sound.indexes.built c.args.place c.args.column has.table c.index_there-index.result.now
    has.there c.index_there-index.ensures in
    let here = rows_there (tables_in c.args.source.now.tables.now) c.args.place has.table (sym has.there) in
    let left = (λ i. c.rows-rows.result.now ++ rows_between c.rows-rows.result.now (c.new.ensures.items i))
    ∙ (append-nil c.rows-rows.result.now ∙ c.rows-rows.ensures) in
    record {
      within = search rules;
      each_once =
          λ tests same. found_once c.args.source.now.q.now (rows_read c.args.source.now) c.args.source.now.args.now
          c.args.place has.table.rows tests c.index_there-index.result.now.rows _ here
          (λ row. same row
          ∙ ap (λ (rows : List (List Value)). row_passes c.args.source.now.args.now c.args.source.now.q.now.preds
          c.args.place (slice_index_or rows row [])) here)
          built.rows_are.each_once (ap (filter tests) left);
      in_order =
          λ tests. subst (Rises (is_row_before c.args.source.now (column_of c.args.place c.args.column)))
          (ap (filter tests) (sym left))
          (index_rises (rows_read c.args.source.now) (column_of c.args.place c.args.column) has.table
          c.index_there-index.result.now.rows here built.rows_are tests);
    }
