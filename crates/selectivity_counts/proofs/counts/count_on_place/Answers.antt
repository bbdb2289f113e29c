use Rattle.std.proofs.Common.{◌∙◌, ap, arith}
use Rattle.statement_meaning.specs.Vectors.{matching}
use Rattle.table_index.specs.StatementIndexes.{indexes_in}
use Rattle.selectivity_counts.proofs.Placed.{built_there, rows_of_place}
use Rattle.selectivity_counts.proofs.counts.count_on_place.Goals as goal

pub count-requires : goal.count-requires
count-requires c =
    built_there c.args.q.now c.args.tables.now (indexes_in c.args.indexes.now) c.args.pred.now.at.place
    c.args.pred.now.at.column c.deref.result.now c.index_of-index.result c.requires.built (record {
      at = c.from.result;
      item = c.index-tables-from.result;
      place_is = c.from.ensures;
      item_is = c.index-tables-from.is;
      table_is = c.deref.ensures;
      inside =
          omega (arith, c.requires.placed, c.requires.one_each);
    }) c.index_of-index.ensures

pub returns : goal.returns
returns c =
    c.count.ensures.value
    ∙ ap (matching c.args.args.now c.args.pred.now)
    (rows_of_place c.args.tables.now c.args.pred.now.at.place c.deref.result.now (record {
      at = c.from.result;
      item = c.index-tables-from.result;
      place_is = c.from.ensures;
      item_is = c.index-tables-from.is;
      table_is = c.deref.ensures;
      inside =
          omega (arith, c.requires.placed, c.requires.one_each);
    }))
