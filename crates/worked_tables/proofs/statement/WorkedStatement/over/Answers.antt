use Rattle.std.proofs.Common.{ap, ◌∙◌}
use Rattle.plan_trees.specs.Statistics.{Statistics}
use Rattle.table_index.specs.StatementIndexes.{masks_of}
use Rattle.worked_tables.proofs.statement.WorkedStatement.over.Goals as goal

pub stats-requires-clause-built : goal.stats-requires-clause-built
stats-requires-clause-built c =
    let built = rw c.deref.ensures.value at c.in_ok-indexes.ensures.built in
    rw (c.deref-2.ensures.value, c.deref-3.ensures.value) (built c.args.query c.requires).built

pub invariant_of-result : goal.invariant_of-result
invariant_of-result c =
    let built = rw c.deref.ensures.value at c.in_ok-indexes.ensures.built in
    record {
      of_places = c.requires;
      built = built c.args.query c.requires;
      masks =
          ap (λ (s : Statistics). s.indexed) c.in_ok-stats.ensures.value
          ∙ ap (masks_of c.args.query.places) c.deref-3.ensures.value;
    }
