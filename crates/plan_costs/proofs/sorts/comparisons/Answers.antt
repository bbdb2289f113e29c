use Rattle.plan_costs.proofs.Ones.{rows_fit}
use Rattle.plan_costs.proofs.sorts.comparisons.Goals as goal

pub table_product-tables-requires-clause-small : goal.table_product-tables-requires-clause-small
table_product-tables-requires-clause-small c =
    rows_fit c.args.q.now c.args.stats.now c.args.set c.places.ensures.sound c.requires
