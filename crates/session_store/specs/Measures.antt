-- What is known of a statement over the present tables before its arguments come.
use Rattle.std.specs.Prelude.{ℕ, List, map, Option, None, Some}
use Rattle.row_values.specs.Statements.{Statement}
use Rattle.row_values.specs.declared.values.Value.{Value}
use Rattle.plan_trees.specs.Statistics.{Statistics}
use Rattle.plan_trees.specs.declared.statistics.Weights.{Weights}
use Rattle.statement_statistics.specs.Statistics.{first_wide, stats_of}
use Rattle.catalog_model.specs.Catalogs.{StatementState, TableState, masks_now, tables_of}
use Rattle.session_store.specs.declared.measures.Measure.{Measure}
use Rattle.session_store.specs.declared.measures.Measure.TheVariants.{Narrow, Wide}

-- the statistics, unless the statement is wide at a place
abbrev pub measure_by : Option ℕ → Statistics → Measure
measure_by None stats = Narrow stats
measure_by (Some place) stats = Wide place

-- the measure of a statement over these rows and masks
abbrev pub measure_over : Statement → List (List (List Value)) → List ℕ → Weights → Measure
measure_over q rows masks weights = measure_by (first_wide q rows) (stats_of q rows masks weights)

-- the measure of a statement over the tables as they are loaded and indexed now
abbrev pub measure_of : List TableState → Weights → Statement → Measure
measure_of tables weights q = measure_over q (tables_of tables q) (masks_now tables q) weights

-- the measures of statements, in their order
abbrev pub measures_of : List TableState → Weights → List StatementState → List Measure
measures_of tables weights statements = map (λ prepared. measure_of tables weights prepared.statement) statements
