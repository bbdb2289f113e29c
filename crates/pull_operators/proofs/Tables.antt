-- The table of a place that is there.
use Rattle.std.proofs.Common.{ℕ, zero, suc, ◌≡◌, ◌<◌, List, [], ◌∷◌, length, slice_get, Some, ap, sym, ◌∙◌, refl, arith}
use Rattle.std.proofs.lemmas.List.{length-map}
use Rattle.row_values.specs.Statements.{Statement}
use Rattle.row_values.specs.declared.statement.Place.{Place}
use Rattle.csv_tables.specs.StatementTables.{AreTablesOf}
use Rattle.csv_tables.specs.Tables.{TableValue}

pub record HasTable (tables : List TableValue) (place : ℕ) : Type 0 where
  pub table : TableValue
  pub there : slice_get tables place ≡ Some table

found : (tables : List TableValue) (place : ℕ) → place < length tables → HasTable tables place
found [] place low = absurd (omega (arith, low))
found (table ∷ tables) zero low = record { table = table; there = refl }
found (table ∷ tables) (suc place) low =
    let rest = found tables place (omega (arith, low)) in
    record { table = rest.table; there = rest.there }

pub table_at : (q : Statement) (tables : List TableValue) (place : ℕ) → AreTablesOf q tables → place < length q.places
    → HasTable tables place
table_at q tables place are low =
    let long : length tables ≡ length q.places =
    sym (length-map tables (λ (table : TableValue). table.schema))
    ∙ (ap length are.columns ∙ length-map q.places (λ (one : Place). one.schema)) in
    found tables place (omega (arith, long, low))
