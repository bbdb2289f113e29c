-- What the tests make: a statement of its tables' columns, and the fans of its columns.
use Rattle.std.proofs.Common.{ℕ, ◌≡◌, ◌<◌, List, [], length, map, get_or, ap, subst, sym, ◌∙◌, arith, Option, None, Some, IfSome}
use Rattle.std.specs.Prelude.{slice_index_or}
use Rattle.std.proofs.lemmas.List.{get_or-map, length-map}
use Rattle.row_values.specs.Statements.{Statement}
use Rattle.row_values.specs.declared.statement.Place.{Place}
use Rattle.csv_tables.specs.StatementTables.{AreTablesOf}
use Rattle.csv_tables.specs.Tables.{TableValue}

pub fan_there : (places items : List Place) (fans : List (List ℕ)) (place column : ℕ) (this : Place) → items ≡ places
    → place < length items → this ≡ get_or items place this
    → map length fans ≡ map (λ place. length place.schema) places → column < length this.schema
    → column < length (slice_index_or fans place [])
fan_there places items fans place column this same inside is fit there =
    let at : place < length places = subst (λ (ps : List Place). place < length ps) same inside in
    let long : length fans ≡ length places =
    sym (length-map fans length) ∙ (ap length fit ∙ length-map places (λ place. length place.schema)) in
    let wide : length (get_or fans place []) ≡ length this.schema =
    sym (get_or-map length fans place [] 0 (omega (arith, at, long)))
    ∙ (ap (λ (ns : List ℕ). get_or ns place 0) fit
    ∙ (get_or-map (λ place. length place.schema) places place this 0 at
    ∙ ap (λ (p : Place). length p.schema) (sym (is ∙ ap (λ (ps : List Place). get_or ps place this) same)))) in
    omega (arith, wide, there)

-- a statement that was made of the columns of tables
pub over_tables : (found : Option Statement) (made : Statement) (tables : List TableValue)
    → IfSome found (λ q. q ≡ made) → map (λ table. table.schema) tables ≡ map (λ place. place.schema) made.places
    → IfSome found (λ q. AreTablesOf q tables)
over_tables None made tables is columns = tt
over_tables (Some q) made tables is columns = record { columns = rw is columns }
