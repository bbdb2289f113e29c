-- The ends of an indexing.
use Rattle.std.proofs.Common.{ℕ, ◌≡◌, ◌∙◌, List, Option, Some, None, Ok, Err, ap, refl, sym}
use Rattle.row_values.specs.Names.{canonical_name}
use Rattle.row_values.specs.Refusals.{unknown_column, unknown_table}
use Rattle.csv_tables.specs.Tables.{TableValue}
use Rattle.catalog_model.specs.Catalogs.{Catalog, find_table}
use Rattle.catalog_model.specs.Indexing.{column_named, column_or_refusal, indexing_in, indexing_of}

pub no_table : (catalog : Catalog) (table column shown : List ℕ) → find_table catalog.tables table ≡ None
    → shown ≡ canonical_name table → indexing_of catalog table column ≡ Err (unknown_table shown)
unfolding indexing_of
no_table catalog table column shown none e = rw (none, e) refl

found : (catalog : Catalog) (table column : List ℕ) (content : TableValue) (number : Option ℕ)
    → find_table catalog.tables table ≡ Some content → column_named content.schema column ≡ number
    → indexing_of catalog table column ≡ column_or_refusal number column
unfolding indexing_of
found catalog table column content number some e =
    ap (λ (o : Option TableValue). indexing_in o table column) some
    ∙ ap (λ (n : Option ℕ). column_or_refusal n column) e

pub no_column : (catalog : Catalog) (table column shown : List ℕ) (content : TableValue)
    → find_table catalog.tables table ≡ Some content → column_named content.schema column ≡ None
    → shown ≡ canonical_name column → indexing_of catalog table column ≡ Err (unknown_column shown)
no_column catalog table column shown content some none e =
    found catalog table column content None some none ∙ ap (λ (name : List ℕ). Err (unknown_column name)) (sym e)

pub has_column : (catalog : Catalog) (table column : List ℕ) (content : TableValue) (number : ℕ)
    → find_table catalog.tables table ≡ Some content → column_named content.schema column ≡ Some number
    → indexing_of catalog table column ≡ Ok number
has_column catalog table column content number some e = found catalog table column content (Some number) some e
