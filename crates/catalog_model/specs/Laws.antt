-- The laws on catalogs, each a statement that a function of `laws` carries.
use Rattle.std.specs.Prelude.{ℕ, ◌≡◌, List, Ok}
use Rattle.outside_model.specs.declared.TheConstants.{FILE_LIMIT}
use Rattle.outside_model.specs.Files.{up_to}
use Rattle.row_values.specs.Statements.{Statement, IsSoundQuery}
use Rattle.row_values.specs.declared.values.Value.{Value}
use Rattle.plan_trees.specs.Statistics.{IsSoundStats, IsSoundVector}
use Rattle.statement_meaning.specs.Vectors.{vector_of}
use Rattle.sql_parser.specs.Statement.{IsSound, Parts}
use Rattle.catalog_model.specs.Catalogs.{Catalog, Version, with_version, with_index, with_statement, stats_now, tables_of}
use Rattle.catalog_model.specs.Instances.{Instance, instance_of}
use Rattle.catalog_model.specs.Loading.{loading_of}
use Rattle.catalog_model.specs.Preparing.{preparing_of}
use Rattle.catalog_model.specs.Sound.{IsCatalog}

-- a sound catalog is sound with the version that a load keeps
abbrev pub LoadingLaw : Type 0
LoadingLaw =
    (held : List Version) (catalog : Catalog) (name bytes : List ℕ) (version : Version) → IsCatalog held catalog
    → loading_of held catalog name bytes ≡ Ok version → IsCatalog held (with_version catalog name version)

-- a sound catalog is sound with the statement that a preparation of sound parts keeps
abbrev pub PreparingLaw : Type 0
PreparingLaw =
    (held : List Version) (catalog : Catalog) (name : List ℕ) (select : Parts) (q : Statement) → IsSound select
    → IsCatalog held catalog → preparing_of catalog name select ≡ Ok q → IsCatalog held (with_statement catalog name q)

-- a sound catalog is sound with a column indexed
abbrev pub IndexingLaw : Type 0
IndexingLaw =
    (held : List Version) (catalog : Catalog) (name : List ℕ) (column : ℕ) → IsCatalog held catalog
    → IsCatalog held (with_index catalog name column)

-- an instance of a sound catalog, with the numbers that its plans are costed by
pub record IsMeasured (catalog : Catalog) (instance : Instance) : Type 0 where
  pub sound : IsSoundQuery instance.statement
  pub stats : IsSoundStats instance.statement (stats_now catalog.tables catalog.weights instance.statement)
  pub vector : IsSoundVector instance.statement (stats_now catalog.tables catalog.weights instance.statement)
      (vector_of instance.statement (tables_of catalog.tables instance.statement) instance.args)

abbrev pub MeasuredLaw : Type 0
MeasuredLaw =
    (held : List Version) (catalog : Catalog) (name : List ℕ) (args : List Value) (instance : Instance)
    → IsCatalog held catalog → instance_of catalog name args ≡ Ok instance → IsMeasured catalog instance

-- what is behind the limit of a file doesn't matter
abbrev pub CutFileLaw : Type 0
CutFileLaw =
    (held : List Version) (catalog : Catalog) (name bytes : List ℕ)
    → loading_of held catalog name (up_to FILE_LIMIT bytes) ≡ loading_of held catalog name bytes
