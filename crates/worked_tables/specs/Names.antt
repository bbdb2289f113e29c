-- What names stand for: tables, each under its name.
use Rattle.std.specs.Prelude.{List, [], ◌∷◌}
use Rattle.name_binder.specs.Catalog.{Known}
use Rattle.worked_tables.specs.declared.named.Named.{Named}

-- each table's name and columns
abbrev pub known_by : List Named → List Known
known_by [] = []
known_by (named ∷ others) = record { name = named.name; schema = named.table.value.schema } ∷ known_by others
