-- A preparation: the bound statement, or the first refusal.
use Rattle.std.specs.Prelude.{ℕ, nat_lt, List, codes, length, is_some, Result, Ok, Err, if◌then◌else◌}
use Rattle.row_values.specs.Names.{canonical_name}
use Rattle.row_values.specs.Refusals as refused
use Rattle.row_values.specs.Statements.{Statement}
use Rattle.row_values.specs.declared.refusals.Refusal.{Refusal}
use Rattle.sql_parser.specs.Statement.{Parts}
use Rattle.name_binder.specs.Binding.{binding_of}
use Rattle.name_binder.specs.declared.faults.BindFault.{BindFault}
use Rattle.catalog_model.specs.declared.TheConstants.{STATEMENT_LIMIT}
use Rattle.catalog_model.specs.Faults.{bind_refusal}
use Rattle.catalog_model.specs.Catalogs.{Catalog, StatementState, find_statement, schemas_of}

-- the statement, unless it can't be bound or there are too many
abbrev pub bound : List StatementState → Result Statement BindFault → Result Statement Refusal
bound statements (Err fault) = Err (bind_refusal fault)
bound statements (Ok statement) =
    if nat_lt (length statements) STATEMENT_LIMIT then Ok statement else Err (refused.store_limit (codes "statements"))

-- the statement that is kept under this name, or the first refusal
unfoldable pub preparing_of : Catalog → List ℕ → Parts → Result Statement Refusal
preparing_of catalog name select =
    if is_some (find_statement catalog.statements name) then Err (refused.name_taken (canonical_name name)) else
    bound catalog.statements (binding_of (schemas_of catalog.tables) select)
