-- An instance: a prepared statement with arguments that fit it, or the first refusal.
use Rattle.std.specs.Prelude.{ℕ, ◌+◌, ◌==◌, List, [], ◌∷◌, length, slice_get, Option, Some, None, Result, Ok, Err}
use Rattle.std.specs.Prelude.{if◌then◌else◌}
use Rattle.std.specs.Option.{option_map_or}
use Rattle.row_values.specs.Names.{canonical_name}
use Rattle.row_values.specs.Refusals as refused
use Rattle.row_values.specs.Statements.{Statement, kinds_of}
use Rattle.row_values.specs.Values.{kind_of}
use Rattle.row_values.specs.declared.refusals.Refusal.{Refusal}
use Rattle.row_values.specs.declared.values.Kind.{Kind}
use Rattle.row_values.specs.declared.values.Value.{Value}
use Rattle.statement_statistics.specs.Statistics.{first_wide}
use Rattle.catalog_model.specs.Catalogs.{Catalog, TableState, find_statement, tables_of}
use Rattle.catalog_model.specs.Loading.{is_same_kind}

-- a statement and its arguments
pub record Instance : Type 0 where
  pub statement : Statement
  pub args : List Value

-- the position of the first argument of another kind than its parameter, the first of all having this position
abbrev pub first_misfit : ℕ → List Kind → List Value → Option ℕ
first_misfit position [] values = None
first_misfit position (kind ∷ kinds) [] = None
first_misfit position (kind ∷ kinds) (value ∷ values) =
    if is_same_kind kind (kind_of value) then first_misfit (position + 1) kinds values else Some position

abbrev pub kind_refusal : Option ℕ → Option Refusal
kind_refusal None = None
kind_refusal (Some position) = Some (refused.argument_kind position)

-- why these aren't arguments for parameters of these kinds
abbrev pub args_refusal : List Kind → List Value → Option Refusal
args_refusal kinds args =
    if length args == length kinds then kind_refusal (first_misfit 1 kinds args) else
    Some (refused.argument_count (length kinds))

-- what the place at this position of a statement is called
abbrev pub alias_at : Statement → ℕ → List ℕ
alias_at q place = option_map_or (λ there. there.alias) (slice_get q.places place) []

-- why a statement that is wide at this place isn't executed
abbrev pub width_refusal : Statement → Option ℕ → Option Refusal
width_refusal q None = None
width_refusal q (Some place) = Some (refused.wide (canonical_name (alias_at q place)))

-- the refusal where there is one, or else the value
abbrev pub refused_or : {T : Type 0} → Option Refusal → Result T Refusal → Result T Refusal
refused_or None value = value
refused_or (Some why) value = Err why

-- the statement over these tables with these arguments, or why it isn't executed: each reason is one `refused_or`, in
-- the order in which they count
abbrev pub with_args : List TableState → Statement → List Value → Result Instance Refusal
with_args tables q args =
    refused_or (args_refusal (kinds_of q.places q.preds) args)
    (refused_or (width_refusal q (first_wide q (tables_of tables q))) (Ok (record { statement = q; args = args })))

abbrev pub instance_in : List TableState → Option Statement → List ℕ → List Value → Result Instance Refusal
instance_in tables None name args = Err (refused.unknown_statement (canonical_name name))
instance_in tables (Some q) name args = with_args tables q args

-- the statement of this name with these arguments, or the first refusal
unfoldable pub instance_of : Catalog → List ℕ → List Value → Result Instance Refusal
instance_of catalog name args = instance_in catalog.tables (find_statement catalog.statements name) name args
