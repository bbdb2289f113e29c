-- Only an instance with too many rows is refused so: no other refusal has that number.
use Rattle.std.proofs.Common.{ℕ, ◌≡◌, ◌==◌, nat_lt, Bool, true, false, cond, List, length, is_some}
use Rattle.std.proofs.Common.{codes, Option, Some, None, Result, Ok, Err, MatchOption, MatchResult, refl}
use Rattle.row_values.specs.Names.{canonical_name}
use Rattle.row_values.specs.Refusals as refused
use Rattle.row_values.specs.Statements.{Statement, kinds_of}
use Rattle.row_values.specs.declared.refusals.Refusal.{Refusal}
use Rattle.row_values.specs.declared.refusals.TheConstants.{TOO_MANY_ROWS}
use Rattle.row_values.specs.declared.values.Value.{Value}
use Rattle.sql_parser.specs.Statement.{Parts}
use Rattle.csv_tables.specs.Tables.{TableValue}
use Rattle.csv_tables.specs.Spelled.{table_of}
use Rattle.csv_tables.specs.declared.faults.TableFault.{TableFault}
use Rattle.name_binder.specs.Binding.{binding_of}
use Rattle.name_binder.specs.declared.faults.BindFault.{BindFault}
use Rattle.name_binder.specs.declared.faults.BindFault.TheVariants as bind
use Rattle.outside_model.specs.declared.TheConstants.{FILE_LIMIT}
use Rattle.catalog_model.specs.Catalogs.{Catalog, StatementState, TableState, Version, find_statement, find_table}
use Rattle.catalog_model.specs.Catalogs.{next_version, put_version, schemas_of, tables_of}
use Rattle.catalog_model.specs.Faults.{bind_refusal}
use Rattle.catalog_model.specs.Held.{HeldCursor, holding_refusal, is_open}
use Rattle.catalog_model.specs.Indexing.{column_named, column_or_refusal, indexing_in, indexing_of}
use Rattle.catalog_model.specs.Instances.{args_refusal, first_misfit, instance_in, instance_of, kind_refusal}
use Rattle.catalog_model.specs.Instances.{refused_or, width_refusal}
use Rattle.catalog_model.specs.Loading.{has_other_columns, keeping_of, limit_passed_by, loading_of, spelled_version}
use Rattle.catalog_model.specs.Loading.{within_limits}
use Rattle.catalog_model.specs.Preparing.{bound, preparing_of}
use Rattle.catalog_model.specs.declared.TheConstants.{CURSOR_LIMIT, STATEMENT_LIMIT}
use Rattle.statement_statistics.specs.Statistics.{first_wide}

-- a refusal for another cause than too many rows
abbrev pub IsOther : Refusal → Type 0
IsOther why = (why.code == TOO_MANY_ROWS) ≡ false

-- where something is refused, it is for another cause
abbrev pub RefusesOther : {T : Type 0} → Result T Refusal → Type 0
RefusesOther outcome = MatchResult outcome (λ value. Unit {0}) IsOther

abbrev pub IsOtherIfAny : Option Refusal → Type 0
IsOtherIfAny why = MatchOption why (Unit {0}) IsOther

-- Instances.

refused_or_other : {T : Type 0} (why : Option Refusal) (value : Result T Refusal) → IsOtherIfAny why
    → RefusesOther value → RefusesOther (refused_or why value)
refused_or_other None value h k = k
refused_or_other (Some why) value h k = h

kind_other : (position : Option ℕ) → IsOtherIfAny (kind_refusal position)
kind_other None = tt
kind_other (Some position) = refl

width_other : (q : Statement) (place : Option ℕ) → IsOtherIfAny (width_refusal q place)
width_other q None = tt
width_other q (Some place) = refl

args_other : (test : Bool) (wanted : ℕ) (position : Option ℕ) → IsOtherIfAny
    (cond test (kind_refusal position) (Some (refused.argument_count wanted)))
args_other true wanted position = kind_other position
args_other false wanted position = refl

instance_in_other : (tables : List TableState) (o : Option Statement) (name : List ℕ) (args : List Value)
    → RefusesOther (instance_in tables o name args)
instance_in_other tables None name args = refl
instance_in_other tables (Some q) name args =
    refused_or_other (args_refusal (kinds_of q.places q.preds) args)
    (refused_or (width_refusal q (first_wide q (tables_of tables q))) (Ok (record { statement = q; args = args })))
    (args_other (length args == length (kinds_of q.places q.preds)) (length (kinds_of q.places q.preds))
    (first_misfit 1 (kinds_of q.places q.preds) args))
    (refused_or_other (width_refusal q (first_wide q (tables_of tables q)))
    (Ok (record { statement = q; args = args })) (width_other q (first_wide q (tables_of tables q))) tt)

pub instance_other : (catalog : Catalog) (name : List ℕ) (args : List Value)
    → RefusesOther (instance_of catalog name args)
unfolding instance_of
instance_other catalog name args = instance_in_other catalog.tables (find_statement catalog.statements name) name args

-- Loads.

limits_other : (new : Version) (limit : Option (List ℕ)) → RefusesOther (within_limits new limit)
limits_other new None = tt
limits_other new (Some limit) = refl

keeping_other : (held : List Version) (tables : List TableState) (name : List ℕ) (new : Version)
    → RefusesOther (keeping_of held tables name new)
keeping_other held tables name new = by_test (has_other_columns (find_table tables name) new.content)
  where
    by_test : (test : Bool) → RefusesOther (cond test
        (Err (refused.schema_differs (canonical_name name)))
        (within_limits new (limit_passed_by held (put_version tables name new))))
    by_test true = refl
    by_test false = limits_other new (limit_passed_by held (put_version tables name new))

spelled_other : (held : List Version) (catalog : Catalog) (name : List ℕ) (bytes : ℕ)
    (outcome : Result TableValue TableFault) → RefusesOther (spelled_version held catalog name bytes outcome)
spelled_other held catalog name bytes (Err fault) = refl
spelled_other held catalog name bytes (Ok content) =
    keeping_other held catalog.tables name (next_version catalog content bytes)

pub loading_other : (held : List Version) (catalog : Catalog) (name bytes : List ℕ)
    → RefusesOther (loading_of held catalog name bytes)
unfolding loading_of
loading_other held catalog name bytes = by_test (nat_lt FILE_LIMIT (length bytes))
  where
    by_test : (test : Bool) → RefusesOther (cond test (Err refused.file_too_long)
        (spelled_version held catalog name (length bytes) (table_of bytes)))
    by_test true = refl
    by_test false = spelled_other held catalog name (length bytes) (table_of bytes)

-- Indexings.

column_other : (number : Option ℕ) (name : List ℕ) → RefusesOther (column_or_refusal number name)
column_other None name = refl
column_other (Some number) name = tt

indexing_in_other : (content : Option TableValue) (table column : List ℕ)
    → RefusesOther (indexing_in content table column)
indexing_in_other None table column = refl
indexing_in_other (Some content) table column = column_other (column_named content.schema column) column

pub indexing_other : (catalog : Catalog) (table column : List ℕ) → RefusesOther (indexing_of catalog table column)
unfolding indexing_of
indexing_other catalog table column = indexing_in_other (find_table catalog.tables table) table column

-- Preparations.

bind_other : (fault : BindFault) → IsOther (bind_refusal fault)
bind_other (bind.UnknownTable shown) = refl
bind_other (bind.AliasTwice shown) = refl
bind_other (bind.UnknownColumn shown) = refl
bind_other (bind.Ambiguous shown) = refl
bind_other (bind.Misfit shown) = refl
bind_other (bind.TooMany shown) = refl
bind_other (bind.NotGrouped shown) = refl
bind_other (bind.SumOfText shown) = refl
bind_other bind.Memory = refl

bound_other : (statements : List StatementState) (outcome : Result Statement BindFault)
    → RefusesOther (bound statements outcome)
bound_other statements (Err fault) = bind_other fault
bound_other statements (Ok statement) = by_test (nat_lt (length statements) STATEMENT_LIMIT)
  where
    by_test : (test : Bool) → RefusesOther (cond test (Ok statement)
        (Err (refused.store_limit (codes "statements"))))
    by_test true = tt
    by_test false = refl

pub preparing_other : (catalog : Catalog) (name : List ℕ) (select : Parts)
    → RefusesOther (preparing_of catalog name select)
unfolding preparing_of
preparing_other catalog name select = by_test (is_some (find_statement catalog.statements name))
  where
    by_test : (test : Bool) → RefusesOther (cond test
        (Err (refused.name_taken (canonical_name name)))
        (bound catalog.statements (binding_of (schemas_of catalog.tables) select)))
    by_test true = refl
    by_test false = bound_other catalog.statements (binding_of (schemas_of catalog.tables) select)

-- Cursors.

pub holding_other : (cursors : List HeldCursor) (name : List ℕ) → IsOtherIfAny (holding_refusal cursors name)
holding_other cursors name = by_tests (is_open name cursors) (nat_lt (length cursors) CURSOR_LIMIT)
  where
    by_tests : (taken few : Bool) → IsOtherIfAny (cond taken
        (Some (refused.name_taken (canonical_name name)))
        (cond few None (Some (refused.store_limit (codes "cursors")))))
    by_tests true few = refl
    by_tests false true = tt
    by_tests false false = refl
