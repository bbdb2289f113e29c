-- The binding of a statement: its first refusal, or else the statement whose names are numbers.
use Rattle.std.specs.Prelude.{ℕ, ◌≡◌, ◌⊎◌, ◌+◌, List, [], ◌∷◌, map, Option, Some, None, Result, Ok, Err, MatchResult}
use Rattle.std.specs.Option.{option_map}
use Rattle.row_values.specs.Statements.{Statement}
use Rattle.row_values.specs.declared.statement.Place.{Place}
use Rattle.row_values.specs.declared.statement.Operand.{Operand}
use Rattle.row_values.specs.declared.statement.Operand.TheVariants as operand
use Rattle.row_values.specs.declared.statement.Test.{Test}
use Rattle.row_values.specs.declared.statement.Test.TheVariants as test
use Rattle.row_values.specs.declared.statement.Pred.{Pred}
use Rattle.row_values.specs.declared.statement.Edge.{Edge}
use Rattle.row_values.specs.declared.statement.OrderKey.{OrderKey}
use Rattle.sql_parser.specs.Statement.{Parts}
use Rattle.sql_parser.specs.declared.statement.RawPlace.{RawPlace}
use Rattle.sql_parser.specs.declared.statement.RawOperand.{RawOperand}
use Rattle.sql_parser.specs.declared.statement.RawOperand.TheVariants.{Literal, Param}
use Rattle.sql_parser.specs.declared.statement.RawTest.{RawTest}
use Rattle.sql_parser.specs.declared.statement.RawTest.TheVariants.{Lt, Le, Gt, Ge, Eq, Between, OneOf}
use Rattle.sql_parser.specs.declared.statement.RawCond.{RawCond}
use Rattle.sql_parser.specs.declared.statement.RawCond.TheVariants as cond
use Rattle.sql_parser.specs.declared.statement.RawKey.{RawKey}
use Rattle.name_binder.specs.declared.faults.BindFault.{BindFault}
use Rattle.name_binder.specs.declared.faults.BindFault.TheVariants.{UnknownTable, AliasTwice, UnknownColumn, Ambiguous}
use Rattle.name_binder.specs.declared.faults.BindFault.TheVariants.{Misfit, TooMany, NotGrouped, SumOfText, Memory}
use Rattle.name_binder.specs.Catalog.{Known}
use Rattle.name_binder.specs.References.{places_of, meant}
use Rattle.name_binder.specs.Parameters.{test_count}
use Rattle.name_binder.specs.Refusals.{first_unknown_table, first_repeated_alias, first_unknown_column, first_ambiguous}
use Rattle.name_binder.specs.Refusals.{first_misfit, first_excess, first_ungrouped, first_sum_of_text, bound_item}
use Rattle.name_binder.specs.Refusals.{bound_groups}
use Rattle.row_values.specs.Names.{canonical_name}
use Rattle.name_binder.specs.Spelling.{ref_text}

-- the first that is there
abbrev pub first_of : {T : Type 0} → List (Option T) → Option T
first_of [] = None
first_of (Some x ∷ others) = Some x
first_of (None ∷ others) = first_of others

-- a table that isn't known
abbrev pub table_refusal : List Known → List RawPlace → Option BindFault
table_refusal tables entries =
    option_map (λ name. UnknownTable (canonical_name name)) (first_unknown_table tables entries)

-- names that mean two things or none, or columns that don't go together, in the order in which they count
abbrev pub name_refusal : List Place → Parts → Option BindFault
name_refusal places s = first_of (
    option_map (λ alias. AliasTwice (canonical_name alias)) (first_repeated_alias [] s.places)
    ∷ option_map (λ r. UnknownColumn (ref_text r)) (first_unknown_column places s)
    ∷ option_map (λ r. Ambiguous (ref_text r)) (first_ambiguous places s)
    ∷ option_map (λ r. Misfit (ref_text r)) (first_misfit places s.conds)
    ∷ [])

-- a statement too large, or one that asks for what its rows don't have, in the order in which they count
abbrev pub shape_refusal : List Place → Parts → Option BindFault
shape_refusal places s = first_of (
    option_map TooMany (first_excess s)
    ∷ option_map NotGrouped (first_ungrouped places s)
    ∷ option_map (λ r. SumOfText (ref_text r)) (first_sum_of_text places s.items)
    ∷ [])

-- the first refusal of a statement over these tables
abbrev pub first_refusal : List Known → Parts → Option BindFault
first_refusal tables s = first_of (
    table_refusal tables s.places
    ∷ name_refusal (places_of tables s.places) s
    ∷ shape_refusal (places_of tables s.places) s
    ∷ [])

-- an operand whose parameter has this number
abbrev pub operand_from : ℕ → RawOperand → Operand
operand_from next (Literal value) = operand.Literal value
operand_from next Param = operand.Param next

-- the number of the next parameter, behind this operand
abbrev pub next_number : ℕ → RawOperand → ℕ
next_number next (Literal value) = next
next_number next Param = next + 1

-- operands whose parameters have the numbers from this one on
abbrev pub operands_from : ℕ → List RawOperand → List Operand
operands_from next [] = []
operands_from next (a ∷ operands) = operand_from next a ∷ operands_from (next_number next a) operands

-- a test whose parameters have the numbers from this one on
abbrev pub test_from : ℕ → RawTest → Test
test_from next (Lt a) = test.Lt (operand_from next a)
test_from next (Le a) = test.Le (operand_from next a)
test_from next (Gt a) = test.Gt (operand_from next a)
test_from next (Ge a) = test.Ge (operand_from next a)
test_from next (Eq a) = test.Eq (operand_from next a)
test_from next (Between a b) = test.Between (operand_from next a) (operand_from (next_number next a) b)
test_from next (OneOf operands) = test.OneOf (operands_from next operands)

-- the predicates, their parameters numbered from this one on
abbrev pub preds_from : List Place → ℕ → List RawCond → List Pred
preds_from places next [] = []
preds_from places next (cond.Test r t ∷ conds) =
    record { at = meant places r; test = test_from next t } ∷ preds_from places (next + test_count t) conds
preds_from places next (cond.Same a b ∷ conds) = preds_from places next conds

-- the edges
abbrev pub edges_of : List Place → List RawCond → List Edge
edges_of places [] = []
edges_of places (cond.Test r t ∷ conds) = edges_of places conds
edges_of places (cond.Same a b ∷ conds) = record { left = meant places a; right = meant places b }
    ∷ edges_of places conds

abbrev pub bound_key : List Place → RawKey → OrderKey
bound_key places key = record { at = meant places key.at; descending = key.descending }

-- each reference as the column that it means
abbrev pub bound_statement : List Place → Parts → Statement
bound_statement places s = record {
  places = places;
  preds = preds_from places 0 s.conds;
  edges = edges_of places s.conds;
  items = map (bound_item places) s.items;
  groups = bound_groups places s.groups;
  order = map (bound_key places) s.order;
}

-- the refusal, or else the value
abbrev pub unless_refused : {T : Type 0} → Option BindFault → T → Result T BindFault
unless_refused None value = Ok value
unless_refused (Some fault) value = Err fault

-- the bound statement, or the first refusal
abbrev pub binding_of : List Known → Parts → Result Statement BindFault
binding_of tables s = unless_refused (first_refusal tables s) (bound_statement (places_of tables s.places) s)

-- a call that is to give this gives it, or wants memory
abbrev pub Gives : {T : Type 0} → Result T BindFault → Result T BindFault → Type 0
Gives wanted outcome = MatchResult outcome (λ value. wanted ≡ Ok value) (λ fault. (fault ≡ Memory)
    ⊎ (wanted ≡ Err fault))

-- a check that is to refuse so refuses so, or wants memory
abbrev pub Checks : {T : Type 0} → Option BindFault → Result T BindFault → Type 0
Checks wanted outcome = MatchResult outcome (λ _. wanted ≡ None) (λ fault. (fault ≡ Memory) ⊎ (wanted ≡ Some fault))
