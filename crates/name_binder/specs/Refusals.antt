-- The refusals of a statement: each a plain fact on its parts and the tables, with what it shows.
use Rattle.std.specs.Prelude.{ℕ, ◌==◌, nat_lt, List, [], ◌∷◌, ◌++◌, length, map, find, codes, Bool, true, false, not}
use Rattle.std.specs.Prelude.{◌&&◌, ◌||◌, if◌then◌else◌, Option, Some, None, is_none}
use Rattle.std.specs.List.{list_all, list_any}
use Rattle.std.specs.Option.{option_map, option_or, option_and_then}
use Rattle.std.specs.Str.{bytes_eq}
use Rattle.row_values.specs.Values.{kind_of}
use Rattle.row_values.specs.Statements.{is_among, is_grouped_item, is_column_item}
use Rattle.row_values.specs.declared.operands.TheConstants.{OPERAND_LIMIT}
use Rattle.row_values.specs.declared.statement.TheConstants.{PLACE_LIMIT, SELECTIVITY_LIMIT, CONDITION_LIMIT}
use Rattle.row_values.specs.declared.statement.TheConstants.{ITEM_LIMIT, KEY_LIMIT}
use Rattle.row_values.specs.declared.values.Kind.{Kind}
use Rattle.row_values.specs.declared.values.Kind.TheVariants.{Int, Text}
use Rattle.row_values.specs.declared.statement.Place.{Place}
use Rattle.row_values.specs.declared.statement.ColRef.{ColRef}
use Rattle.row_values.specs.declared.statement.Item.{Item}
use Rattle.row_values.specs.declared.statement.Item.TheVariants as bound
use Rattle.sql_parser.specs.Statement.{Parts}
use Rattle.sql_parser.specs.declared.statement.RawRef.{RawRef}
use Rattle.sql_parser.specs.declared.statement.RawPlace.{RawPlace}
use Rattle.sql_parser.specs.declared.statement.RawItem.{RawItem}
use Rattle.sql_parser.specs.declared.statement.RawItem.TheVariants as item
use Rattle.sql_parser.specs.declared.statement.RawOperand.{RawOperand}
use Rattle.sql_parser.specs.declared.statement.RawOperand.TheVariants.{Literal, Param}
use Rattle.sql_parser.specs.declared.statement.RawTest.{RawTest}
use Rattle.sql_parser.specs.declared.statement.RawCond.{RawCond}
use Rattle.sql_parser.specs.declared.statement.RawCond.TheVariants as cond
use Rattle.sql_parser.specs.declared.statement.RawKey.{RawKey}
use Rattle.name_binder.specs.Catalog.{Known, schema_named}
use Rattle.name_binder.specs.References.{place_number, meant, kind_meant, is_unknown, is_ambiguous, item_ref, refs_of}
use Rattle.name_binder.specs.Parameters.{operands_of, parameterised_count}
use Rattle.name_binder.specs.Spelling.{ref_text, item_text}

-- the first table that isn't known
abbrev pub first_unknown_table : List Known → List RawPlace → Option (List ℕ)
first_unknown_table tables [] = None
first_unknown_table tables (place ∷ places) =
    if is_none (schema_named place.table tables) then Some place.table else first_unknown_table tables places

-- whether a place has this alias
abbrev pub is_alias_among : List ℕ → List RawPlace → Bool
is_alias_among alias [] = false
is_alias_among alias (place ∷ places) = bytes_eq place.alias alias || is_alias_among alias places

-- the first alias that equals one of an earlier place
abbrev pub first_repeated_alias : List RawPlace → List RawPlace → Option (List ℕ)
first_repeated_alias earlier [] = None
first_repeated_alias earlier (place ∷ places) =
    if is_alias_among place.alias earlier then Some place.alias else first_repeated_alias (earlier ++ place ∷ []) places

abbrev pub first_unknown_column : List Place → Parts → Option RawRef
first_unknown_column places s = find (is_unknown places) (refs_of s)

abbrev pub first_ambiguous : List Place → Parts → Option RawRef
first_ambiguous places s = find (is_ambiguous places) (refs_of s)

-- both kinds are there and are one
abbrev pub are_one_kind : Option Kind → Option Kind → Bool
are_one_kind None other = false
are_one_kind (Some Int) None = false
are_one_kind (Some Int) (Some Int) = true
are_one_kind (Some Int) (Some Text) = false
are_one_kind (Some Text) None = false
are_one_kind (Some Text) (Some Int) = false
are_one_kind (Some Text) (Some Text) = true

-- a parameter takes any kind, a literal has one
abbrev pub takes_operand : Option Kind → RawOperand → Bool
takes_operand left (Literal value) = are_one_kind left (Some (kind_of value))
takes_operand left Param = true

abbrev pub takes_test : Option Kind → RawTest → Bool
takes_test left test = list_all (takes_operand left) (operands_of test)

-- a literal of another kind than its column; or two columns of one place, or of two kinds
abbrev pub is_misfit : List Place → RawCond → Bool
is_misfit places (cond.Test r test) = not (takes_test (kind_meant places r) test)
is_misfit places (cond.Same a b) =
    (place_number a places == place_number b places) || not (are_one_kind (kind_meant places a) (kind_meant places b))

-- the column on the left
abbrev pub left_of : RawCond → RawRef
left_of (cond.Test r test) = r
left_of (cond.Same a b) = a

abbrev pub first_misfit : List Place → List RawCond → Option RawRef
first_misfit places conds = option_map left_of (find (is_misfit places) conds)

-- whether a test is an IN of more operands than one may have
abbrev pub is_long : RawTest → Bool
is_long test = nat_lt OPERAND_LIMIT (length (operands_of test))

abbrev pub is_long_cond : RawCond → Bool
is_long_cond (cond.Test r test) = is_long test
is_long_cond (cond.Same a b) = false

-- whether such an IN is among the conditions
abbrev pub has_long : List RawCond → Bool
has_long conditions = list_any is_long_cond conditions

-- which limit the statement passes
abbrev pub first_excess : Parts → Option (List ℕ)
first_excess s =
    if nat_lt PLACE_LIMIT (length s.places) then Some (codes "tables") else
    if nat_lt SELECTIVITY_LIMIT (parameterised_count s.conds) then Some (codes "predicates") else
    if nat_lt CONDITION_LIMIT (length s.conds) then Some (codes "conditions") else
    if has_long s.conds then Some (codes "operands") else
    if nat_lt ITEM_LIMIT (length s.items) then Some (codes "items") else
    if nat_lt KEY_LIMIT (length s.groups) || nat_lt KEY_LIMIT (length s.order) then Some (codes "keys") else
    None

-- an item with its column
abbrev pub bound_item : List Place → RawItem → Item
bound_item places (item.Column r) = bound.Column (meant places r)
bound_item places item.CountAll = bound.CountAll
bound_item places (item.Sum r) = bound.Sum (meant places r)
bound_item places (item.Min r) = bound.Min (meant places r)
bound_item places (item.Max r) = bound.Max (meant places r)

abbrev pub bound_groups : List Place → List RawRef → List ColRef
bound_groups places groups = map (meant places) groups

-- With GROUP BY, an item that is neither an aggregate nor one of its columns; without it, an aggregate.
abbrev pub is_ungrouped_item : List ColRef → Item → Bool
is_ungrouped_item [] i = not (is_column_item i)
is_ungrouped_item (group ∷ groups) i = not (is_grouped_item (group ∷ groups) i)

-- with GROUP BY, a key that isn't one of its columns
abbrev pub is_ungrouped_key : List ColRef → ColRef → Bool
is_ungrouped_key [] at = false
is_ungrouped_key (group ∷ groups) at = not (is_among (group ∷ groups) at)

abbrev pub first_ungrouped_item : List ColRef → List Place → List RawItem → Option RawItem
first_ungrouped_item groups places items = find (λ i. is_ungrouped_item groups (bound_item places i)) items

abbrev pub first_ungrouped_key : List ColRef → List Place → List RawKey → Option RawKey
first_ungrouped_key groups places order = find (λ key. is_ungrouped_key groups (meant places key.at)) order

-- the first such item, and then the first such key
abbrev pub first_ungrouped : List Place → Parts → Option (List ℕ)
first_ungrouped places s =
    option_or (option_map item_text (first_ungrouped_item (bound_groups places s.groups) places s.items))
    (option_map (λ key. ref_text key.at) (first_ungrouped_key (bound_groups places s.groups) places s.order))

abbrev pub is_sum_of_text : List Place → RawItem → Bool
is_sum_of_text places (item.Column r) = false
is_sum_of_text places item.CountAll = false
is_sum_of_text places (item.Sum r) = are_one_kind (kind_meant places r) (Some Text)
is_sum_of_text places (item.Min r) = false
is_sum_of_text places (item.Max r) = false

abbrev pub first_sum_of_text : List Place → List RawItem → Option RawRef
first_sum_of_text places items = option_and_then item_ref (find (is_sum_of_text places) items)
