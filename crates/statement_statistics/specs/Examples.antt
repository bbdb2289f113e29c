-- Worked examples, checked by computation.
use Rattle.std.specs.Prelude.{◌≡◌, ℕ, pos, negsuc, List, [], ◌∷◌, None, Some, codes, refl}
use Rattle.row_values.specs.Statements.{Statement, statement_with}
use Rattle.row_values.specs.declared.columns.Column.{Column}
use Rattle.row_values.specs.declared.statement.ColRef.{ColRef}
use Rattle.row_values.specs.declared.statement.Item.TheVariants.{CountAll}
use Rattle.row_values.specs.declared.statement.Operand.TheVariants.{Literal, Param}
use Rattle.row_values.specs.declared.statement.Place.{Place}
use Rattle.row_values.specs.declared.statement.Pred.{Pred}
use Rattle.row_values.specs.declared.statement.Test.{Test}
use Rattle.row_values.specs.declared.statement.Test.TheVariants.{Ge, Le, OneOf}
use Rattle.row_values.specs.declared.values.Kind.TheVariants as kind
use Rattle.row_values.specs.declared.values.Value.{Value}
use Rattle.row_values.specs.declared.values.Value.TheVariants.{Int}
use Rattle.statement_statistics.specs.Statistics.{edge_counts, fan_counts, first_above, first_wide, fixed_counts, matching_counts, row_counts}

abbrev int : ℕ → Value
int number = Int (pos number)

abbrev column : ℕ → ℕ → ColRef
column place number = record { place = place; column = number }

abbrev number_column : List ℕ → Column
number_column name = record { name = name; kind = kind.Int }

abbrev a_place : List ℕ → List Column → Place
a_place name schema = record { table = name; alias = name; schema = schema }

abbrev on : ℕ → ℕ → Test → Pred
on place number test = record { at = column place number; test = test }

-- ends of ranges: one column of 5, 5, 7 and the two outermost numbers
abbrev ends : List (List (List Value))
ends =
    ((int 5 ∷ []) ∷ (int 5 ∷ []) ∷ (int 7 ∷ []) ∷ (Int (negsuc 9223372036854775807) ∷ [])
    ∷ (int 9223372036854775807 ∷ []) ∷ []) ∷ []

-- v <= ? and v >= 5 and v IN (5, 5, 7): the first is parameterised, and a row that equals two operands is one row
abbrev mixed : Statement
mixed =
    statement_with (a_place (codes "t") (number_column (codes "v") ∷ []) ∷ [])
    (on 0 0 (Le (Param 0)) ∷ on 0 0 (Ge (Literal (int 5)))
    ∷ on 0 0 (OneOf (Literal (int 5) ∷ Literal (int 5) ∷ Literal (int 7) ∷ [])) ∷ []) [] (CountAll ∷ []) [] []

rows_of_ends : row_counts mixed ends ≡ 5 ∷ []
rows_of_ends = refl

fixed_of_ends : fixed_counts mixed ends ≡ 3 ∷ []
fixed_of_ends = refl

matching_of_ends : matching_counts mixed ends ≡ 1 ∷ 4 ∷ 3 ∷ []
matching_of_ends = refl

-- five rows of four distinct numbers
fans_of_ends : fan_counts mixed ends ≡ (2 ∷ []) ∷ []
fans_of_ends = refl

-- a table without a row counts as one row
rows_of_none : row_counts mixed ([] ∷ []) ≡ 1 ∷ []
rows_of_none = refl

fans_of_none : fan_counts mixed ([] ∷ []) ≡ (1 ∷ []) ∷ []
fans_of_none = refl

-- duplicate join keys: k of 1, 1, 2 and of 1, 1, 3, 4, 4
abbrev joined : Statement
joined =
    statement_with (a_place (codes "l") (number_column (codes "k") ∷ [])
    ∷ a_place (codes "r") (number_column (codes "k") ∷ []) ∷ []) [] (record { left = column 0 0; right = column 1 0 } ∷ [])
    (CountAll ∷ []) [] []

abbrev keys : List (List (List Value))
keys =
    ((int 1 ∷ []) ∷ (int 1 ∷ []) ∷ (int 2 ∷ []) ∷ [])
    ∷ ((int 1 ∷ []) ∷ (int 1 ∷ []) ∷ (int 3 ∷ []) ∷ (int 4 ∷ []) ∷ (int 4 ∷ []) ∷ []) ∷ []

-- the larger of two and three distinct keys
distinct_keys : edge_counts joined keys ≡ 3 ∷ []
distinct_keys = refl

fans_of_keys : fan_counts joined keys ≡ (2 ∷ []) ∷ (2 ∷ []) ∷ []
fans_of_keys = refl

not_wide : first_wide joined keys ≡ None
not_wide = refl

-- wide statement: five tables of 8192 rows pass 2^63 at the fifth
wide_at_the_fifth : first_above 9223372036854775808 [] 0 1 (8192 ∷ 8192 ∷ 8192 ∷ 8192 ∷ 8192 ∷ []) ≡ Some 4
wide_at_the_fifth = refl

-- a product of exactly 2^63 isn't wide
just_not_wide : first_above 9223372036854775808 [] 0 1 (1048576 ∷ 1048576 ∷ 1048576 ∷ 8 ∷ []) ≡ None
just_not_wide = refl

abbrev four_times : List Pred
four_times =
    on 0 0 (Le (Param 0)) ∷ on 0 0 (Le (Param 1)) ∷ on 0 0 (Le (Param 2)) ∷ on 0 0 (Le (Param 3)) ∷ []

wide_by_predicates : first_above 9223372036854775808 four_times 0 1 (8192 ∷ 1024 ∷ 8192 ∷ []) ≡ Some 2
wide_by_predicates = refl
