-- Worked examples, checked by computation.
use Rattle.std.specs.Prelude.{◌≡◌, ℕ, pos, negsuc, true, false, List, [], ◌∷◌, ◌++◌, map, codes, refl}
use Rattle.std.specs.Fmt.{digits}
use Rattle.row_values.specs.Statements.{Statement, statement_with}
use Rattle.row_values.specs.declared.values.Value.{Value}
use Rattle.row_values.specs.declared.values.Value.TheVariants.{Int, Text}
use Rattle.row_values.specs.declared.statement.Place.{Place}
use Rattle.row_values.specs.declared.statement.ColRef.{ColRef}
use Rattle.row_values.specs.declared.statement.Operand.TheVariants.{Literal, Param}
use Rattle.row_values.specs.declared.statement.Test.{Test}
use Rattle.row_values.specs.declared.statement.Test.TheVariants.{Lt, Le, Ge, Between, OneOf}
use Rattle.row_values.specs.declared.statement.Item.{Item}
use Rattle.row_values.specs.declared.statement.Item.TheVariants.{Column, CountAll, Sum, Min, Max}
use Rattle.row_values.specs.declared.statement.OrderKey.{OrderKey}
use Rattle.statement_meaning.specs.Combinations.{kept_combinations, world_of}
use Rattle.statement_meaning.specs.Meaning.{Shown, Cell, is_lower, is_same_group, meaning_of, shape_of}
use Rattle.statement_meaning.specs.PartialCombinations.{single, either, joined}
use Rattle.row_values.specs.Sorting.{in_order, runs}
use Rattle.statement_meaning.specs.Spelling.{row_line}
use Rattle.statement_meaning.specs.Vectors.{vector_of}

-- places of tables whose columns don't matter here, since a statement names columns by number
abbrev a_place : List ℕ → Place
a_place name = record { table = name; alias = name; schema = [] }

abbrev column : ℕ → ℕ → ColRef
column place number = record { place = place; column = number }

abbrev int : ℕ → Value
int number = Int (pos number)

abbrev lines : List (List Shown) → List (List ℕ)
lines rows = map row_line rows

abbrev rising : ColRef → OrderKey
rising at = record { at = at; descending = false }

abbrev falling : ColRef → OrderKey
falling at = record { at = at; descending = true }

-- one table t with a column v, and a predicate on it
abbrev on_v : Test → Statement
on_v test =
    statement_with (a_place (codes "t") ∷ []) (record { at = column 0 0; test = test } ∷ []) [] (Column (column 0 0)
    ∷ [])
    [] []

abbrev least : Value
least = Int (negsuc 9223372036854775807)

abbrev greatest : Value
greatest = int 9223372036854775807

abbrev ends : List (List (List Value))
ends = ((int 5 ∷ []) ∷ (int 5 ∷ []) ∷ (int 7 ∷ []) ∷ (least ∷ []) ∷ (greatest ∷ []) ∷ []) ∷ []

at_most_five : lines (meaning_of (on_v (Le (Param 0))) ends (int 5 ∷ [])) ≡ codes "row 5" ∷ codes "row 5"
    ∷ codes "row -9223372036854775808" ∷ []
unfolding digits
at_most_five = refl

vector_at_most_five : vector_of (on_v (Le (Param 0))) ends (int 5 ∷ []) ≡ 3 ∷ []
vector_at_most_five = refl

vector_at_least_five : vector_of (on_v (Ge (Param 0))) ends (int 5 ∷ []) ≡ 4 ∷ []
vector_at_least_five = refl

crossed_ends : meaning_of (on_v (Between (Param 0) (Param 1))) ends (int 7 ∷ int 5 ∷ []) ≡ []
crossed_ends = refl

vector_crossed_ends : vector_of (on_v (Between (Param 0) (Param 1))) ends (int 7 ∷ int 5 ∷ []) ≡ 1 ∷ []
vector_crossed_ends = refl

-- a row that equals two of the operands is one row
abbrev one_of_three : Test
one_of_three = OneOf (Param 0 ∷ Literal (int 7) ∷ Param 1 ∷ [])

two_equal_operands : lines (meaning_of (on_v one_of_three) ends (int 5 ∷ int 5 ∷ [])) ≡ codes "row 5" ∷ codes "row 5"
    ∷ codes "row 7" ∷ []
unfolding digits
two_equal_operands = refl

vector_two_equal_operands : vector_of (on_v one_of_three) ends (int 5 ∷ int 5 ∷ []) ≡ 3 ∷ []
vector_two_equal_operands = refl

vector_one_operand_met : vector_of (on_v one_of_three) ends (int 5000 ∷ int 6000 ∷ []) ≡ 1 ∷ []
vector_one_operand_met = refl

vector_below_least : vector_of (on_v (Lt (Param 0))) ends (least ∷ []) ≡ 1 ∷ []
vector_below_least = refl

fixed_has_no_selectivity : vector_of (on_v (Lt (Literal (int 5)))) ends [] ≡ []
fixed_has_no_selectivity = refl

-- duplicate join keys: l(k) with r(k, v)
abbrev duplicate_keys : List (List (List Value))
duplicate_keys =
    ((int 1 ∷ []) ∷ (int 1 ∷ []) ∷ (int 2 ∷ []) ∷ [])
    ∷ ((int 1 ∷ int 10 ∷ []) ∷ (int 1 ∷ int 20 ∷ []) ∷ (int 3 ∷ int 30 ∷ []) ∷ [])
    ∷ []

abbrev join : List OrderKey → Statement
join order =
    statement_with (a_place (codes "l") ∷ a_place (codes "r") ∷ []) []
    (record { left = column 0 0; right = column 1 0 } ∷ []) (Column (column 0 0) ∷ Column (column 1 1) ∷ []) []
    order

joined_rows : lines (meaning_of (join []) duplicate_keys []) ≡ codes "row 1,10" ∷ codes "row 1,20" ∷ codes "row 1,10"
    ∷ codes "row 1,20" ∷ []
unfolding digits
joined_rows = refl

joined_combinations : kept_combinations (join []) duplicate_keys [] ≡ (0 ∷ 0 ∷ []) ∷ (0 ∷ 1 ∷ []) ∷ (1 ∷ 0 ∷ [])
    ∷ (1 ∷ 1 ∷ []) ∷ []
joined_combinations = refl

joined_in_order : lines (meaning_of (join (falling (column 1 1) ∷ [])) duplicate_keys [])
    ≡ codes "row 1,20" ∷ codes "row 1,20" ∷ codes "row 1,10" ∷ codes "row 1,10" ∷ []
unfolding digits
joined_in_order = refl

-- combinations in another order have the same shape
shape_forgets_the_order : shape_of (join []) duplicate_keys ((1 ∷ 1 ∷ []) ∷ (0 ∷ 1 ∷ []) ∷ (1 ∷ 0 ∷ []) ∷ (0 ∷ 0 ∷ [])
    ∷ []) ≡ meaning_of (join []) duplicate_keys []
shape_forgets_the_order = refl

-- two sides of two places each: a(k) and b(k, m), c(m, n) and d(n)
abbrev chain : Statement
chain =
    statement_with (a_place (codes "a") ∷ a_place (codes "b") ∷ a_place (codes "c") ∷ a_place (codes "d") ∷ []) []
    (record { left = column 0 0; right = column 1 0 } ∷ record { left = column 2 0; right = column 1 1 }
    ∷ record { left = column 2 1; right = column 3 0 } ∷ [])
    (Column (column 0 0) ∷ []) [] []

abbrev chain_tables : List (List (List Value))
chain_tables =
    ((int 1 ∷ []) ∷ (int 2 ∷ []) ∷ [])
    ∷ ((int 1 ∷ int 5 ∷ []) ∷ (int 1 ∷ int 6 ∷ []) ∷ (int 3 ∷ int 5 ∷ []) ∷ [])
    ∷ ((int 5 ∷ int 8 ∷ []) ∷ (int 5 ∷ int 9 ∷ []) ∷ (int 6 ∷ int 8 ∷ []) ∷ [])
    ∷ ((int 8 ∷ []) ∷ (int 8 ∷ []) ∷ [])
    ∷ []

abbrev front_side : List (List ℕ)
front_side = (0 ∷ 1 ∷ 0 ∷ 0 ∷ []) ∷ (0 ∷ 0 ∷ 0 ∷ 0 ∷ []) ∷ []

abbrev back_side : List (List ℕ)
back_side = (0 ∷ 0 ∷ 0 ∷ 0 ∷ []) ∷ (0 ∷ 0 ∷ 2 ∷ 0 ∷ []) ∷ (0 ∷ 0 ∷ 0 ∷ 1 ∷ []) ∷ (0 ∷ 0 ∷ 2 ∷ 1 ∷ []) ∷ []

-- the join stands in the order of its left side
joined_sides : joined (world_of chain chain_tables []) (either (single 0) (single 1)) (either (single 2) (single 3))
    (λ c. back_side) front_side ≡ (0 ∷ 1 ∷ 2 ∷ 0 ∷ []) ∷ (0 ∷ 1 ∷ 2 ∷ 1 ∷ []) ∷ (0 ∷ 0 ∷ 0 ∷ 0 ∷ [])
    ∷ (0 ∷ 0 ∷ 0 ∷ 1 ∷ []) ∷ []
joined_sides = refl

-- and has the kept combinations
joined_sides_kept : in_order is_lower (joined (world_of chain chain_tables []) (either (single 0) (single 1))
    (either (single 2) (single 3)) (λ c. back_side) front_side) ≡ kept_combinations chain chain_tables []
joined_sides_kept = refl

-- sales(town, year, units)
abbrev sale : List ℕ → ℕ → ℕ → List Value
sale town year units = Text town ∷ int year ∷ int units ∷ []

abbrev sales : List (List (List Value))
sales =
    (sale (codes "Ulm") 7 3 ∷ sale (codes "Bonn") 7 4 ∷ sale (codes "Ulm") 8 5 ∷ sale (codes "Bonn") 7 6
    ∷ sale (codes "Aue") 9 5 ∷ []) ∷ []

abbrev of_sales : List Item → List ColRef → List OrderKey → Statement
of_sales items groups order = statement_with (a_place (codes "sales") ∷ []) [] [] items groups order

-- ties stay in the order of the rows, also where the key falls
year_falls : lines (meaning_of (of_sales (Column (column 0 1) ∷ Column (column 0 2) ∷ []) [] (falling (column 0 1)
    ∷ [])) sales []) ≡ codes "row 9,5" ∷ codes "row 8,5" ∷ codes "row 7,3" ∷ codes "row 7,4" ∷ codes "row 7,6" ∷ []
unfolding digits
year_falls = refl

two_keys : lines (meaning_of (of_sales (Column (column 0 1) ∷ Column (column 0 2) ∷ []) [] (rising (column 0 1)
    ∷ falling (column 0 2) ∷ [])) sales []) ≡ codes "row 7,6" ∷ codes "row 7,4" ∷ codes "row 7,3" ∷ codes "row 8,5"
    ∷ codes "row 9,5" ∷ []
unfolding digits
two_keys = refl

-- groups stand in the order of their values
by_town : lines (meaning_of (of_sales (Column (column 0 0) ∷ CountAll ∷ Sum (column 0 2) ∷ Min (column 0 2)
    ∷ Max (column 0 1) ∷ []) (column 0 0 ∷ []) []) sales []) ≡ codes "row \"Aue\",1,5,5,9"
    ∷ codes "row \"Bonn\",2,10,4,7" ∷ codes "row \"Ulm\",2,8,3,8" ∷ []
unfolding digits
by_town = refl

-- and first by ORDER BY, where it is there
by_town_and_year : lines (meaning_of (of_sales (Column (column 0 0) ∷ Column (column 0 1) ∷ Sum (column 0 2)
    ∷ []) (column 0 0 ∷ column 0 1 ∷ []) (falling (column 0 1) ∷ [])) sales []) ≡ codes "row \"Aue\",9,5"
    ∷ codes "row \"Ulm\",8,5" ∷ codes "row \"Bonn\",7,10" ∷ codes "row \"Ulm\",7,3" ∷ []
unfolding digits
by_town_and_year = refl

-- the combinations of sales in order of the town fall into runs, which are the groups
runs_of_towns : runs (is_same_group sales (column 0 0 ∷ [])) ((4 ∷ []) ∷ (3 ∷ []) ∷ (1 ∷ []) ∷ (2 ∷ []) ∷ (0 ∷ []) ∷ [])
    ≡ ((4 ∷ []) ∷ []) ∷ ((3 ∷ []) ∷ (1 ∷ []) ∷ []) ∷ ((2 ∷ []) ∷ (0 ∷ []) ∷ []) ∷ []
runs_of_towns = refl

-- no row, no group
no_groups : meaning_of (of_sales (CountAll ∷ []) (column 0 0 ∷ []) []) ([] ∷ []) [] ≡ []
no_groups = refl

-- a sum leaves 64 bits
great_sum : lines (meaning_of (of_sales (Sum (column 0 1) ∷ []) (column 0 0 ∷ []) [])
    (((int 1 ∷ greatest ∷ []) ∷ (int 1 ∷ greatest ∷ []) ∷ []) ∷ []) []) ≡ codes "row 18446744073709551614" ∷ []
unfolding digits
great_sum = refl

-- a quote, a backslash, a control byte and the last of them
escapes : row_line (Cell (Text (97 ∷ 34 ∷ 92 ∷ 10 ∷ 127 ∷ 195 ∷ 164 ∷ [])) ∷ Cell (Int (negsuc 6)) ∷ [])
    ≡ codes "row \"a\\\"\\\\\\x0a\\x7f" ++ 195 ∷ 164 ∷ codes "\",-7"
unfolding digits
escapes = refl
