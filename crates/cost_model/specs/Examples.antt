-- Worked by computation: a join of three places whose smallest pair is no good start, one of four places that is best
-- taken from both ends, and a wanted order.
use Rattle.std.specs.Prelude.{ℕ, zero, suc, ◌≡◌, ◌+◌, ◌*◌, ◌-◌, ◌/◌, ◌==◌, nat_lt, Bool, true, false, ◌&&◌, ◌||◌}
use Rattle.std.specs.Prelude.{if◌then◌else◌, List, [], ◌∷◌, ◌++◌, codes, map, slice_get, Option, Some, None, refl}
use Rattle.std.specs.Option.{option_map_or}
use Rattle.std.specs.Fmt.{digits as decimal_digits}
use Rattle.std.proofs.Common.{sym, true≢false, arith}
use Rattle.row_values.specs.Statements.{Statement, statement_with}
use Rattle.row_values.specs.declared.statement.Edge.{Edge}
use Rattle.row_values.specs.declared.statement.Item.TheVariants as item
use Rattle.row_values.specs.declared.statement.Operand.TheVariants as operand
use Rattle.row_values.specs.declared.statement.Place.{Place}
use Rattle.row_values.specs.declared.statement.Test.TheVariants as test
use Rattle.row_values.specs.declared.values.Kind.TheVariants as kind
use Rattle.plan_trees.specs.declared.plans.Access.{Access}
use Rattle.plan_trees.specs.declared.plans.Access.TheVariants.{Seq, Full}
use Rattle.plan_trees.specs.declared.plans.StepKind.{StepKind}
use Rattle.plan_trees.specs.declared.plans.StepKind.TheVariants.{Loop, Probe}
use Rattle.plan_trees.specs.declared.statistics.Weights.{Weights}
use Rattle.plan_trees.specs.PlaceSets.{has, one, are_apart}
use Rattle.plan_trees.specs.PlanSpace.{IsValidTop, column_of, ascending, joins_to, connects}
use Rattle.plan_trees.specs.Spelling.{top_text}
use Rattle.plan_trees.specs.Statistics.{Statistics}
use Rattle.plan_trees.specs.Trees.{Tree, Base, Join, HashJoin, Sort, Rows, place_of, place_entering}
use Rattle.cost_model.specs.Cardinalities.{card_of, kappa}
use Rattle.cost_model.specs.Costs.{access_unit, step_cost, join_cost, plan_cost, top_cost, digits, digits_within}
use Rattle.plan_trees.specs.declared.scale.TheConstants.{COST_SCALE}

usual_weights : Weights
usual_weights = record { row = 1; fetch = 2; probe = 1; hash = 2; sort = 1; out = 1 }

unfoldable pub table_of : List ℕ → List (List ℕ) → Place
table_of name columns = record {
  table = name;
  alias = name;
  schema =
      map (λ column. record { name = column; kind = kind.Int }) columns;
}

unfoldable pub edge_of : ℕ → ℕ → ℕ → ℕ → Edge
edge_of left left_column right right_column = record {
  left = column_of left left_column;
  right =
      column_of right right_column;
}

-- Smallest pair first is not least: SELECT a.x FROM a, b, c WHERE a.x = b.x AND a.y = c.y AND b.z = c.z over
-- tables of 8, 1024 and 1024 rows, where c.y has 512 values, and b.z and c.y have an index.

three_places : Statement
three_places =
    statement_with (table_of (codes "a") (codes "x" ∷ codes "y" ∷ []) ∷ table_of (codes "b") (codes "x" ∷ codes "z"
    ∷ []) ∷ table_of (codes "c") (codes "y" ∷ codes "z" ∷ []) ∷ [])
    [] (edge_of 0 0 1 0 ∷ edge_of 0 1 2 0 ∷ edge_of 1 1 2 1 ∷ []) (item.Column (column_of 0 0) ∷ []) [] []

three_tables : Statistics
three_tables = record {
  rows = 8 ∷ 1024 ∷ 1024 ∷ [];
  fixed = 8 ∷ 1024 ∷ 1024 ∷ [];
  matching = [];
  distinct = 1024 ∷ 512 ∷ 1024 ∷ [];
  fans = (1 ∷ 1 ∷ []) ∷ (1 ∷ 1 ∷ []) ∷ (2 ∷ 1 ∷ []) ∷ [];
  indexed = 0 ∷ 2 ∷ 1 ∷ [];
  weights = usual_weights;
}

-- of the three pairs, and of all three: 8, 16, 1024 rows and a 64th of a row
cardinalities : map (card_of three_places three_tables []) (3 ∷ 5 ∷ 6 ∷ 7 ∷ [])
    ≡ 8 * COST_SCALE ∷ 16 * COST_SCALE ∷ 1024 * COST_SCALE ∷ COST_SCALE / 64 ∷ []
unfolding three_places three_tables usual_weights table_of edge_of card_of kappa digits digits_within
cardinalities = refl

cheapest_cost : plan_cost three_places three_tables [] (Join (Join (Base (Seq 0)) (Probe 2 1)) (Probe 1 2))
    ≡ 387045272846336
unfolding three_places three_tables usual_weights table_of edge_of card_of kappa digits digits_within
cheapest_cost = refl

-- begun with the smallest pair a plan costs nine times as much
smallest_pair_first : plan_cost three_places three_tables [] (Join (HashJoin (Base (Seq 0)) (Base (Seq 1)) 0)
    (Probe 2 1)) ≡ 3224 * COST_SCALE + COST_SCALE / 64
unfolding three_places three_tables usual_weights table_of edge_of card_of kappa digits digits_within
smallest_pair_first = refl

-- The least cost, by trying all plans of a statement without parameters and without a wanted order.

-- what plans may be made of: these accesses and steps, and inner sides of hash joins with these sets of places
record Space : Type 0 where
  statement : Statement
  tables : Statistics
  accesses : List Access
  steps : List StepKind
  is_inner : ℕ → Bool

joins_from : Space → ℕ → StepKind → Bool
joins_from space set (Loop access) = true
joins_from space set (Probe place edge) =
    option_map_or (joins_to set place) (slice_get space.statement.edges edge) false

some_edge : ℕ → ℕ → List Edge → Bool
some_edge left right [] = false
some_edge left right (edge ∷ edges) = connects left right edge || some_edge left right edges

joins_with : Space → ℕ → ℕ → Bool
joins_with space left right = are_apart left right && space.is_inner right && some_edge left right space.statement.edges

lesser : Option ℕ → Option ℕ → Option ℕ
lesser None other = other
lesser (Some cost) None = Some cost
lesser (Some cost) (Some other) = if nat_lt other cost then Some other else Some cost

plus : Option ℕ → ℕ → Option ℕ
plus None cost = None
plus (Some below) cost = Some (below + cost)

sum : Option ℕ → Option ℕ → Option ℕ
sum None inner = None
sum (Some outer) inner = plus inner outer

least_of : List (Option ℕ) → Option ℕ
least_of [] = None
least_of (cost ∷ costs) = lesser cost (least_of costs)

numbers_below : ℕ → List ℕ
numbers_below zero = []
numbers_below (suc number) = number ∷ numbers_below number

-- the least cost of the plans of a set, of at most so many places
least_any : Space → ℕ → ℕ → Option ℕ
least_any space zero set = None
least_any space (suc most) set =
    least_of (map (λ access. if set == one (place_of access)
    then Some (COST_SCALE * access_unit space.statement space.tables [] access) else None) space.accesses
    ++ map (λ step. if has set (place_entering step) && joins_from space (set - one (place_entering step)) step
    then plus (least_any space most (set - one (place_entering step)))
    (step_cost space.statement space.tables [] (set - one (place_entering step)) step)
    else None) space.steps
    ++ map (λ left. if joins_with space left (set - left)
    then plus (sum (least_any space most left) (least_any space most (set - left)))
    (join_cost space.statement space.tables [] left (set - left))
    else None) (numbers_below set))

accesses : List Access
accesses = Seq 0 ∷ Seq 1 ∷ Seq 2 ∷ Full 1 1 ∷ Full 2 0 ∷ []

three_space : Space
three_space = record {
  statement = three_places;
  tables = three_tables;
  accesses = accesses;
  steps = map Loop accesses ++ Probe 2 1 ∷ Probe 1 2 ∷ [];
  is_inner = λ set. true;
}

-- the cells of the sets 0 to 7: there is no plan of no place
cells : map (least_any three_space 3) (0 ∷ 1 ∷ 2 ∷ 3 ∷ 4 ∷ 5 ∷ 6 ∷ 7 ∷ [])
    ≡ None ∷ Some (8 * COST_SCALE) ∷ Some (1024 * COST_SCALE) ∷ Some (3104 * COST_SCALE) ∷ Some (1024 * COST_SCALE)
    ∷ Some (144 * COST_SCALE) ∷ Some (7168 * COST_SCALE) ∷ Some (352 * COST_SCALE + COST_SCALE / 64) ∷ []
unfolding least_any least_of numbers_below plus sum lesser joins_from joins_with some_edge three_space accesses
    three_places three_tables usual_weights table_of edge_of card_of kappa digits digits_within
cells = refl

-- From both ends: SELECT a.x FROM a, b, c, d WHERE a.x = b.x AND b.m = c.m AND c.y = d.y over tables of 100 rows
-- without an index, where all rows of b and c have one value in m.

four_places : Statement
four_places =
    statement_with (table_of (codes "a") (codes "x" ∷ []) ∷ table_of (codes "b") (codes "x" ∷ codes "m" ∷ [])
    ∷ table_of (codes "c") (codes "m" ∷ codes "y" ∷ []) ∷ table_of (codes "d") (codes "y" ∷ []) ∷ [])
    [] (edge_of 0 0 1 0 ∷ edge_of 1 1 2 0 ∷ edge_of 2 1 3 0 ∷ []) (item.Column (column_of 0 0) ∷ []) [] []

four_tables : Statistics
four_tables = record {
  rows = 100 ∷ 100 ∷ 100 ∷ 100 ∷ [];
  fixed = 100 ∷ 100 ∷ 100 ∷ 100 ∷ [];
  matching = [];
  distinct = 100 ∷ 1 ∷ 100 ∷ [];
  fans = (1 ∷ []) ∷ (1 ∷ 100 ∷ []) ∷ (100 ∷ 1 ∷ []) ∷ (1 ∷ []) ∷ [];
  indexed = 0 ∷ 0 ∷ 0 ∷ 0 ∷ [];
  weights = usual_weights;
}

first_pair : Tree
first_pair = HashJoin (Base (Seq 0)) (Base (Seq 1)) 0

last_pair : Tree
last_pair = HashJoin (Base (Seq 2)) (Base (Seq 3)) 2

from_both_ends : Tree
from_both_ends = HashJoin first_pair last_pair 1

in_the_space : IsValidTop four_places four_tables.indexed (Rows from_both_ends)
unfolding from_both_ends first_pair last_pair four_places four_tables table_of edge_of
in_the_space = record {
  plan = ((omega arith, omega arith, (refl, refl)), (omega arith, omega arith, (refl, refl)), (refl, refl));
  whole = refl;
  suits = (refl, λ wanted. absurd (true≢false (sym wanted)));
}

spelling : top_text four_places.places (Rows from_both_ends)
    ≡ codes "rows(hash(hash(seq(a),seq(b),1),hash(seq(c),seq(d),3),2))"
unfolding from_both_ends first_pair last_pair four_places table_of edge_of decimal_digits
spelling = refl

-- the first pair, the last pair, and their join
both_ends : map (plan_cost four_places four_tables []) (first_pair ∷ last_pair ∷ from_both_ends ∷ [])
    ≡ 700 * COST_SCALE ∷ 700 * COST_SCALE ∷ 11800 * COST_SCALE ∷ []
unfolding from_both_ends first_pair last_pair four_places four_tables usual_weights table_of edge_of card_of kappa
    digits digits_within
both_ends = refl

both_ends_in_full : plan_cost four_places four_tables [] from_both_ends ≡ 12974237207756800
unfolding from_both_ends first_pair last_pair four_places four_tables usual_weights table_of edge_of card_of kappa
    digits digits_within
both_ends_in_full = refl

one_end : plan_cost four_places four_tables [] (HashJoin (HashJoin first_pair (Base (Seq 2)) 1) (Base (Seq 3)) 2)
    ≡ 41500 * COST_SCALE
unfolding first_pair four_places four_tables usual_weights table_of edge_of card_of kappa digits digits_within
one_end = refl

scans : List Access
scans = Seq 0 ∷ Seq 1 ∷ Seq 2 ∷ Seq 3 ∷ []

four_space : (ℕ → Bool) → Space
four_space is_inner = record {
  statement = four_places;
  tables = four_tables;
  accesses = scans;
  steps = map Loop scans;
  is_inner = is_inner;
}

is_single : ℕ → Bool
is_single set = set == one 0 || set == one 1 || set == one 2 || set == one 3

-- the least cost of all plans, and of those that take in one place after the other
least_costs : map (λ is_inner. least_any (four_space is_inner) 4 15) ((λ set. true) ∷ is_single ∷ [])
    ≡ Some (11800 * COST_SCALE) ∷ Some (41500 * COST_SCALE) ∷ []
unfolding least_any least_of numbers_below plus sum lesser joins_from joins_with some_edge four_space is_single scans
    four_places four_tables usual_weights table_of edge_of card_of kappa digits digits_within
least_costs = refl

-- A small join, worked by hand in docs/COST_MODEL.md: SELECT o.total FROM customers c, orders o WHERE c.id =
-- o.customer AND o.total > ?, over 100 customers and 1000 orders, with an index on c.id. With 50 orders the hash
-- join is cheaper, with 5 the index join.

orders : Statement
orders =
    statement_with (table_of (codes "c") (codes "id" ∷ codes "name" ∷ [])
    ∷ table_of (codes "o") (codes "customer" ∷ codes "total" ∷ []) ∷ [])
    (record { at = column_of 1 1; test = test.Gt (operand.Param 0) } ∷ []) (edge_of 0 0 1 0
    ∷ []) (item.Column (column_of 1 1) ∷ []) [] []

shop : Statistics
shop = record {
  rows = 100 ∷ 1000 ∷ [];
  fixed = 100 ∷ 1000 ∷ [];
  matching = 1 ∷ [];
  distinct = 100 ∷ [];
  fans = (1 ∷ 1 ∷ []) ∷ (10 ∷ 2 ∷ []) ∷ [];
  indexed = 1 ∷ 0 ∷ [];
  weights = usual_weights;
}

hash_join : Tree
hash_join = HashJoin (Base (Seq 0)) (Base (Seq 1)) 0

index_join : Tree
index_join = Join (Base (Seq 1)) (Probe 0 0)

many_orders : map (plan_cost orders shop (50 ∷ [])) (hash_join ∷ index_join ∷ [])
    ≡ 1450 * COST_SCALE ∷ 1500 * COST_SCALE ∷ []
unfolding hash_join index_join orders shop usual_weights table_of edge_of card_of kappa digits digits_within
many_orders = refl

few_orders : map (plan_cost orders shop (5 ∷ [])) (hash_join ∷ index_join ∷ [])
    ≡ 1315 * COST_SCALE ∷ 1050 * COST_SCALE ∷ []
unfolding hash_join index_join orders shop usual_weights table_of edge_of card_of kappa digits digits_within
few_orders = refl

-- Interesting order: SELECT v FROM t WHERE w < ? ORDER BY v over 1000 rows, with an index on v. Few rows are
-- sorted, many are read in the order of the index.

in_order : Statement
in_order =
    statement_with (table_of (codes "t") (codes "v" ∷ codes "w" ∷ []) ∷ []) (record {
      at = column_of 0 1;
      test =
          test.Lt (operand.Param 0);
    } ∷ []) []
    (item.Column (column_of 0 0) ∷ []) [] (ascending (column_of 0 0) ∷ [])

thousand_rows : Statistics
thousand_rows = record {
  rows = 1000 ∷ [];
  fixed = 1000 ∷ [];
  matching = 1 ∷ [];
  distinct = [];
  fans = (1 ∷ 1 ∷ []) ∷ [];
  indexed = 1 ∷ [];
  weights = usual_weights;
}

read_in_order : top_cost in_order thousand_rows (500 ∷ []) (Rows (Base (Full 0 0))) ≡ 2210018371829760
unfolding in_order thousand_rows usual_weights table_of card_of kappa digits digits_within
read_in_order = refl

-- where half of the rows are kept, a sort is dearer
sorted_at_500 : top_cost in_order thousand_rows (500 ∷ []) (Rows (Sort (Base (Seq 0)))) ≡ 6000 * COST_SCALE
unfolding in_order thousand_rows usual_weights table_of card_of kappa digits digits_within
sorted_at_500 = refl

sorted_at_50 : top_cost in_order thousand_rows (50 ∷ []) (Rows (Sort (Base (Seq 0)))) ≡ 1649267441664000
unfolding in_order thousand_rows usual_weights table_of card_of kappa digits digits_within
sorted_at_50 = refl
