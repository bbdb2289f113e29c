-- Cardinalities: how many rows the join of a set of places has, by estimate, on the cost scale.
use Rattle.std.specs.Prelude.{ℕ, ◌+◌, ◌*◌, Bool, ◌&&◌, if◌then◌else◌, List, [], ◌∷◌, map, slice_index}
use Rattle.std.specs.Int.{div_ceil}
use Rattle.row_values.specs.Statements.{Statement}
use Rattle.row_values.specs.declared.statement.Edge.{Edge}
use Rattle.plan_trees.specs.PlaceSets.{has}
use Rattle.plan_trees.specs.Statistics.{Statistics, selectivity_places}
use Rattle.plan_trees.specs.declared.scale.TheConstants.{COST_SCALE}

-- the product of the numbers that are marked
abbrev pub marked_product : List Bool → List ℕ → ℕ
marked_product [] numbers = 1
marked_product (mark ∷ marks) [] = 1
marked_product (mark ∷ marks) (number ∷ numbers) = (if mark then number else 1) * marked_product marks numbers

-- the product of the numbers of the set's places; the list has one for each place from this one on
abbrev pub product_over : ℕ → ℕ → List ℕ → ℕ
product_over set place [] = 1
product_over set place (number ∷ numbers) = (if has set place then number else 1) * product_over set (place + 1) numbers

-- the product of the numbers, one for each parameterised predicate, of the predicates on the set's places
abbrev pub selected_product : Statement → ℕ → List ℕ → ℕ
selected_product q set numbers = marked_product (map (has set) (selectivity_places q.preds)) numbers

-- the rows of the place of each parameterised predicate: what its selectivity is a part of
abbrev pub selected_rows : Statement → Statistics → List ℕ
selected_rows q s = map (slice_index s.rows) (selectivity_places q.preds)

-- an edge whose two places are in the set
abbrev pub is_inside : ℕ → Edge → Bool
is_inside set edge = has set edge.left.place && has set edge.right.place

-- the product of the distinct counts of the edges inside the set
abbrev pub distinct_product : Statement → Statistics → ℕ → ℕ
distinct_product q s set = marked_product (map (is_inside set) q.edges) s.distinct

-- the part of a cardinality that no selectivity changes, rounded up once
unfoldable pub kappa : Statement → Statistics → ℕ → ℕ
kappa q s set =
    div_ceil (COST_SCALE * product_over set 0 s.fixed)
    (selected_product q set (selected_rows q s) * distinct_product q s set)

-- the cardinality of a set of places at a selectivity vector
unfoldable pub card_of : Statement → Statistics → List ℕ → ℕ → ℕ
card_of q s vector set = kappa q s set * selected_product q set vector
