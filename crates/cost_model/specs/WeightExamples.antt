-- Worked by hand: one plan of each form at six weights that are six primes, so that no formula can take one weight for
-- another. SELECT a.x FROM a, b, c, d WHERE a.y < 60 AND b.z < ? AND a.y > 10 AND d.w = 3 AND a.x = b.x AND b.z = c.z
-- AND c.w = d.w GROUP BY a.x, over 100, 1000, 40 and 70 rows. 30 rows of a meet both its predicates, 60 the first and
-- 50 the other; 20 rows of d meet the one on it, and 200 rows of b the one with the parameter.
use Rattle.std.specs.Prelude.{◌≡◌, [], ◌∷◌, codes, map, pos, refl}
use Rattle.row_values.specs.Statements.{Statement, statement_with}
use Rattle.row_values.specs.declared.statement.Item.TheVariants as item
use Rattle.row_values.specs.declared.statement.Operand.TheVariants as operand
use Rattle.row_values.specs.declared.statement.Test.TheVariants as test
use Rattle.row_values.specs.declared.values.Value.TheVariants.{Int}
use Rattle.plan_trees.specs.declared.plans.Access.TheVariants.{Seq, Range, Full}
use Rattle.plan_trees.specs.declared.plans.StepKind.TheVariants.{Loop, Probe}
use Rattle.plan_trees.specs.PlanSpace.{column_of}
use Rattle.plan_trees.specs.Statistics.{Statistics}
use Rattle.plan_trees.specs.Trees.{Tree, Base, Join, HashJoin, Sort, Rows, SortedGroups, HashGroups}
use Rattle.cost_model.specs.Cardinalities.{card_of, kappa}
use Rattle.cost_model.specs.Costs.{access_unit, plan_cost, top_cost, digits, digits_within}
use Rattle.cost_model.specs.Examples.{edge_of, table_of}

grouped : Statement
grouped =
    statement_with
    (table_of (codes "a") (codes "x" ∷ codes "y" ∷ []) ∷ table_of (codes "b") (codes "x" ∷ codes "z" ∷ [])
    ∷ table_of (codes "c") (codes "z" ∷ codes "w" ∷ []) ∷ table_of (codes "d") (codes "w" ∷ []) ∷ [])
    (record { at = column_of 0 1; test = test.Lt (operand.Literal (Int (pos 60))) }
    ∷ record { at = column_of 1 1; test = test.Lt (operand.Param 0) }
    ∷ record { at = column_of 0 1; test = test.Gt (operand.Literal (Int (pos 10))) }
    ∷ record { at = column_of 3 0; test = test.Eq (operand.Literal (Int (pos 3))) } ∷ [])
    (edge_of 0 0 1 0 ∷ edge_of 1 1 2 0 ∷ edge_of 2 1 3 0 ∷ []) (item.Column (column_of 0 0) ∷ [])
    (column_of 0 0 ∷ []) []

weighed : Statistics
weighed = record {
  rows = 100 ∷ 1000 ∷ 40 ∷ 70 ∷ [];
  fixed = 30 ∷ 1000 ∷ 40 ∷ 20 ∷ [];
  matching = 60 ∷ 1 ∷ 50 ∷ 20 ∷ [];
  distinct = 90 ∷ 35 ∷ 8 ∷ [];
  fans = (2 ∷ 4 ∷ []) ∷ (12 ∷ 29 ∷ []) ∷ (2 ∷ 5 ∷ []) ∷ (9 ∷ []) ∷ [];
  indexed = 3 ∷ 3 ∷ 3 ∷ 1 ∷ [];
  weights = record { row = 3; fetch = 5; probe = 7; hash = 11; sort = 13; out = 17 };
}

-- 3 * 100; 7 * 7 + 5 * 60 by the fixed predicate's own count; 7 * 10 + 5 * 200 by the vector; 7 * 7 + 5 * 100
units : map (access_unit grouped weighed (200 ∷ [])) (Seq 0 ∷ Range 0 1 0 ∷ Range 1 1 1 ∷ Full 0 0 ∷ [])
    ≡ 300 ∷ 349 ∷ 1070 ∷ 549 ∷ []
unfolding grouped weighed table_of edge_of digits digits_within
units = refl

-- of a, of b, of both, of c and d, and of all: 30 rows, 200, 66 and two thirds, 100, and 190 and a half
cardinalities : map (card_of grouped weighed (200 ∷ [])) (1 ∷ 2 ∷ 3 ∷ 12 ∷ 15 ∷ [])
    ≡ 32985348833280 ∷ 219902325555200 ∷ 73300775185200 ∷ 109951162777600 ∷ 209430786243200 ∷ []
unfolding grouped weighed table_of edge_of card_of kappa
cardinalities = refl

probed : Tree
probed = Join (Base (Seq 0)) (Probe 1 0)

last_two : Tree
last_two = HashJoin (Base (Seq 2)) (Base (Seq 3)) 2

both_sides : Tree
both_sides = HashJoin probed last_two 1

-- a scan, a probe, nested loops over each kind of access, a hash join of two scans, and one of two composite sides
plans : map (plan_cost grouped weighed (200 ∷ []))
    (Base (Seq 0) ∷ probed ∷ Join probed (Loop (Seq 2)) ∷ Join (Base (Seq 0)) (Loop (Range 1 1 1))
    ∷ Join (Base (Seq 0)) (Loop (Full 2 1)) ∷ last_two ∷ both_sides ∷ Sort probed ∷ [])
    ≡ 329853488332800 ∷ 5864062014807600 ∷ 16084284383487400 ∷ 36870289918090800 ∷ 30742345112616960
    ∷ 2957686278717440 ∷ 14397842977250240 ∷ 22063533330736800 ∷ []
unfolding grouped weighed table_of edge_of probed last_two both_sides card_of kappa digits digits_within
plans = refl

tops : map (top_cost grouped weighed (200 ∷ []))
    (Rows both_sides ∷ SortedGroups (Sort both_sides) ∷ HashGroups both_sides ∷ [])
    ≡ 14397842977250240 ∷ 93981541749666240 ∷ 16701581625925440 ∷ []
unfolding grouped weighed table_of edge_of probed last_two both_sides card_of kappa digits digits_within
tops = refl
