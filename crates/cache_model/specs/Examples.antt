-- Worked by computation: caches of small statements over a thousand rows, with an index on each column.
use Rattle.std.specs.Prelude.{ℕ, ◌≡◌, ◌*◌, ◌-◌, ◌^◌, false, List, [], ◌∷◌, codes, map, replicate, Some, refl}
use Rattle.fraction_math.specs.Fraction.{Fraction}
use Rattle.row_values.specs.Statements.{Statement, statement_with}
use Rattle.row_values.specs.declared.columns.Column.{Column}
use Rattle.row_values.specs.declared.statement.Item.TheVariants as item
use Rattle.row_values.specs.declared.statement.Operand.TheVariants as operand
use Rattle.row_values.specs.declared.statement.Pred.{Pred}
use Rattle.row_values.specs.declared.statement.Test.TheVariants as test
use Rattle.row_values.specs.declared.values.Kind.TheVariants as kind
use Rattle.plan_trees.specs.declared.plans.Access.TheVariants.{Seq, Range}
use Rattle.plan_trees.specs.declared.statistics.Weights.{Weights}
use Rattle.plan_trees.specs.PlanSpace.{column_of}
use Rattle.plan_trees.specs.Statistics.{Statistics}
use Rattle.plan_trees.specs.Trees.{TopTree, Base, Rows}
use Rattle.cost_model.specs.Costs.{top_cost, digits, digits_within}
use Rattle.plan_trees.specs.declared.scale.TheConstants.{COST_SCALE}
use Rattle.cache_model.specs.Caches.{CacheState, empty_cache, reused}
use Rattle.cache_model.specs.Choices.{BySelectivity, ByCost, ByOptimum, Choice, choice_of, passes_selectivity_check}
use Rattle.cache_model.specs.Keeping.{Keeping, KeptNew, KeptNothing, KeptOld, Optimum, kept_after}

abbrev usual_weights : Weights
usual_weights = record { row = 1; fetch = 2; probe = 1; hash = 2; sort = 1; out = 1 }

abbrev column_named : List ℕ → Column
column_named name = record { name = name; kind = kind.Int }

-- the column of this number is below a parameter
abbrev below : ℕ → ℕ → Pred
below column parameter = record { at = column_of 0 column; test = test.Lt (operand.Param parameter) }

abbrev over_table : List Column → List Pred → Statement
over_table columns preds =
    statement_with (record { table = codes "t"; alias = codes "t"; schema = columns } ∷ []) preds []
    (item.Column (column_of 0 0) ∷ []) [] []

abbrev optimum_of : ℕ → List ℕ → TopTree → ℕ → Optimum
optimum_of execution at top least = record { execution = execution; at = at; top = top; least = least * COST_SCALE }

-- lambda, and the ratio of redundant plans
abbrev two : Fraction
two = record { num = 2; den = 1 }

abbrev seven_fifths : Fraction
seven_fifths = record { num = 7; den = 5 }

-- SELECT v FROM t WHERE v < ?: a range costs 10 + 2 s on the scale, where s rows are met, and reading all rows 1000.

abbrev narrow : Statement
narrow = over_table (column_named (codes "v") ∷ []) (below 0 0 ∷ [])

abbrev thousand : Statistics
thousand = record {
  rows = 1000 ∷ [];
  fixed = 1000 ∷ [];
  matching = 1 ∷ [];
  distinct = [];
  fans =
      (1 ∷ []) ∷ [];
  indexed = 1 ∷ [];
  weights = usual_weights;
}

abbrev range : TopTree
range = Rows (Base (Range 0 0 0))

abbrev all_rows : TopTree
all_rows = Rows (Base (Seq 0))

range_costs : map (λ s. top_cost narrow thousand (s ∷ []) range) (1 ∷ 4 ∷ 100 ∷ 150 ∷ [])
    ≡ 13194139533312 ∷ 19791209299968 ∷ 230897441832960 ∷ 340848604610560 ∷ []
unfolding digits digits_within
range_costs = refl

abbrev keeping : CacheState → ℕ → Optimum → Keeping
keeping cache budget optimum = kept_after cache narrow thousand optimum seven_fifths budget

abbrev choice_at : CacheState → ℕ → Choice
choice_at cache s = choice_of cache narrow thousand (s ∷ []) two 16

-- Reuse by selectivity: optimised at 100, then at 150, since 210 * 150 is at most 2 * 210 * 100.

abbrev at_100 : Keeping
at_100 = keeping empty_cache 256 (optimum_of 1 (100 ∷ []) range 210)

nothing_cached : choice_at empty_cache 100 ≡ ByOptimum 0
nothing_cached = refl

new_plan : at_100.kept ≡ KeptNew 1
unfolding digits digits_within
new_plan = refl

reuse_by_selectivity : choice_at at_100.cache 150 ≡ BySelectivity 0
unfolding digits digits_within
reuse_by_selectivity = refl

-- the anchor has then served two executions
reuse_counts : map (λ anchor. anchor.uses) (reused at_100.cache 0).anchors ≡ 2 ∷ []
unfolding digits digits_within
reuse_counts = refl

-- Shrinking counts: at 4 both checks fail, since 18 * 100 is more than 2 * 210 * 4, though the range costs less there.
shrinking_counts : choice_at at_100.cache 4 ≡ ByOptimum 1
unfolding digits digits_within
shrinking_counts = refl

-- Reuse by cost: optimised at 1, then at 4. The selectivity check fails, 12 * 4 against 2 * 12; the cost check passes,
-- 18
-- against 2 * 12.

abbrev at_1 : Keeping
at_1 = keeping empty_cache 256 (optimum_of 1 (1 ∷ []) range 12)

selectivity_fails_at_4 : map (passes_selectivity_check two (4 ∷ [])) at_1.cache.anchors ≡ false ∷ []
unfolding digits digits_within
selectivity_fails_at_4 = refl

reuse_by_cost : choice_at at_1.cache 4 ≡ ByCost 0 1
unfolding digits digits_within
reuse_by_cost = refl

-- Redundant plan: at 250 both checks fail and the range is the plan again; at 600 all rows are read, but the range
-- costs
-- 1210 there, within 7 / 5 of 1000.

abbrev at_250 : Keeping
at_250 = keeping at_100.cache 256 (optimum_of 2 (250 ∷ []) range 510)

abbrev at_600 : Keeping
at_600 = keeping at_250.cache 256 (optimum_of 3 (600 ∷ []) all_rows 1000)

optimised_at_250 : choice_at at_100.cache 250 ≡ ByOptimum 1
unfolding digits digits_within
optimised_at_250 = refl

same_plan : at_250.kept ≡ KeptOld 1
unfolding digits digits_within
same_plan = refl

optimised_at_600 : choice_at at_250.cache 600 ≡ ByOptimum 2
unfolding digits digits_within
optimised_at_600 = refl

redundant_plan : at_600.kept ≡ KeptOld 1
unfolding digits digits_within
redundant_plan = refl

-- Reuse within the bound: at 700 by the third anchor, since 1210 * 700 is at most 2 * 1000 * 600. The anchor's own cost
-- counts: at 1000 it fails, 1210 * 1000 against 1,200,000, and so does each cost check, the nearest by 2010 against
-- 2000.

within_bound : choice_at at_600.cache 700 ≡ BySelectivity 2
unfolding digits digits_within
within_bound = refl

own_cost_counts : choice_at at_600.cache 1000 ≡ ByOptimum 3
unfolding digits digits_within
own_cost_counts = refl

kept_at_1000 : (keeping at_600.cache 256 (optimum_of 4 (1000 ∷ []) all_rows 1000)).kept ≡ KeptNew 2
unfolding digits digits_within
kept_at_1000 = refl

-- the nearest is tried first: at 300 the anchor at 250, which stands second and lets the range through by 610 against
-- 510
nearest_first : choice_of at_250.cache narrow thousand (300 ∷ []) (record { num = 599; den = 500 }) 1 ≡ ByCost 1 1
unfolding digits digits_within
nearest_first = refl

-- Budget: with room for one plan, the range goes with its anchor for reading all rows.
one_plan_alone : (keeping at_100.cache 1 (optimum_of 2 (1000 ∷ []) all_rows 1000)).evicted
    ≡ Some (record { plan = 1; anchors = 1 })
unfolding digits digits_within
one_plan_alone = refl

-- Full cache: with 4096 anchors nothing is kept, not even of a plan that is there; with one less an anchor is.

with_anchors : ℕ → CacheState
with_anchors count = record {
  plans = at_100.cache.plans;
  anchors = replicate count (record {
    execution = 1;
    at = 100 ∷ [];
    plan = 1;
    plan_cost = 210 * COST_SCALE;
    least =
        210 * COST_SCALE;
    uses = 1;
  });
  next_plan = 2;
}

full_cache : (keeping (with_anchors 4096) 256 (optimum_of 2 (250 ∷ []) range 510)).kept ≡ KeptNothing
unfolding with_anchors digits digits_within
full_cache = refl

room_for_one : (keeping (with_anchors 4095) 256 (optimum_of 2 (250 ∷ []) range 510)).kept ≡ KeptOld 1
unfolding with_anchors digits digits_within
room_for_one = refl

-- Overflowing check: with the greatest ratio of parts below 2 ^ 63 the right side of both checks passes 2 ^ 128.

abbrev forty_thousand : Statistics
forty_thousand = record {
  rows = 40000 ∷ [];
  fixed = 40000 ∷ [];
  matching = 1 ∷ [];
  distinct = [];
  fans =
      (1 ∷ []) ∷ [];
  indexed = 0 ∷ [];
  weights = usual_weights;
}

overflow_fails : choice_of (kept_after empty_cache narrow forty_thousand (optimum_of 1 (2000 ∷ []) all_rows 40000)
    seven_fifths 256).cache narrow forty_thousand (1000 ∷ []) (record { num = 2 ^ 63 - 1; den = 1 }) 16 ≡ ByOptimum 1
unfolding digits digits_within
overflow_fails = refl

-- Least used: SELECT v FROM t WHERE v < ? AND w < ?, with room for two plans. The uses of the two ranges tie, and the
-- one
-- of less number goes.

abbrev wide_and_narrow : Statement
wide_and_narrow = over_table (column_named (codes "v") ∷ column_named (codes "w") ∷ []) (below 0 0 ∷ below 1 1 ∷ [])

abbrev thousand_pairs : Statistics
thousand_pairs = record {
  rows = 1000 ∷ [];
  fixed = 1000 ∷ [];
  matching = 1 ∷ 1 ∷ [];
  distinct = [];
  fans =
      (1 ∷ 1 ∷ []) ∷ [];
  indexed = 3 ∷ [];
  weights = usual_weights;
}

abbrev range_on_w : TopTree
range_on_w = Rows (Base (Range 0 1 1))

abbrev keeping_pair : CacheState → Optimum → Keeping
keeping_pair cache optimum = kept_after cache wide_and_narrow thousand_pairs optimum seven_fifths 2

abbrev two_ranges : CacheState
two_ranges =
    (keeping_pair (keeping_pair empty_cache (optimum_of 1 (100 ∷ 1000 ∷ []) range 210)).cache
    (optimum_of 2 (1000 ∷ 100 ∷ []) range_on_w 210)).cache

least_used_goes : (keeping_pair two_ranges (optimum_of 3 (1000 ∷ 1000 ∷ []) all_rows 1000)).evicted
    ≡ Some (record { plan = 1; anchors = 1 })
unfolding digits digits_within
least_used_goes = refl

-- a use more saves it, and the other goes
most_used_stays : (keeping_pair (reused two_ranges 0) (optimum_of 4 (1000 ∷ 1000 ∷ []) all_rows 1000)).evicted
    ≡ Some (record { plan = 2; anchors = 1 })
unfolding digits digits_within
most_used_stays = refl
