-- Plans of a set of places can be searched, and nested loops are one; so there is a tight table.
use Rattle.std.proofs.Common.{ℕ, zero, suc, ◌≡◌, ◌≤◌, ◌<◌, ◌+◌, ◌-◌, ◌^◌, ◌⊎◌, inl, inr, Bool, true, false, IsTrue}
use Rattle.std.proofs.Common.{List, length, Some, IsSome, ap, ◌∙◌, refl, arith, pow-suc}
use Rattle.std.proofs.lemmas.Bool.{cases_lt}
use Rattle.row_values.specs.Statements.{Statement, IsSoundQuery}
use Rattle.plan_trees.specs.declared.plans.Access.TheVariants.{Seq}
use Rattle.plan_trees.specs.declared.plans.StepKind.TheVariants.{Loop}
use Rattle.plan_trees.specs.PlaceSets.{has, one}
use Rattle.plan_trees.specs.PlanSpace.{IsValidPlan, IsSortedPlan, is_sorted_plan}
use Rattle.plan_trees.specs.Statistics.{Statistics}
use Rattle.plan_trees.specs.Trees.{Tree, Base, Join, places_of}
use Rattle.plan_trees.proofs.Bits.{no_bit_past}
use Rattle.cost_model.specs.Costs.{plan_cost}
use Rattle.cost_model.specs.Laws.{HasTightTable}
use Rattle.cost_model.specs.LeastCost.{Table, IsPlanOf, IsTightCell}
use Rattle.cost_model.proofs.LeastExists.{least_exists, search_plans}
use Rattle.cost_model.proofs.Searches.{Outcome, Searchable, decided_both, decided_implies, decided_bool, decided_same}
use Rattle.cost_model.proofs.Searches.{least_cost, search_filtered, search_same}

-- Every set of places has a plan: nested loops over its places.

record HasPlan (q : Statement) (s : Statistics) (set : ℕ) : Type 0 where
  plan : Tree
  fits : IsPlanOf q s false set plan

alone : (q : Statement) (s : Statistics) (place set : ℕ) → place < length q.places → one place ≡ set → HasPlan q s set
alone q s place set there e = record {
  plan = Base (Seq place);
  fits = record { valid = there; whole = e; in_order = λ wanted. absurd (cc) };
}

with_last : (q : Statement) (s : Statistics) (place before set : ℕ) → place < length q.places → before < 2 ^ place
    → before + one place ≡ set → HasPlan q s before → HasPlan q s set
with_last q s place before set there small e h = record {
  plan = Join h.plan (Loop (Seq place));
  fits = record {
    valid = (
      h.fits.valid,
      (there, ap (λ outer. has outer place) h.fits.whole ∙ no_bit_past place before place small (omega arith)),
    );
    whole = ap (λ outer. outer + one place) h.fits.whole ∙ e;
    in_order = λ wanted. absurd (cc);
  };
}

by_last : (q : Statement) (s : Statistics) (place set : ℕ) → place < length q.places → set < 2 ^ suc place
    → 2 ^ place ≤ set → ((before : ℕ) → 0 < before → before < 2 ^ place → HasPlan q s before)
    → (2 ^ place < set) ⊎ (set ≤ 2 ^ place) → HasPlan q s set
by_last q s place set there small large below (inl more) =
    let twice = pow-suc 2 place in
    let less : set - 2 ^ place < 2 ^ place = omega arith in
    with_last q s place (set - 2 ^ place) set there less (omega arith) (below (set - 2 ^ place) (omega arith) less)
by_last q s place set there small large below (inr same) = alone q s place set there (omega arith)

by_size : (q : Statement) (s : Statistics) (place set : ℕ) → place < length q.places → 0 < set → set < 2 ^ suc place
    → ((before : ℕ) → 0 < before → before < 2 ^ place → HasPlan q s before) → (set < 2 ^ place) ⊎ (2 ^ place ≤ set)
    → HasPlan q s set
by_size q s place set there some small below (inl less) = below set some less
by_size q s place set there some small below (inr large) =
    by_last q s place set there small large below (cases_lt (2 ^ place) set)

some_plan_below : (q : Statement) (s : Statistics) (count set : ℕ) → count ≤ length q.places → 0 < set
    → set < 2 ^ count → HasPlan q s set
some_plan_below q s zero set few some small = absurd (omega arith)
some_plan_below q s (suc place) set few some small =
    by_size q s place set (omega arith) some small
    (λ before b less. some_plan_below q s place before (omega arith) b less) (cases_lt set (2 ^ place))

-- The least cost of the plans of a set.

search_plans_of : (q : Statement) (s : Statistics) (sorted : Bool) (set : ℕ) → length q.places ≤ 5
    → Searchable Tree (IsPlanOf q s sorted set)
search_plans_of q s sorted set few =
    search_same Tree
    (λ plan. IsValidPlan q s.indexed plan × ((places_of plan ≡ set) × (IsTrue sorted → IsSortedPlan q plan)))
    (IsPlanOf q s sorted set)
    (search_filtered Tree (IsValidPlan q s.indexed)
    (λ plan. (places_of plan ≡ set) × (IsTrue sorted → IsSortedPlan q plan)) (search_plans q s.indexed few)
    (λ plan. decided_both (decided_same (places_of plan) set)
    (decided_implies (decided_bool sorted true) (decided_bool (is_sorted_plan q plan) true))))
    (λ plan p. record { valid = p.0; whole = p.1.0; in_order = p.1.1 }) (λ plan f. (f.valid, (f.whole, f.in_order)))

-- the least found of the plans of a set, or that it has none
abbrev LeastPlan : Statement → Statistics → List ℕ → Bool → ℕ → Type 0
LeastPlan q s vector sorted set = Outcome Tree (IsPlanOf q s sorted set) (λ plan. Some (plan_cost q s vector plan))

least_plan : (q : Statement) (s : Statistics) (vector : List ℕ) (sorted : Bool) (set : ℕ) → length q.places ≤ 5
    → LeastPlan q s vector sorted set
least_plan q s vector sorted set few = search_plans_of q s sorted set few (λ plan. Some (plan_cost q s vector plan))

least_table : (q : Statement) (s : Statistics) (vector : List ℕ) → length q.places ≤ 5 → Table
least_table q s vector few sorted set =
    least_cost Tree (IsPlanOf q s sorted set) (λ plan. Some (plan_cost q s vector plan))
    (least_plan q s vector sorted set few)

tight_cell : (q : Statement) (s : Statistics) (vector : List ℕ) (sorted : Bool) (set : ℕ)
    (found : LeastPlan q s vector sorted set) → IsTightCell q s vector sorted set
    (least_cost Tree (IsPlanOf q s sorted set) (λ plan. Some (plan_cost q s vector plan)) found)
unfolding least_cost
tight_cell q s vector sorted set (inl x) = record {
  plan = x.item;
  fits = x.valid;
  costs = let e = x.costs in cc;
  below_all = λ other f. x.below_all other (plan_cost q s vector other) f refl;
}
tight_cell q s vector sorted set (inr none) = λ plan f. let e = none plan f in absurd (cc)

some_cell : (q : Statement) (s : Statistics) (vector : List ℕ) (set : ℕ) (found : LeastPlan q s vector false set)
    → HasPlan q s set
    → IsSome (least_cost Tree (IsPlanOf q s false set) (λ plan. Some (plan_cost q s vector plan)) found)
unfolding least_cost
some_cell q s vector set (inl x) h = refl
some_cell q s vector set (inr none) h = let e = none h.plan h.fits in absurd (cc)

pub tight_exists : (q : Statement) (s : Statistics) (vector : List ℕ) → IsSoundQuery q → HasTightTable q s vector
unfolding least_table
tight_exists q s vector h =
    let found = least_exists q s vector h in
    record {
      table = least_table q s vector h.few_places;
      least = found.least;
      is_tight = record {
        cells = λ sorted set there. tight_cell q s vector sorted set (least_plan q s vector sorted set h.few_places);
        least_cost = found.is_least;
      };
      each_reached = λ set there. some_cell q s vector set (least_plan q s vector false set h.few_places)
          (some_plan_below q s (length q.places) set (omega arith) there.some there.there);
    }
