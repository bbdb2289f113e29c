-- Accesses, steps and hash joins as offers.
use Rattle.std.proofs.Common.{ℕ, ◌≡◌, ◌<◌, ◌+◌, ◌*◌, Bool, true, false, IsTrue, List, Option, Some, None, IfSome, refl}
use Rattle.std.proofs.Common.{ap, sym, ◌∙◌, subst, subst₂, arith, true≢false, le_refl, if◌then◌else◌}
use Rattle.row_values.specs.Statements.{Statement}
use Rattle.plan_trees.specs.declared.plans.Access.{Access}
use Rattle.plan_trees.specs.declared.plans.StepKind.{StepKind}
use Rattle.plan_trees.specs.PlaceSets.{has, one}
use Rattle.plan_trees.specs.PlanSpace.{IsValidAccess, IsValidStep, IsValidHashJoin, is_sorted_access}
use Rattle.plan_trees.specs.Statistics.{Statistics}
use Rattle.plan_trees.specs.Trees.{Base, place_of, place_entering}
use Rattle.plan_trees.specs.Lists.{IsAccessOf, IsStepInto}
use Rattle.cost_model.specs.Costs.{access_unit, step_cost, join_cost}
use Rattle.cost_model.specs.LeastCost.{AtMost, Costs, Table, TakesPlace, TakesSplit}
use Rattle.plan_trees.specs.declared.scale.TheConstants.{COST_SCALE}
use Rattle.cost_model.proofs.LowerBounds.{at_most_more, not_sorted}
use Rattle.plan_costs.specs.Least.{IsLeastStep}
use Rattle.plan_costs.proofs.Least.{no_dearer}
use Rattle.plan_trees.proofs.ValidPlans.{entering_new}
use Rattle.join_optimizer.specs.declared.found.Cheapest.{Cheapest}
use Rattle.join_optimizer.specs.Found.{Priced, AreFound, IsFound, accessed, cheaper, cost_in, cost_of, joined, plan_in}
use Rattle.join_optimizer.specs.Found.{priced, seen, stepped}
use Rattle.join_optimizer.specs.Search.{Offered, TakesAccess, TakesAll, TakesStep}
use Rattle.join_optimizer.proofs.Offers.{StaysTaken, in_both, offered, unchanged}
use Rattle.join_optimizer.proofs.Sets.{gained, none_in_empty}

-- Accesses.

access_fits_by : (q : Statement) (s : Statistics) (vector : List ℕ) (access : Access) (b : Bool)
    → IsValidAccess q s.indexed access → is_sorted_access q access ≡ b
    → IfSome (if b then priced (Base access) (COST_SCALE * access_unit q s vector access) else None)
    (IsFound q s vector true (one (place_of access)))
access_fits_by q s vector access true valid e =
    record { fits = record { valid = valid; whole = refl; in_order = λ h. e }; costs = refl }
access_fits_by q s vector access false valid e = tt

access_fits : (q : Statement) (s : Statistics) (vector : List ℕ) (access : Access) → IsValidAccess q s.indexed access
    → AreFound q s vector (one (place_of access)) (accessed q access (COST_SCALE * access_unit q s vector access))
access_fits q s vector access valid true = access_fits_by q s vector access (is_sorted_access q access) valid refl
access_fits q s vector access valid false =
    record { fits = record { valid = valid; whole = refl; in_order = not_sorted }; costs = refl }

access_priced_by : (access : Access) (cost : ℕ) (b : Bool) → IsTrue b
    → AtMost (cost_of (if b then priced (Base access) cost else None)) cost
access_priced_by access cost true h = le_refl cost
access_priced_by access cost false h = not_sorted h

access_priced : (q : Statement) (access : Access) (cost : ℕ) (sorted : Bool)
    → (IsTrue sorted → IsTrue (is_sorted_access q access)) → AtMost (cost_of (accessed q access cost sorted)) cost
access_priced q access cost true h = access_priced_by access cost (is_sorted_access q access) (h refl)
access_priced q access cost false h = le_refl cost

pub access_offered : (q : Statement) (s : Statistics) (vector : List ℕ) (place : ℕ) (access : Access) (cost : ℕ)
    (before after : Cheapest) → IsAccessOf q s.indexed place access → cost ≡ COST_SCALE * access_unit q s vector access
    → AreFound q s vector (one place) (plan_in before)
    → seen after.sorted ≡ cheaper (seen before.sorted) (accessed q access cost true)
    → seen after.any ≡ cheaper (seen before.any) (priced (Base access) cost)
    → Offered q s vector (one place) (TakesAccess q s vector access) before after
access_offered q s vector place access cost before after valid e found sorted any =
    let here : AreFound q s vector (one place) (accessed q access cost) =
    subst₂ (λ p n. AreFound q s vector (one p) (accessed q access n)) valid.1 (sym e)
    (access_fits q s vector access valid.0) in
    offered q s vector (one place) (TakesAccess q s vector access) before after (accessed q access cost) found here
    (in_both (λ b. plan_in after b ≡ cheaper (plan_in before b) (accessed q access cost b)) sorted any)
    (λ below b h. subst (λ n. AtMost (cost_in after b) n) e (below b cost (access_priced q access cost b h)))

pub access_stays : (q : Statement) (s : Statistics) (vector : List ℕ) → StaysTaken (TakesAccess q s vector)
access_stays q s vector access before after keeps h sorted e = keeps sorted _ (h sorted e)

-- Steps.

step_fits_by : (q : Statement) (s : Statistics) (vector : List ℕ) (sorted : Bool) (from : ℕ) (step : StepKind)
    (o : Option Priced) → IsValidStep q s.indexed from step → IfSome o (IsFound q s vector sorted from)
    → IfSome (stepped step (step_cost q s vector from step) o)
    (IsFound q s vector sorted (from + one (place_entering step)))
step_fits_by q s vector sorted from step None valid h = h
step_fits_by q s vector sorted from step (Some outer) valid h = record {
  fits = record {
    valid = (h.fits.valid, subst (λ n. IsValidStep q s.indexed n step) (sym h.fits.whole) valid);
    whole = ap (λ n. n + one (place_entering step)) h.fits.whole;
    in_order = h.fits.in_order;
  };
  costs = rw (h.costs, h.fits.whole) refl;
}

step_priced : (step : StepKind) (cost n : ℕ) (o : Option Priced) → AtMost (cost_of o) n
    → AtMost (cost_of (stepped step cost o)) (n + cost)
step_priced step cost n None h = h
step_priced step cost n (Some outer) h = omega arith

pub step_offered : (q : Statement) (s : Statistics) (vector : List ℕ) (from place : ℕ) (step : StepKind) (cost : ℕ)
    (outer before after : Cheapest) → IsStepInto q s.indexed from place step → cost ≡ step_cost q s vector from step
    → AreFound q s vector from (plan_in outer) → AreFound q s vector (from + one place) (plan_in before)
    → seen after.sorted ≡ cheaper (seen before.sorted) (stepped step cost (seen outer.sorted))
    → seen after.any ≡ cheaper (seen before.any) (stepped step cost (seen outer.any))
    → Offered q s vector (from + one place) (TakesStep q s vector (cost_in outer) from step) before after
step_offered q s vector from place step cost outer before after valid e below found sorted any =
    let here : AreFound q s vector (from + one place) (λ b. stepped step cost (plan_in outer b)) =
    λ b. subst₂ (λ p n. IfSome (stepped step n (plan_in outer b)) (IsFound q s vector b (from + one p))) valid.1
    (sym e) (step_fits_by q s vector b from step (plan_in outer b) valid.0 (below b)) in
    offered q s vector (from + one place) (TakesStep q s vector (cost_in outer) from step) before after
    (λ b. stepped step cost (plan_in outer b)) found here
    (in_both (λ b. plan_in after b ≡ cheaper (plan_in before b) (stepped step cost (plan_in outer b))) sorted any)
    (λ under b n h. subst (λ m. AtMost (cost_in after b) (n + m)) e
    (under b (n + cost) (step_priced step cost n (plan_in outer b) h)))

pub step_stays : (q : Statement) (s : Statistics) (vector : List ℕ) (outer : Costs) (from : ℕ)
    → StaysTaken (TakesStep q s vector outer from)
step_stays q s vector outer from step before after keeps h sorted cost k = keeps sorted _ (h sorted cost k)

-- where the cheapest step was taken, all are
pub least_taken : (q : Statement) (s : Statistics) (vector : List ℕ) (set from place : ℕ) (step : StepKind)
    (outer : Costs) (before after : Cheapest) → IsLeastStep q s vector from place step
    → Offered q s vector set (TakesStep q s vector outer from step) before after
    → Offered q s vector set (TakesAll (IsStepInto q s.indexed from place) (TakesStep q s vector outer from)) before
    after
least_taken q s vector set from place step outer before after least f = record {
  keeps = f.keeps;
  found = f.found;
  taken = λ other h sorted cost k.
      let less = no_dearer q s vector from place step other least.valid.1 h.1 (least.below_all other h) in
      at_most_more _ _ _ (f.taken sorted cost k) (omega arith);
}

-- Hash joins.

join_fits_by : (q : Statement) (s : Statistics) (vector : List ℕ) (sorted : Bool) (left right edge : ℕ)
    (o i : Option Priced) → IsValidHashJoin q left right edge → IfSome o (IsFound q s vector sorted left)
    → IfSome i (IsFound q s vector false right)
    → IfSome (joined edge (join_cost q s vector left right) o i) (IsFound q s vector sorted (left + right))
join_fits_by q s vector sorted left right edge None i valid h k = h
join_fits_by q s vector sorted left right edge (Some outer) None valid h k = k
join_fits_by q s vector sorted left right edge (Some outer) (Some inner) valid h k = record {
  fits = record {
    valid = (
      h.fits.valid,
      k.fits.valid,
      subst₂ (λ m n. IsValidHashJoin q m n edge) (sym h.fits.whole)
          (sym k.fits.whole) valid,
    );
    whole = let e = h.fits.whole in let f = k.fits.whole in omega arith;
    in_order = h.fits.in_order;
  };
  costs = rw (h.costs, k.costs, h.fits.whole, k.fits.whole) refl;
}

join_priced : (edge cost m n : ℕ) (o i : Option Priced) → AtMost (cost_of o) m → AtMost (cost_of i) n
    → AtMost (cost_of (joined edge cost o i)) (m + n + cost)
join_priced edge cost m n None i h k = h
join_priced edge cost m n (Some outer) None h k = k
join_priced edge cost m n (Some outer) (Some inner) h k = omega arith

pub join_offered : (q : Statement) (s : Statistics) (vector : List ℕ) (table : Table) (left right set edge cost : ℕ)
    (outer inner before after : Cheapest) → IsValidHashJoin q left right edge → cost ≡ join_cost q s vector left right
    → left + right ≡ set
    → ((b : Bool) → table b left ≡ cost_in outer b) → table false right ≡ cost_in inner false
    → AreFound q s vector left (plan_in outer) → AreFound q s vector right (plan_in inner)
    → AreFound q s vector set (plan_in before)
    → seen after.sorted ≡ cheaper (seen before.sorted) (joined edge cost (seen outer.sorted) (seen inner.any))
    → seen after.any ≡ cheaper (seen before.any) (joined edge cost (seen outer.any) (seen inner.any))
    → Offered q s vector set (TakesSplit q s vector table set right) before after
join_offered q s vector table left right set edge cost outer inner before after valid e sum left_cell right_cell first
    second found sorted any =
    let here : AreFound q s vector set (λ b. joined edge cost (plan_in outer b) (plan_in inner false)) =
    λ b. subst₂ (λ m n. IfSome (joined edge n (plan_in outer b) (plan_in inner false)) (IsFound q s vector b m)) sum
    (sym e) (join_fits_by q s vector b left right edge (plan_in outer b) (plan_in inner false) valid (first b)
    (second false)) in
    offered q s vector set (TakesSplit q s vector table set right) before after
    (λ b. joined edge cost (plan_in outer b) (plan_in inner false)) found here
    (in_both
    (λ b. plan_in after b ≡ cheaper (plan_in before b) (joined edge cost (plan_in outer b) (plan_in inner false)))
    sorted any)
    (λ under b other edge' m n total fits h k.
    let same : other ≡ left = omega arith in
    let below : AtMost (cost_in outer b) m = subst (λ o. AtMost o m) (ap (λ x. table b x) same ∙ left_cell b) h in
    let inside : AtMost (cost_in inner false) n = subst (λ o. AtMost o n) right_cell k in
    subst₂ (λ x c. AtMost (cost_in after b) (m + n + c)) same (e ∙ ap (λ x. join_cost q s vector x right) (sym same))
    (under b (m + n + cost) (join_priced edge cost m n (plan_in outer b) (plan_in inner false) below inside)))

-- where no edge joins the two sides, there is nothing to take
pub join_refused : (q : Statement) (s : Statistics) (vector : List ℕ) (table : Table) (left right set : ℕ)
    (cell : Cheapest) → ((edge : ℕ) → ¬ IsValidHashJoin q left right edge) → left + right ≡ set
    → AreFound q s vector set (plan_in cell)
    → Offered q s vector set (TakesSplit q s vector table set right) cell cell
join_refused q s vector table left right set cell none sum found =
    unchanged q s vector set (TakesSplit q s vector table set right) cell found
    (λ b other edge m n total valid h k. let same : other ≡ left = omega arith in
    absurd (none edge (subst (λ x. IsValidHashJoin q x right edge) same valid)))

pub split_stays : (q : Statement) (s : Statistics) (vector : List ℕ) (table : Table) (set : ℕ)
    → StaysTaken (TakesSplit q s vector table set)
split_stays q s vector table set right before after keeps h sorted left edge m n sum valid k l =
    keeps sorted _ (h sorted left edge m n sum valid k l)

-- The place that comes last.

place_gained : (q : Statement) (s : Statistics) (from place set : ℕ) (step : StepKind) → from + one place ≡ set
    → IsValidStep q s.indexed from step → place_entering step ≡ place → has set place ≡ true
place_gained q s from place set step sum valid enters =
    subst (λ m. has m place ≡ true) sum
    (gained from place (subst (λ p. has from p ≡ false) enters (entering_new q s.indexed from step valid)))

place_alone_in : (place set : ℕ) → one place ≡ set → has set place ≡ true
place_alone_in place set e = subst (λ m. has m place ≡ true)
    (let zero_more : 0 + one place ≡ set = omega arith in zero_more) (gained 0 place (none_in_empty place))

-- a place that isn't in the set
pub place_absent : (q : Statement) (s : Statistics) (vector : List ℕ) (table : Table) (set place : ℕ) (cell : Cheapest)
    → has set place ≡ false → AreFound q s vector set (plan_in cell)
    → Offered q s vector set (TakesPlace q s vector table set place) cell cell
place_absent q s vector table set place cell absent found =
    unchanged q s vector set (TakesPlace q s vector table set place) cell found (record {
      access = λ sorted access valid at alone e. absurd (true≢false (sym (place_alone_in place set alone) ∙ absent));
      step = λ sorted from cost step some sum valid enters h. absurd
          (true≢false (sym (place_gained q s from place set step sum valid enters) ∙ absent));
    })

-- a place that is the whole set
pub place_alone : (q : Statement) (s : Statistics) (vector : List ℕ) (table : Table) (set place : ℕ)
    (before after : Cheapest) → one place ≡ set
    → Offered q s vector (one place) (TakesAll (IsAccessOf q s.indexed place) (TakesAccess q s vector)) before after
    → Offered q s vector set (TakesPlace q s vector table set place) before after
place_alone q s vector table set place before after alone f = record {
  keeps = f.keeps;
  found = subst (λ m. AreFound q s vector m (plan_in after)) alone f.found;
  taken = record {
    access = λ sorted access valid at same e. f.taken access (valid, at) sorted e;
    step = λ sorted from cost step some sum valid enters h. absurd (omega arith);
  };
}

-- a place over the others
pub place_over : (q : Statement) (s : Statistics) (vector : List ℕ) (table : Table) (set place from : ℕ)
    (outer before after : Cheapest) → from + one place ≡ set → 0 < from
    → ((sorted : Bool) → table sorted from ≡ cost_in outer sorted)
    → Offered q s vector (from + one place)
    (TakesAll (IsStepInto q s.indexed from place) (TakesStep q s vector (cost_in outer) from)) before after
    → Offered q s vector set (TakesPlace q s vector table set place) before after
place_over q s vector table set place from outer before after sum some cell f = record {
  keeps = f.keeps;
  found = subst (λ m. AreFound q s vector m (plan_in after)) sum f.found;
  taken = record {
    access = λ sorted access valid at alone e. absurd (omega arith);
    step = λ sorted other cost step there total valid enters h.
        let same : other ≡ from = omega arith in
        let here : IsStepInto q s.indexed from place step =
        (subst (λ m. IsValidStep q s.indexed m step) same valid, enters) in
        let below : AtMost (cost_in outer sorted) cost =
        subst (λ o. AtMost o cost) (ap (λ m. table sorted m) same ∙ cell sorted) h in
        subst (λ m. AtMost (cost_in after sorted) (cost + step_cost q s vector m step)) (sym same)
        (f.taken step here sorted cost below);
  };
}

pub place_stays : (q : Statement) (s : Statistics) (vector : List ℕ) (table : Table) (set : ℕ)
    → StaysTaken (TakesPlace q s vector table set)
place_stays q s vector table set place before after keeps h = record {
  access = λ sorted access valid at alone e. keeps sorted _ (h.access sorted access valid at alone e);
  step = λ sorted from cost step some sum valid enters k. keeps sorted _
      (h.step sorted from cost step some sum valid enters k);
}
