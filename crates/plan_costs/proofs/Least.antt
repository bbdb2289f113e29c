-- The cheapest accesses, and the cheapest steps.
use Rattle.std.proofs.Common.{ℕ, ◌≡◌, ◌≤◌, ◌<◌, ◌+◌, ◌*◌, ◌⊎◌, inl, inr, false, List, [], ◌∷◌, ◌++◌, length, slice_get}
use Rattle.std.proofs.Common.{slice_index_or, Option, Some, None, IsSomeAnd, refl, ap, sym, ◌∙◌, subst, arith}
use Rattle.std.proofs.Common.{mul-le-mul_left}
use Rattle.std.proofs.lemmas.List.{get_or_append_left, get_or_push, length_push}
use Rattle.std.proofs.lemmas.Option.{slice_get_within}
use Rattle.row_values.specs.Statements.{Statement}
use Rattle.row_values.specs.declared.statement.Edge.{Edge}
use Rattle.plan_trees.specs.declared.plans.StepKind.{StepKind}
use Rattle.plan_trees.specs.declared.plans.StepKind.TheVariants.{Loop, Probe}
use Rattle.plan_trees.specs.Lists.{IsStepInto}
use Rattle.plan_trees.specs.PlaceSets.{has, one}
use Rattle.plan_trees.specs.Statistics.{Statistics}
use Rattle.plan_trees.specs.Trees.{place_entering}
use Rattle.cost_model.specs.Cardinalities.{card_of}
use Rattle.cost_model.specs.Costs.{step_cost}
use Rattle.plan_costs.specs.Units.{unit_of_step}
use Rattle.plan_costs.proofs.StepParts.{step_by_parts}
use Rattle.plan_costs.specs.declared.cheapest_accesses.PricedAccess.{PricedAccess}
use Rattle.plan_costs.specs.declared.cheapest_steps.PricedStep.{PricedStep}
use Rattle.plan_costs.specs.Least.{AreLeastAccesses, IsLeastAccess, IsLeastStep, IsPricedAccess, IsPricedStep}
use Rattle.plan_trees.proofs.ListLaws.{below_next}

-- Accesses.

pub one_of_accesses : (q : Statement) (s : Statistics) (vector : List ℕ) (place : ℕ) (best other result : PricedAccess)
    → (result ≡ best) ⊎ (result ≡ other) → IsPricedAccess q s vector place best
    → IsPricedAccess q s vector place other → IsPricedAccess q s vector place result
one_of_accesses q s vector place best other result (inl e) h k =
    subst (λ x. IsPricedAccess q s vector place x) (sym e) h
one_of_accesses q s vector place best other result (inr e) h k =
    subst (λ x. IsPricedAccess q s vector place x) (sym e) k

pushed_by : (q : Statement) (s : Statistics) (vector : List ℕ) (count place : ℕ) (list : List PricedAccess)
    (least other : PricedAccess) → AreLeastAccesses q s vector count list → IsLeastAccess q s vector count least
    → (place < count) ⊎ (place ≡ count)
    → IsLeastAccess q s vector place (slice_index_or (list ++ least ∷ []) place other)
pushed_by q s vector count place list least other h k (inl less) =
    let e = h.one_each in
    subst (λ x. IsLeastAccess q s vector place x)
    (sym (get_or_append_left list (least ∷ []) other place (omega arith))) (h.each place other less)
pushed_by q s vector count place list least other h k (inr same) =
    subst (λ n. IsLeastAccess q s vector n (slice_index_or (list ++ least ∷ []) n other)) (sym same)
    (subst (λ x. IsLeastAccess q s vector count x) (sym (get_or_push list least other count h.one_each)) k)

pub least_pushed : (q : Statement) (s : Statistics) (vector : List ℕ) (count : ℕ) (list : List PricedAccess)
    (least : PricedAccess) → AreLeastAccesses q s vector count list → IsLeastAccess q s vector count least
    → AreLeastAccesses q s vector (count + 1) (list ++ least ∷ [])
least_pushed q s vector count list least h k = record {
  one_each = length_push list least ∙ ap (λ n. n + 1) h.one_each;
  each = λ place other less. pushed_by q s vector count place list least other h k (below_next place count less);
}

-- Steps.

-- the nested loop by the cheapest access
pub loop_priced : (q : Statement) (s : Statistics) (vector : List ℕ) (from place : ℕ) (least : PricedAccess)
    → has from place ≡ false → IsLeastAccess q s vector place least
    → IsPricedStep q s vector from place (record { step = Loop least.access; unit = least.unit })
loop_priced q s vector from place least absent h = record {
  valid = (
    (h.priced.valid.0, subst (λ p. has from p ≡ false) (sym h.priced.valid.1) absent),
    h.priced.valid.1,
  );
  unit = h.priced.unit;
}

edge_there : (o : Option Edge) (edges : List Edge) (edge : ℕ) (P : Edge → Type 0) → slice_get edges edge ≡ o
    → IsSomeAnd o P → edge < length edges
edge_there None edges edge P e h = absurd h
edge_there (Some found) edges edge P e h = slice_get_within edges edge found e

below_step : (q : Statement) (s : Statistics) (vector : List ℕ) (from place count : ℕ) (least : PricedAccess)
    (best : PricedStep) (other : StepKind) → IsLeastAccess q s vector place least → best.unit ≤ least.unit
    → length q.edges ≤ count
    → ((edge : ℕ) → edge < count → IsStepInto q s.indexed from place (Probe place edge)
    → best.unit ≤ unit_of_step q s vector (Probe place edge)) → IsStepInto q s.indexed from place other
    → best.unit ≤ unit_of_step q s vector other
below_step q s vector from place count least best (Loop access) a below whole each h =
    let k = a.below_all access (h.0.0, h.1) in omega arith
below_step q s vector from place count least best (Probe t edge) a below whole each h =
    let less = edge_there (slice_get q.edges edge) q.edges edge _ refl h.0.2 in
    let here : IsStepInto q s.indexed from place (Probe place edge) =
    subst (λ p. IsStepInto q s.indexed from place (Probe p edge)) h.1 h in
    subst (λ p. best.unit ≤ unit_of_step q s vector (Probe p edge)) (sym h.1) (each edge (omega arith) here)

-- the best of the loop and of all look-ups is the best of all steps
pub least_of_steps : (q : Statement) (s : Statistics) (vector : List ℕ) (from place count : ℕ) (least : PricedAccess)
    (best : PricedStep) → IsLeastAccess q s vector place least → IsPricedStep q s vector from place best
    → best.unit ≤ least.unit → length q.edges ≤ count
    → ((edge : ℕ) → edge < count → IsStepInto q s.indexed from place (Probe place edge)
    → best.unit ≤ unit_of_step q s vector (Probe place edge)) → IsLeastStep q s vector from place best.step
least_of_steps q s vector from place count least best a priced below whole each = record {
  valid = priced.valid;
  below_all = λ other h. subst (λ n. n ≤ unit_of_step q s vector other) priced.unit
      (below_step q s vector from place count least best other a below whole each h);
}

-- of two steps into one place the one that does less costs no more
pub no_dearer : (q : Statement) (s : Statistics) (vector : List ℕ) (from place : ℕ) (step other : StepKind)
    → place_entering step ≡ place → place_entering other ≡ place
    → unit_of_step q s vector step ≤ unit_of_step q s vector other
    → step_cost q s vector from step ≤ step_cost q s vector from other
no_dearer q s vector from place step other e f h =
    let first : card_of q s vector from * unit_of_step q s vector step
    + s.weights.out * card_of q s vector (from + one place) ≡ step_cost q s vector from step =
    step_by_parts q s vector from step _ _ _ refl refl (ap (λ p. card_of q s vector (from + one p)) (sym e)) in
    let second : card_of q s vector from * unit_of_step q s vector other
    + s.weights.out * card_of q s vector (from + one place) ≡ step_cost q s vector from other =
    step_by_parts q s vector from other _ _ _ refl refl (ap (λ p. card_of q s vector (from + one p)) (sym f)) in
    let more : card_of q s vector from * unit_of_step q s vector step
    ≤ card_of q s vector from * unit_of_step q s vector other = mul-le-mul_left (card_of q s vector from) h in
    omega arith
