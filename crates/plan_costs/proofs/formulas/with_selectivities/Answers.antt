use Rattle.std.proofs.Common.{ℕ, ◌≡◌, ◌≤◌, ◌<◌, ◌+◌, true, false, List, ◌∷◌, length, drop, slice_index_or}
use Rattle.std.proofs.Common.{if◌then◌else◌, ap, sym, ◌∙◌, refl, arith}
use Rattle.std.proofs.lemmas.List.{drop_more}
use Rattle.row_values.specs.Statements.{is_parameterised, selectivity_count}
use Rattle.row_values.specs.declared.statement.TheConstants.{SELECTIVITY_LIMIT}
use Rattle.row_values.specs.declared.statement.Pred.{Pred}
use Rattle.plan_trees.specs.PlaceSets.{has}
use Rattle.plan_trees.specs.Statistics.{selectivity_places}
use Rattle.growth_checker.specs.Expression.{Formula, Times, Selectivity, formula}
use Rattle.plan_costs.specs.Formulas.{selected}
use Rattle.plan_costs.proofs.Factors.{count_at}
use Rattle.plan_costs.proofs.formulas.with_selectivities.Goals as goal
use Rattle.plan_costs.proofs.formulas.with_selectivities.Goals.{then-is_parameterised+in_ok-made, else-is_parameterised}

left : (i : ℕ) (pred : Pred) (preds : List Pred) → i < length preds → pred ≡ slice_index_or preds i pred
    → drop i preds ≡ pred ∷ drop (i + 1) preds
left i pred preds less here = drop_more preds i pred less ∙ ap (λ p. p ∷ drop (i + 1) preds) (sym here)

parameterised : (set next : ℕ) (f : Formula) (pred : Pred) (preds : List Pred) → is_parameterised pred ≡ true
    → selected set next f (selectivity_places (pred ∷ preds)) ≡ selected set (next + 1)
    (if has set pred.at.place then Times f (Selectivity next) else f) (selectivity_places preds)
parameterised set next f pred preds e = rw e refl

fixed : (set next : ℕ) (f : Formula) (pred : Pred) (preds : List Pred) → is_parameterised pred ≡ false
    → selected set next f (selectivity_places (pred ∷ preds)) ≡ selected set next f (selectivity_places preds)
fixed set next f pred preds e = rw e refl

with_one : (set i next : ℕ) (f g whole : Formula) (pred : Pred) (preds : List Pred) → i < length preds
    → pred ≡ slice_index_or preds i pred → is_parameterised pred ≡ true
    → g ≡ (if has set pred.at.place then Times f (Selectivity next) else f)
    → (next + selectivity_count (drop i preds) ≤ SELECTIVITY_LIMIT)
    × (selected set next f (selectivity_places (drop i preds)) ≡ whole)
    → (next + 1 + selectivity_count (drop (i + 1) preds) ≤ SELECTIVITY_LIMIT)
    × (selected set (next + 1) g (selectivity_places (drop (i + 1) preds)) ≡ whole)
with_one set i next f g whole pred preds less here e same inv =
    let count : selectivity_count (drop i preds) ≡ 1 + selectivity_count (drop (i + 1) preds) =
    count_at i pred preds less here ∙ ap (λ b. (if b then 1 else 0) + selectivity_count (drop (i + 1) preds)) e in
    let room = inv.0 in (
      omega arith,
      ap (λ h. selected set (next + 1) h (selectivity_places (drop (i + 1) preds))) same
          ∙ sym (parameterised set next f pred (drop (i + 1) preds) e)
          ∙ sym (ap (λ ps. selected set next f (selectivity_places ps)) (left i pred preds less here)) ∙ inv.1,
    )

without : (set i next : ℕ) (f whole : Formula) (pred : Pred) (preds : List Pred) → i < length preds
    → pred ≡ slice_index_or preds i pred → is_parameterised pred ≡ false
    → (next + selectivity_count (drop i preds) ≤ SELECTIVITY_LIMIT)
    × (selected set next f (selectivity_places (drop i preds)) ≡ whole)
    → (next + selectivity_count (drop (i + 1) preds) ≤ SELECTIVITY_LIMIT)
    × (selected set next f (selectivity_places (drop (i + 1) preds)) ≡ whole)
without set i next f whole pred preds less here e inv =
    let count : selectivity_count (drop i preds) ≡ 0 + selectivity_count (drop (i + 1) preds) =
    count_at i pred preds less here ∙ ap (λ b. (if b then 1 else 0) + selectivity_count (drop (i + 1) preds)) e in
    let room = inv.0 in (
      omega arith,
      sym (fixed set next f pred (drop (i + 1) preds) e)
          ∙ sym (ap (λ ps. selected set next f (selectivity_places ps)) (left i pred preds less here)) ∙ inv.1,
    )

pub overflow_add-next : goal.overflow_add-next
overflow_add-next c = let room = c.loop-pred.invariant.0 in omega arith

pub loop-pred-preserved : goal.loop-pred-preserved
loop-pred-preserved c = elim c.if-is_parameterised.branch [
  | then-is_parameterised+in_ok-made w ↦
      rw (w.made-is, w.next-is)
      (with_one c.args.set c.loop-pred.pred-index c.loop-pred.next (formula c.loop-pred.made)
      (formula w.in_ok-made.made) _ c.pred-item.result c.args.preds.now c.loop-pred-test.true c.pred-item.is
      (sym c.is_parameterised.ensures ∙ w.if-is_parameterised.true) w.in_ok-made.ensures c.loop-pred.invariant)
  | else-is_parameterised w ↦
      rw (w.made-is, w.next-is)
      (without c.args.set c.loop-pred.pred-index c.loop-pred.next
      (formula c.loop-pred.made) _ c.pred-item.result c.args.preds.now c.loop-pred-test.true c.pred-item.is
      (sym c.is_parameterised.ensures ∙ w.if-is_parameterised.false) c.loop-pred.invariant)
]
