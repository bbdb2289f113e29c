-- The least cost grows by no more than the selectivities: so does the cost of the plan that is least elsewhere.
use Rattle.std.proofs.Common.{ℕ, ◌≡◌, ◌≤◌, ◌*◌, List, subst, mul-le-mul_right, le_trans}
use Rattle.row_values.specs.Statements.{Statement}
use Rattle.plan_trees.specs.Statistics.{Statistics}
use Rattle.cost_polynomials.specs.Growth.{grown_to, grown_from, shrunk_to, shrunk_from}
use Rattle.cost_model.specs.Costs.{top_cost}
use Rattle.cost_model.specs.Laws.{GrowsWithin, IsVectorOf}
use Rattle.cost_model.specs.LeastCost.{IsLeastCost}
use Rattle.cost_model.proofs.Growth.{top_grows_within}

least_below : (least cost u bound v other : ℕ) → least ≤ cost → cost * u ≤ other * v → other ≡ bound
    → least * u ≤ bound * v
least_below least cost u bound v other h g e = subst (λ n. least * u ≤ n * v) e (le_trans (mul-le-mul_right u h) g)

pub least_grows_within : (q : Statement) (s : Statistics) (instance anchor : List ℕ) (a b : ℕ) → IsVectorOf q instance
    → IsVectorOf q anchor
    → IsLeastCost q s instance a → IsLeastCost q s anchor b → GrowsWithin instance anchor a b
least_grows_within q s instance anchor a b e f h k =
    let there = k.reached.top in
    let here = h.reached.top in
    record {
      grows = least_below a (top_cost q s instance there) (grown_from instance anchor) b (grown_to instance anchor)
          (top_cost q s anchor there) (h.below_all there k.reached.valid)
          (top_grows_within q s there instance anchor k.reached.valid e f).grows k.reached.costs;
      shrinks = least_below b (top_cost q s anchor here) (shrunk_to instance anchor) a (shrunk_from instance anchor)
          (top_cost q s instance here) (k.below_all here h.reached.valid)
          (top_grows_within q s here instance anchor h.reached.valid e f).shrinks h.reached.costs;
    }
