-- A passed check bounds the cost: two growth laws and the check itself, multiplied up, and what both sides have divided
-- away.
use Rattle.std.proofs.Common.{ℕ, suc, ◌≡◌, ◌≤◌, ◌<◌, ◌+◌, ◌*◌, ◌⊎◌, inl, inr, Bool, true, false, nat_lt, List, [], ◌∷◌}
use Rattle.std.proofs.Common.{All, if◌then◌else◌, refl, arith, mul_assoc, mul_comm, mul-le-mul, mul-le-mul_right}
use Rattle.std.proofs.Common.{add-mul}
use Rattle.std.proofs.lemmas.Bool.{cases_lt}
use Rattle.std.proofs.lemmas.Bool.Decides.{nat_tests}
use Rattle.cost_polynomials.specs.Growth.{grown_to, grown_from, shrunk_to, shrunk_from}
use Rattle.row_values.specs.Statements.{Statement}
use Rattle.plan_trees.specs.Statistics.{Statistics}
use Rattle.plan_trees.specs.Trees.{TopTree}
use Rattle.cost_model.specs.Checks.{PassesSelectivityCheck, PassesCostCheck}
use Rattle.cost_model.specs.Costs.{top_cost}
use Rattle.cost_model.specs.Laws.{IsReuse}
use Rattle.cost_model.proofs.Growth.{top_grows_within}
use Rattle.cost_model.proofs.Products.{one_pick}
use Rattle.cost_model.proofs.LeastGrowth.{least_grows_within}

-- Numbers.

divided_by : (x y g : ℕ) → 1 ≤ g → x * g ≤ y * g → (y < x) ⊎ (x ≤ y) → x ≤ y
divided_by x y g some h (inr less) = less
divided_by x y g some h (inl more) =
    let a : (y + 1) * g ≤ x * g = mul-le-mul_right g (omega arith) in
    let b = add-mul y 1 g in
    absurd (omega arith)

pub divided : (x y g : ℕ) → 1 ≤ g → x * g ≤ y * g → x ≤ y
divided x y g some h = divided_by x y g some h (cases_lt y x)

order_one : (c f g d : ℕ) → c * f * (g * d) ≡ c * d * (f * g)
order_one c f g d = grind (arith, mul_assoc, mul_comm)

order_two : (c t g d : ℕ) → c * t * (g * d) ≡ c * t * g * d
order_two c t g d = grind (arith, mul_assoc, mul_comm)

order_three : (n l f t : ℕ) → n * l * f * t ≡ l * t * (n * f)
order_three n l f t = grind (arith, mul_assoc, mul_comm)

order_four : (l g n f : ℕ) → l * g * (n * f) ≡ n * l * (f * g)
order_four l g n f = grind (arith, mul_assoc, mul_comm)

by_both : (cost before least known f t g k num den : ℕ) → 1 ≤ f → 1 ≤ g → cost * f ≤ before * t → known * k ≤ least * g
    → before * t * g * den ≤ num * known * f * k → cost * den ≤ num * least
by_both cost before least known f t g k num den some more grows shrinks check =
    let a : cost * f * (g * den) ≤ before * t * (g * den) = mul-le-mul_right (g * den) grows in
    let b : known * k * (num * f) ≤ least * g * (num * f) = mul-le-mul_right (num * f) shrinks in
    let e = order_one cost f g den in
    let m = order_two before t g den in
    let n = order_three num known f k in
    let o = order_four least g num f in
    let one : 1 ≤ f * g = mul-le-mul {n₁ = 1} {m₁ = 1} some more in
    divided (cost * den) (num * least) (f * g) one (omega arith)

pub order_five : (c g d : ℕ) → c * g * d ≡ c * d * g
order_five c g d = grind (arith, mul_assoc, mul_comm)

order_six : (n l k : ℕ) → n * l * k ≡ l * k * n
order_six n l k = grind (arith, mul_assoc, mul_comm)

order_seven : (l g n : ℕ) → l * g * n ≡ n * l * g
order_seven l g n = grind (arith, mul_assoc, mul_comm)

by_one : (cost least known g k num den : ℕ) → 1 ≤ g → known * k ≤ least * g → cost * g * den ≤ num * known * k
    → cost * den ≤ num * least
by_one cost least known g k num den more shrinks check =
    let b : known * k * num ≤ least * g * num = mul-le-mul_right num shrinks in
    let e = order_five cost g den in
    let n = order_six num known k in
    let o = order_seven least g num in
    divided (cost * den) (num * least) g more (omega arith)

-- Selectivities.

new_some : (b : Bool) (x y : ℕ) → nat_lt y x ≡ b → 1 ≤ (if b then x else 1)
new_some true x y e = let less : y < x = grind (arith, nat_tests) in omega arith
new_some false x y e = omega arith

from_some : (xs ys : List ℕ) → All (λ n. 1 ≤ n) ys → 1 ≤ grown_from xs ys
from_some [] ys h = omega arith
from_some (x ∷ xs) [] h = omega arith
from_some (x ∷ xs) (y ∷ ys) h =
    mul-le-mul {n₁ = 1} {m₁ = 1} (one_pick (nat_lt y x) y (h 0 y (omega arith)))
    (from_some xs ys (λ k d less. h (suc k) d (omega arith)))

pub to_some : (xs ys : List ℕ) → 1 ≤ grown_to xs ys
to_some [] ys = omega arith
to_some (x ∷ xs) [] = omega arith
to_some (x ∷ xs) (y ∷ ys) = mul-le-mul {n₁ = 1} {m₁ = 1} (new_some (nat_lt y x) x y refl) (to_some xs ys)

-- The checks.

pub selectivity_check_bound : (q : Statement) (s : Statistics) (top : TopTree) (instance anchor : List ℕ)
    (num den least_at_instance least_at_anchor : ℕ) → IsReuse q s top instance anchor least_at_instance least_at_anchor
    → PassesSelectivityCheck num den (top_cost q s anchor top) least_at_anchor anchor instance
    → top_cost q s instance top * den ≤ num * least_at_instance
selectivity_check_bound q s top instance anchor num den least known reuse passes =
    by_both (top_cost q s instance top) (top_cost q s anchor top) least known (grown_from instance anchor)
    (grown_to instance anchor) (shrunk_from instance anchor) (shrunk_to instance anchor) num den
    (from_some instance anchor reuse.anchor_counts) (to_some anchor instance)
    (top_grows_within q s top instance anchor reuse.valid reuse.instance_vector reuse.anchor_vector).grows
    (least_grows_within q s instance anchor least known reuse.instance_vector reuse.anchor_vector reuse.least_there
    reuse.least_known).shrinks passes.at_most

pub cost_check_bound : (q : Statement) (s : Statistics) (top : TopTree) (instance anchor : List ℕ)
    (num den least_at_instance least_at_anchor : ℕ) → IsReuse q s top instance anchor least_at_instance least_at_anchor
    → PassesCostCheck num den (top_cost q s instance top) least_at_anchor anchor instance
    → top_cost q s instance top * den ≤ num * least_at_instance
cost_check_bound q s top instance anchor num den least known reuse passes =
    by_one (top_cost q s instance top) least known (shrunk_from instance anchor) (shrunk_to instance anchor) num den
    (to_some anchor instance)
    (least_grows_within q s instance anchor least known reuse.instance_vector reuse.anchor_vector reuse.least_there
    reuse.least_known).shrinks passes.at_most
