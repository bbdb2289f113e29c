-- The checks as tests.
use Rattle.std.proofs.Common.{ℕ, ◌≡◌, ◌*◌, ◌^◌, nat_lt, nat_le, ◌&&◌, true, false, List, Some, sym, subst}
use Rattle.std.specs.Prelude.{IsTrue, ◌↔◌}
use Rattle.std.specs.Option.{option_map_or}
use Rattle.std.proofs.lemmas.Bool.{and_parts, and_from, ltb-true, leb-true, lt-ltb, le-leb}
use Rattle.fraction_math.specs.Fraction.{Fraction}
use Rattle.cost_polynomials.specs.Growth.{grown_to, grown_from, shrunk_to, shrunk_from}
use Rattle.row_values.specs.Statements.{Statement}
use Rattle.plan_trees.specs.Statistics.{Statistics}
use Rattle.plan_trees.specs.Trees.{TopTree}
use Rattle.fraction_math.specs.Product.{IsAtMost}
use Rattle.cost_model.specs.Checks.{PassesSelectivityCheck, PassesCostCheck}
use Rattle.cost_model.specs.Costs.{top_cost}
use Rattle.cache_model.specs.Caches.{Anchor, CachedPlan, top_numbered}
use Rattle.cache_model.specs.Choices.{is_at_most, is_cheap_enough, passes_cost_check, passes_selectivity_check}

fits_to : (left right : ℕ) → is_at_most left right ≡ true → IsAtMost left right
fits_to left right h =
    let both = and_parts (nat_lt left (2 ^ 128) && nat_lt right (2 ^ 128)) (nat_le left right) h in
    let each = and_parts (nat_lt left (2 ^ 128)) (nat_lt right (2 ^ 128)) both.0 in
    record {
      left_fits = ltb-true left (2 ^ 128) each.0;
      right_fits = ltb-true right (2 ^ 128) each.1;
      at_most =
          leb-true left right both.1;
    }

fits_from : (left right : ℕ) → IsAtMost left right → is_at_most left right ≡ true
fits_from left right h =
    and_from (nat_lt left (2 ^ 128) && nat_lt right (2 ^ 128)) (nat_le left right)
    (and_from (nat_lt left (2 ^ 128)) (nat_lt right (2 ^ 128)) (lt-ltb left (2 ^ 128) h.left_fits)
    (lt-ltb right (2 ^ 128) h.right_fits)) (le-leb left right h.at_most)

pub fits : (left right : ℕ) → IsTrue (is_at_most left right) ↔ IsAtMost left right
fits left right = (fits_to left right, fits_from left right)

pub selectivity_tells : (lambda : Fraction) (instance : List ℕ) (anchor : Anchor)
    → IsTrue (passes_selectivity_check lambda instance anchor)
    ↔ PassesSelectivityCheck lambda.num lambda.den anchor.plan_cost anchor.least anchor.at instance
selectivity_tells lambda instance anchor =
    fits (anchor.plan_cost * grown_to instance anchor.at * shrunk_from instance anchor.at * lambda.den)
    (lambda.num * anchor.least * grown_from instance anchor.at * shrunk_to instance anchor.at)

pub cost_tells : (q : Statement) (s : Statistics) (lambda : Fraction) (instance : List ℕ) (plans : List CachedPlan)
    (anchor : Anchor) (top : TopTree) → top_numbered plans anchor.plan ≡ Some top
    → IsTrue (passes_cost_check q s lambda instance plans anchor)
    ↔ PassesCostCheck lambda.num lambda.den (top_cost q s instance top) anchor.least anchor.at instance
cost_tells q s lambda instance plans anchor top there =
    subst (λ o. IsTrue (option_map_or (λ t. is_cheap_enough lambda instance anchor (top_cost q s instance t)) o false)
    ↔ PassesCostCheck lambda.num lambda.den (top_cost q s instance top) anchor.least anchor.at instance) (sym there)
    (fits (top_cost q s instance top * shrunk_from instance anchor.at * lambda.den)
    (lambda.num * anchor.least * shrunk_to instance anchor.at))
