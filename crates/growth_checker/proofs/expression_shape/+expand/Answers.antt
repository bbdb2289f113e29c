-- A coefficient that is large on the way is large in the end.
use Rattle.std.proofs.lemmas.Result.{err_from_is_err_and}
use Rattle.growth_checker.specs.Expression.{formula}
use Rattle.growth_checker.proofs.Expansion.{large_sum_left, large_sum_right, large_product_left, large_product_right}
use Rattle.growth_checker.proofs.Expansion.{sides_apart}
use Rattle.growth_checker.proofs.expression_shape.+expand.Goals as goal

pub returns-in_err-l-in-Sum-clause-large : goal.returns-in_err-l-in-Sum-clause-large
returns-in_err-l-in-Sum-clause-large t c =
    let p = err_from_is_err_and c.from_residual-in_err-l-in-Sum.result c.from_residual-in_err-l-in-Sum.ensures.1 in
    rw (p.1, p.2, c.in-Sum.is) (λ e. large_sum_left (formula c.in-Sum.left.value) (formula c.in-Sum.right.value)
    (rw c.deref.ensures at (c.in_err-l-in-Sum.ensures.large e)))

pub returns-in_err-r-in-Sum-clause-large : goal.returns-in_err-r-in-Sum-clause-large
returns-in_err-r-in-Sum-clause-large t c =
    let p = err_from_is_err_and c.from_residual-in_err-r-in-Sum.result c.from_residual-in_err-r-in-Sum.ensures.1 in
    rw (p.1, p.2, c.in-Sum.is) (λ e. large_sum_right (formula c.in-Sum.left.value) (formula c.in-Sum.right.value)
    (rw c.deref-in-Sum.ensures at (c.in_err-r-in-Sum.ensures.large e)))

pub returns-in_err-l-in-Mul-clause-large : goal.returns-in_err-l-in-Mul-clause-large
returns-in_err-l-in-Mul-clause-large t c =
    let p = err_from_is_err_and c.from_residual-in_err-l-in-Mul.result c.from_residual-in_err-l-in-Mul.ensures.1 in
    rw (p.1, p.2, c.in-Mul.is) (λ e. large_product_left (formula c.in-Mul.left.value) (formula c.in-Mul.right.value)
    (rw c.in-Mul.is at c.requires.sound).1 (rw c.deref-in-Mul.ensures at (c.in_err-l-in-Mul.ensures.large e)))

pub returns-in_err-r-in-Mul-clause-large : goal.returns-in_err-r-in-Mul-clause-large
returns-in_err-r-in-Mul-clause-large t c =
    let p = err_from_is_err_and c.from_residual-in_err-r-in-Mul.result c.from_residual-in_err-r-in-Mul.ensures.1 in
    rw (p.1, p.2, c.in-Mul.is) (λ e. large_product_right (formula c.in-Mul.left.value) (formula c.in-Mul.right.value)
    (rw c.in-Mul.is at c.requires.sound).0 (rw c.deref-in-Mul-2.ensures at (c.in_err-r-in-Mul.ensures.large e)))

pub mul_disjoint-requires : goal.mul_disjoint-requires
mul_disjoint-requires t c =
    rw (
      c.in_ok-l-in-Mul.ensures.terms,
      c.in_ok-r-in-Mul.ensures.terms,
      c.deref-in-Mul.ensures,
      c.deref-in-Mul-2.ensures,
    )
    (sides_apart (formula c.in-Mul.left.value) (formula c.in-Mul.right.value) (rw c.in-Mul.is at c.requires.apart).2)
