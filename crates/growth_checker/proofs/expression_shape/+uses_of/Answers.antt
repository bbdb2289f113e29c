-- The sets of a sum and of a product, from the sets of the sides.
use Rattle.std.proofs.Common.{◌<◌}
use Rattle.growth_checker.proofs.Sets.{union_has, common_has, has-one, shifted_one}
use Rattle.growth_checker.proofs.expression_shape.+uses_of.Goals as goal

pub returns-in-Sel-clause-present : goal.returns-in-Sel-clause-present
returns-in-Sel-clause-present t c = λ i.
    let inside : c.in-Sel.i < 8 = rw c.in-Sel.is at c.requires in
    rw (shifted_one c.in-Sel.i inside, c.in-Sel.is) (has-one c.in-Sel.i i)

pub returns-in-Sum-clause-present : goal.returns-in-Sum-clause-present
returns-in-Sum-clause-present t c = λ i.
    rw c.in-Sum.is (union_has _ _ i _ _ (rw c.deref.ensures at (c.uses_of-l.ensures.present i))
    (rw c.deref-in-Sum.ensures at (c.uses_of-r.ensures.present i)))

pub returns-in-Sum-clause-shared : goal.returns-in-Sum-clause-shared
returns-in-Sum-clause-shared t c = λ i.
    rw c.in-Sum.is (union_has _ _ i _ _ (rw c.deref.ensures at (c.uses_of-l.ensures.shared i))
    (rw c.deref-in-Sum.ensures at (c.uses_of-r.ensures.shared i)))

pub returns-in-Mul-clause-present : goal.returns-in-Mul-clause-present
returns-in-Mul-clause-present t c = λ i.
    rw c.in-Mul.is (union_has _ _ i _ _ (rw c.deref-in-Mul.ensures at (c.uses_of-l-in-Mul.ensures.present i))
    (rw c.deref-in-Mul-2.ensures at (c.uses_of-r-in-Mul.ensures.present i)))

pub returns-in-Mul-clause-shared : goal.returns-in-Mul-clause-shared
returns-in-Mul-clause-shared t c = λ i.
    let l = c.uses_of-l-in-Mul.ensures in
    let r = c.uses_of-r-in-Mul.ensures in
    rw c.in-Mul.is
    (union_has _ _ i _ _
    (union_has _ _ i _ _ (rw c.deref-in-Mul.ensures at (l.shared i)) (rw c.deref-in-Mul-2.ensures at (r.shared i)))
    (common_has _ _ i _ _ (rw c.deref-in-Mul.ensures at (l.present i)) (rw c.deref-in-Mul-2.ensures at (r.present i))))
