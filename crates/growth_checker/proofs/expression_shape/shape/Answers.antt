-- No selectivity is on both sides of a product, or the lowest bit is the first one that is.
use Rattle.std.proofs.Common.{◌≡◌, ◌^◌, ◌<◌, arith, sym, ap, ◌∙◌}
use Rattle.growth_checker.specs.Expression.{formula}
use Rattle.growth_checker.specs.Sharing.{has}
use Rattle.growth_checker.proofs.Sets.{first_in, has-zero}
use Rattle.growth_checker.proofs.Expansion.{apart_from_unshared, value_expanded, vector_of_expanded}
use Rattle.growth_checker.proofs.expression_shape.shape.Goals as goal

pub returns-then-shared-ne0-clause-shared : goal.returns-then-shared-ne0-clause-shared
returns-then-shared-ne0-clause-shared c = λ i e.
    let mask = c.uses_of-shared.result.shared in
    let small : mask < 2 ^ 8 = omega arith in
    let some : 0 < mask = omega arith in
    let first = first_in mask i some small (cc) in
    record {
      shared = sym (c.uses_of-shared.ensures.shared i) ∙ first.0;
      none_before = λ j h. sym (c.uses_of-shared.ensures.shared j) ∙ first.1 j h;
    }

pub expand-requires-clause-apart : goal.expand-requires-clause-apart
expand-requires-clause-apart c =
    let none : c.uses_of-shared.result.shared ≡ 0 = omega arith in
    apart_from_unshared (formula c.args.e.now) (λ i. sym (c.uses_of-shared.ensures.shared i) ∙ ap (λ m. has m i) none
    ∙ has-zero i)

pub returns-in-Ok-clause-value : goal.returns-in-Ok-clause-value
returns-in-Ok-clause-value c = λ s.
    let none : c.uses_of-shared.result.shared ≡ 0 = omega arith in
    let apart = apart_from_unshared (formula c.args.e.now) (λ i. sym (c.uses_of-shared.ensures.shared i)
    ∙ ap (λ m. has m i) none ∙ has-zero i) in
    rw c.in-Ok.ensures.terms (value_expanded (formula c.args.e.now) s apart)

pub returns-in-Ok-clause-vectors : goal.returns-in-Ok-clause-vectors
returns-in-Ok-clause-vectors c = λ s h. rw c.in-Ok.ensures.terms (vector_of_expanded (formula c.args.e.now) s h)
