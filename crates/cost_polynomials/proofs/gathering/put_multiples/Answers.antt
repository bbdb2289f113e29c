-- A coefficient that is large on the way is large in the end.
use Rattle.std.proofs.Common.{ℕ, ◌<◌, ◌≤◌, arith, get_or, subst, bit_or}
use Rattle.cost_polynomials.specs.Polynomial.{add_term, times_term, HasLarge}
use Rattle.std.proofs.lemmas.Result.{err_from_is_err_and}
use Rattle.cost_polynomials.proofs.Terms.{kept_large_multiple, large_add_new}
use Rattle.cost_polynomials.proofs.gathering.put_multiples.Goals as goal

not_below : (a b : ℕ) → (a < b → ⊥) → b ≤ a
not_below a b h = omega arith

pub returns-in-None-clause-large : goal.returns-in-None-clause-large
returns-in-None-clause-large c = λ _.
    kept_large_multiple (times_term (c.args.mask, c.args.coefficient)) c.args.factors.now _ _ c.loop-other.other-index
    (0, 0) (omega arith) c.loop-other.invariant.so_far
    (large_add_new (times_term (c.args.mask, c.args.coefficient) (get_or c.args.factors.now c.loop-other.other-index
    (0, 0))) c.loop-other.terms.items (not_below _ _ c.in-None.ensures))

pub returns-in_err-put_term-in-Some-clause-large :
    goal.returns-in_err-put_term-in-Some-clause-large
returns-in_err-put_term-in-Some-clause-large c =
    let p = err_from_is_err_and c.from_residual.result c.from_residual.ensures.1 in
    rw (p.1, p.2) (λ e. kept_large_multiple (times_term (c.args.mask, c.args.coefficient)) c.args.factors.now _ _
    c.loop-other.other-index (0, 0) (omega arith) c.loop-other.invariant.so_far
    (subst (λ (n : ℕ).
    HasLarge (add_term (bit_or c.args.mask (get_or c.args.factors.now c.loop-other.other-index (0, 0)).0, n)
    c.loop-other.terms.items)) c.in-Some.ensures.1 (c.in_err-put_term-in-Some.ensures.large e)))
