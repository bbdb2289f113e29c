-- A coefficient that is large on the way is large in the end.
use Rattle.std.proofs.Common.{arith}
use Rattle.std.proofs.lemmas.Result.{err_from_is_err_and}
use Rattle.cost_polynomials.proofs.Terms.{kept_large}
use Rattle.cost_polynomials.proofs.gathering.put_terms.Goals as goal

pub returns-in_err-put_term-clause-large : goal.returns-in_err-put_term-clause-large
returns-in_err-put_term-clause-large c =
    let p = err_from_is_err_and c.from_residual.result c.from_residual.ensures.1 in
    rw (p.1, p.2) (λ e. kept_large c.args.more.now _ _ c.loop-mask.mask-index (0, 0)
    (omega arith) c.loop-mask.invariant.so_far (c.in_err-put_term.ensures.large e))
