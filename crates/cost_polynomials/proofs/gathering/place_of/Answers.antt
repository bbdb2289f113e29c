-- The masks passed are lower; the one at the position decides.
use Rattle.std.proofs.Common.{arith}
use Rattle.cost_polynomials.proofs.Terms.{place_more, place_same, place_below}
use Rattle.cost_polynomials.proofs.gathering.place_of.Goals as goal

pub returns-then-mask-other-clause-found : goal.returns-then-mask-other-clause-found
returns-then-mask-other-clause-found c = record {
  within = omega arith;
  more = λ n. place_same c.args.terms.now (c.args.mask, n) (0, 0) c.loop-i.i (omega arith) (omega arith)
      (c.loop-i.invariant n);
}

pub returns-then-mask-other-2-clause-new : goal.returns-then-mask-other-2-clause-new
returns-then-mask-other-2-clause-new c = record {
  within = omega arith;
  more = λ n. place_below c.args.terms.now (c.args.mask, n) (0, 0) c.loop-i.i (omega arith) (omega arith)
      (c.loop-i.invariant n);
}

pub loop-i-preserved : goal.loop-i-preserved
loop-i-preserved c = λ n. place_more c.args.terms.now (c.args.mask, n) (0, 0) c.loop-i.i (omega arith) (omega arith)
    (c.loop-i.invariant n)
