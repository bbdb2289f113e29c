-- Each number is moved from what is left to what was multiplied, where its selectivity is in the set.
use Rattle.std.proofs.Common.{ℕ, ◌*◌, ◌<◌, ◌≤◌, arith, refl, ap, ◌∙◌}
use Rattle.cost_polynomials.proofs.Evaluation.{counted, counted_next, odd_step, even_step, term_too_large}
use Rattle.cost_polynomials.proofs.polynomial.term_value.Goals as goal
use Rattle.cost_polynomials.proofs.polynomial.term_value.Goals.{then-rest-eq1+in-Some, else-rest-eq1}

not_below : (a b : ℕ) → (a < b → ⊥) → b ≤ a
not_below a b h = omega arith

pub loop-n-init : goal.loop-n-init
loop-n-init c = record {
  so_far = refl;
  counted = counted c.args.mask c.args.s.now c.requires.numbers;
}

pub returns-in-None : goal.returns-in-None
returns-in-None c = record {
  value = term_too_large c.loop-n.rest c.loop-n.value _ c.args.s.now c.loop-n.n-index (omega arith) c.if-rest-eq1.true
      c.loop-n.invariant.counted c.loop-n.invariant.so_far (rw c.from.ensures at (not_below _ _ c.in-None.ensures));
}

pub loop-n-preserved : goal.loop-n-preserved
loop-n-preserved c = record {
  so_far = elim c.if-rest-eq1.branch [
    | then-rest-eq1+in-Some w ↦ odd_step c.loop-n.rest c.loop-n.value c.if-rest-eq1.value _ c.args.s.now
        c.loop-n.n-index (omega arith) w.if-rest-eq1.true (w.value-is ∙ w.in-Some.ensures.1
        ∙ ap (λ n. c.loop-n.value * n) w.from.ensures) c.loop-n.invariant.so_far
    | else-rest-eq1 w ↦ rw w.value-is (even_step c.loop-n.rest c.loop-n.value _ c.args.s.now c.loop-n.n-index
        (omega arith) w.if-rest-eq1.false c.loop-n.invariant.so_far)
  ];
  counted = counted_next c.loop-n.rest c.args.s.now c.loop-n.n-index (omega arith) c.loop-n.invariant.counted;
}
