use Rattle.growth_checker.specs.Expression.{formula, IsSound}
use Rattle.bench_polynomials.proofs.cost.Given as goal

abbrev pub invariant-loop-i : goal.invariant-loop-i
invariant-loop-i l = IsSound (formula l.last.value)

abbrev pub invariant-loop-i-2 : goal.invariant-loop-i-2
invariant-loop-i-2 l = IsSound (formula l.all.value)
