-- The masks passed are lower, so a term of this set goes behind their terms.
use Rattle.std.proofs.Common.{ℕ, ◌≡◌, ◌++◌, take, drop}
use Rattle.cost_polynomials.specs.Polynomial.{add_term}
use Rattle.cost_polynomials.proofs.gathering.place_of.Given as goal

abbrev pub invariant-loop-i : goal.invariant-loop-i
invariant-loop-i l = (n : ℕ) → add_term (l.mask, n) l.terms
    ≡ take l.i l.terms ++ add_term (l.mask, n) (drop l.i l.terms)
