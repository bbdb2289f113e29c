-- Where a term stands among terms in the order of their masks.
use Rattle.std.specs.Prelude.{ℕ, ◌≡◌, ◌+◌, ◌<◌, ◌≤◌, List, length, slice_index_or, slice_set, insert}
use Rattle.cost_polynomials.specs.Polynomial.{Term, add_term}

-- the set has its term at this position
pub record IsPlaceOf (ts : List Term) (mask position : ℕ) : Type 0 where
  pub within : position < length ts
  pub more : (n : ℕ) → add_term (mask, n) ts ≡ slice_set ts position (mask, n + (slice_index_or ts position (0, 0)).1)

-- the set has no term, and a new one would stand at this position
pub record IsPlaceFor (ts : List Term) (mask position : ℕ) : Type 0 where
  pub within : position ≤ length ts
  pub more : (n : ℕ) → add_term (mask, n) ts ≡ insert ts position (mask, n)
