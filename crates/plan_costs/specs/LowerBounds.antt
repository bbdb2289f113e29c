-- What potentials are seen as.
use Rattle.std.specs.Prelude.{ℕ, List}
use Rattle.plan_costs.specs.declared.potentials.Cell.{Cell}

-- a number for each set of places, by a list of cells, and the number that no valid top is said to undercut
pub record LowerBounds : Type 0 where
  pub cells : List Cell
  pub least : ℕ
