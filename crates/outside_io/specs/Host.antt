-- What the adapters of the system know of their reads and writes.
use Rattle.std.specs.Prelude.{ℕ, List, Option}

-- what a shelf of the system counts
pub record Counts : Type 0 where
  pub faults : ℕ
  pub misses : ℕ

-- a sink over a writer: what the writer holds, where it tells that, and the faults so far
pub record Written : Type 0 where
  pub taken : Option (List ℕ)
  pub faults : ℕ
