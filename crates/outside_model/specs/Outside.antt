-- The outside at one moment: what is told of it, and its counts.
use Rattle.std.specs.Prelude.{ℕ, List, Option}
use Rattle.outside_model.specs.Files.{Files}

-- the files of the shelf and what the sink has taken, where they are told; the shelf's counts, and that of the sink
pub record Outside : Type 0 where
  pub files : Option Files
  pub taken : Option (List ℕ)
  pub faults : ℕ
  pub misses : ℕ
  pub sink_faults : ℕ
