-- The moments of a run: what stands between two lines.
use Rattle.std.specs.Prelude.{ℕ}
use Rattle.session_model.specs.State.{State}

-- between two lines: the session's state, and how many files were missed so far
pub record Moment : Type 0 where
  pub state : State
  pub misses : ℕ

-- the session's state then
abbrev pub state_at : Moment → State
state_at moment = moment.state
