use Rattle.std.proofs.Common.{◌≡◌, ◌<◌, ◌-◌, drop, take}
use Rattle.session_engine.specs.Cursors.{lines_of}
use Rattle.session_engine.proofs.waiting.lines_between.Given as goal

-- the lines of the rows so far; none where the end lies before the first
abbrev pub invariant-loop-i : goal.invariant-loop-i
invariant-loop-i l =
    (l.lines ≡ take (l.i - l.first) (drop l.first (lines_of l.q l.rows))) × (l.end < l.first → l.i ≡ l.first)
