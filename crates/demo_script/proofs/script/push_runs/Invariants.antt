use Rattle.std.proofs.Common.{◌≡◌, ◌*◌, ◌++◌}
use Rattle.demo_script.specs.Draws.{after}
use Rattle.demo_script.specs.Script.{run_lines}
use Rattle.demo_script.proofs.script.push_runs.Given as goal

-- the runs so far
abbrev pub invariant-loop-before : goal.invariant-loop-before
invariant-loop-before l = record {
  runs : l.lines.items ≡ l.fn.lines.items ++ run_lines l.before l.fn.draws;
  draws : l.draws ≡ after (3 * l.before) l.fn.draws;
}
