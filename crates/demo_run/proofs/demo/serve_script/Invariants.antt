use Rattle.std.proofs.Common.{◌≡◌, ◌≤◌, ◌+◌, length, take}
use Rattle.demo_run.specs.Counting.{Counted}
use Rattle.demo_script.specs.Script.{demo_script}
use Rattle.demo_run.proofs.demo.serve_script.Given as goal

-- a run over the lines so far, and its counts
abbrev pub invariant-loop-line : goal.invariant-loop-line
invariant-loop-line g l = record {
  script : l.line-items ≡ demo_script l.demo;
  count : length l.line-items ≡ l.demo + 8;
  counted : l.engine.steps ≤ l.fn.engine.steps + l.line-index;
  bound : l.summary.executions ≤ l.line-index;
  told : Counted l.fn.engine.state (take l.line-index l.line-items) l.engine.state l.summary;
}
