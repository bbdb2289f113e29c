use Rattle.std.proofs.Common.{◌≡◌, ◌≤◌, take, map}
use Rattle.session_model.specs.Run.{spoken_from}
use Rattle.session_model.specs.State.{initial_state}
use Rattle.instance_cli.specs.Lines.{Reported}
use Rattle.instance_cli.specs.Moments.{Moment}
use Rattle.instance_cli.proofs.serving.serve_lines.Given as goal

-- what was written is the report of a run over the lines so far
abbrev pub invariant-loop-i : goal.invariant-loop-i
invariant-loop-i g l =
    let files = g.F.Shelf.files in
    let misses = g.F.Shelf.misses in
    let taken = g.K.Sink.taken in
    let first : Moment = record { state = initial_state l.fn.settings; misses = misses l.fn.shelf } in
    let last : Moment = record { state = l.engine.state; misses = misses l.shelf } in
    record {
      same : files l.shelf ≡ files l.fn.shelf;
      counted : l.engine.steps ≤ l.i;
      shelf_faults : g.F.Shelf.faults l.fn.shelf ≤ g.F.Shelf.faults l.shelf;
      sink_faults : g.K.Sink.faults l.fn.sink ≤ g.K.Sink.faults l.sink;
      told : Reported (files l.fn.shelf) (taken l.fn.sink) (taken l.sink) first
          (spoken_from 1 (map (λ line. line.now) (take l.i l.lines))) last l.refused;
    }
