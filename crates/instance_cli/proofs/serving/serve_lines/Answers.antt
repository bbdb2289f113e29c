use Rattle.std.proofs.Common.{◌≡◌, ◌∙◌, arith, refl, ap}
use Rattle.session_model.specs.State.{State, initial_state}
use Rattle.session_engine.specs.Engines.{EngineState}
use Rattle.instance_cli.specs.Moments.{Moment}
use Rattle.instance_cli.proofs.Runs.{lines_next, part_next}
use Rattle.instance_cli.proofs.Served.{none_reported}
use Rattle.instance_cli.proofs.serving.serve_lines.Goals as goal

pub loop-i-init : goal.loop-i-init
loop-i-init g c =
    let state : c.new-engine.result.state ≡ initial_state c.args.settings =
    ap (λ (e : EngineState). e.state) c.new-engine.ensures in
    let steps : c.new-engine.result.steps ≡ 0 = ap (λ (e : EngineState). e.steps) c.new-engine.ensures in
    record {
      same = refl;
      counted = omega arith;
      shelf_faults = omega arith;
      sink_faults = omega arith;
      told = none_reported _ _ _ _
          (ap (λ (s : State). let m : Moment = record { state = s; misses = g.F.Shelf.misses c.args.shelf.now } in m)
          state);
    }

pub loop-i-preserved : goal.loop-i-preserved
loop-i-preserved g c = record {
  same = c.serve_line.ensures.files ∙ c.loop-i.invariant.same;
  counted = omega arith;
  shelf_faults = omega arith;
  sink_faults = omega arith;
  told = lines_next _ _ _ _ _ c.args.lines.now c.loop-i.i _ _ _ _ _ _ _
      (omega arith) c.loop-i.invariant.same c.loop-i.invariant.told c.in-Ok.ensures.ok c.either-refused.ensures;
}

pub returns-in-Err-clause-err : goal.returns-in-Err-clause-err
returns-in-Err-clause-err g c =
    part_next _ _ _ _ _ c.args.lines.now c.loop-i.i _ _ _ _ _ _
    (omega arith) c.loop-i.invariant.same c.loop-i.invariant.told c.in-Err.ensures.err
