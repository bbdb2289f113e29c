use Rattle.std.proofs.Common.{◌≡◌, ap, length, arith}
use Rattle.row_values.specs.Statements.{kinds_of}
use Rattle.session_engine.proofs.Runs.{few_kinds}
use Rattle.session_engine.proofs.session.prepared.Goals as goal

pub overflow_cast-result-3 : goal.overflow_cast-result-3
overflow_cast-result-3 c =
    let e : length c.kinds.result.now ≡ length (kinds_of c.args.q.now.places c.args.q.now.preds) =
    ap length c.kinds.ensures.value in
    let f = few_kinds c.args.q.now c.kinds.ensures.sound in
    omega arith
