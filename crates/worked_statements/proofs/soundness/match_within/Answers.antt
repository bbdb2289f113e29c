use Rattle.std.proofs.Common.{rules, arith}
use Rattle.std.proofs.lemmas.Option.{slice_get_within}
use Rattle.worked_statements.proofs.Fits.{match_next}
use Rattle.worked_statements.proofs.soundness.match_within.Goals as goal

pub loop-j-preserved : goal.loop-j-preserved
loop-j-preserved c =
    match_next c.args.preds.now c.args.rows.now c.args.matching.now c.loop-j.j c.index-preds-j.result c.loop-j-test.true
    c.index-preds-j.is (search rules) c.loop-j.invariant

pub returns : goal.returns
returns c _ j pred there =
    let inside = slice_get_within c.args.preds.now j pred there in
    c.loop-j.invariant j pred (omega arith) there
