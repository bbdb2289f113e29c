use Rattle.std.proofs.Common.{◌∙◌, ap}
use Rattle.instance_cli.proofs.Runs.{now_of}
use Rattle.instance_cli.proofs.Walked.{walk_ended, walk_stopped}
use Rattle.instance_cli.proofs.verify.walk.Goals as goal

pub returns-in-Ok-check_lines-clause-ok : goal.returns-in-Ok-check_lines-clause-ok
returns-in-Ok-check_lines-clause-ok g c =
    walk_ended _ _ _ _ (now_of c.as_slice.result.now) c.args.script.now c.finish.result c.new-verifier.ensures
    (ap now_of c.as_slice.ensures.value ∙ c.in-Ok.ensures.value) c.in-Ok-check_lines.ensures.ok c.finish.ensures

pub returns-clause-ok : goal.returns-clause-ok
returns-clause-ok g c =
    walk_stopped _ _ _ _ _ (now_of c.as_slice.result.now) c.args.script.now c.in-Err.halt c.halted_by.result
    c.halted_by.ensures c.new-verifier.ensures
    (ap now_of c.as_slice.ensures.value ∙ c.in-Ok.ensures.value) c.in-Err.ensures.err
