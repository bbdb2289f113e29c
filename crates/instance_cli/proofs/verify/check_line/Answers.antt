use Rattle.std.proofs.Common.{◌∙◌, Err, ap}
use Rattle.instance_cli.proofs.Walked.{bad_walked}
use Rattle.instance_cli.proofs.verify.check_line.Goals as goal

pub returns-in-Err-Syntax-clause-ok : goal.returns-in-Err-Syntax-clause-ok
returns-in-Err-Syntax-clause-ok g c =
    bad_walked _ _ _ _ c.args.number c.args.text.now
    (c.read_line.ensures.syntax (c.in-Err-Syntax.is ∙ ap Err c.in-Err-Syntax.field-0-is))
