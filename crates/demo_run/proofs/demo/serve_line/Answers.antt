use Rattle.demo_run.proofs.Serving.{counted_on, counted_silent}
use Rattle.demo_run.proofs.demo.serve_line.Goals as goal

pub returns-in-Some-clause-ok : goal.returns-in-Some-clause-ok
returns-in-Some-clause-ok g c = λ first before counted.
    counted_on first _ _ before c.args.line.now _ _ c.in-Some.reply _ c.in-Some.is c.in_ok-reply.ensures.ok
    c.count.ensures.value counted

pub returns-in-None-clause-ok : goal.returns-in-None-clause-ok
returns-in-None-clause-ok g c = λ first before counted.
    counted_silent first _ _ before c.args.line.now _ _ c.in-None.is c.in_ok-reply.ensures.ok counted
