use Rattle.std.proofs.Common.{ap, Err}
use Rattle.instance_cli.proofs.Served.{silent_reported, reply_reported, unread, unwritten}
use Rattle.instance_cli.proofs.serving.serve_line.Goals as goal

pub returns-in-Err-clause-err : goal.returns-in-Err-clause-err
returns-in-Err-clause-err g c =
    unread _ _ _ c.args.number c.args.text.now _ _ c.in-Err.ensures.err c.in-Err.ensures.misses

pub returns-in-Ok-None-clause-ok : goal.returns-in-Ok-None-clause-ok
returns-in-Ok-None-clause-ok g c =
    let answers = rw c.in-Ok-None.field-0-is at c.in-Ok-None.ensures.ok in
    silent_reported _ _ _ _ c.args.number c.args.text.now answers

pub returns-in-Err-write_reply-clause-err : goal.returns-in-Err-write_reply-clause-err
returns-in-Err-write_reply-clause-err g c =
    let answers = rw c.in-Ok-Some.field-0-is at c.in-Ok-Some.ensures.ok in
    unwritten _ _ _ _ _ c.args.number c.args.text.now c.in-Ok-Some.reply _ c.in-Err-write_reply.ensures.err answers
    (λ e. c.in-Err-write_reply.ensures.write (ap Err e)) (λ e. c.in-Err-write_reply.ensures.memory (ap Err e))

pub returns-clause-ok : goal.returns-clause-ok
returns-clause-ok g c =
    let answers = rw c.in-Ok-Some.field-0-is at c.in-Ok-Some.ensures.ok in
    reply_reported _ _ _ _ _ c.args.number c.args.text.now c.in-Ok-Some.reply _ answers c.in-Ok.ensures.ok
    c.is_refused.ensures c.in-Ok.ensures.text
