use Rattle.std.proofs.Common.{◌∙◌}
use Rattle.script_report.specs.Commands.{Says}
use Rattle.instance_cli.proofs.Served.{with_file, with_none, same_bytes}
use Rattle.instance_cli.proofs.serving.command_reply.Goals as goal
use Rattle.instance_cli.proofs.serving.command_reply.Goals.{in-File, in-Nothing}

pub returns-clause-ok : goal.returns-clause-ok
returns-clause-ok g c = elim c.match-fetch_for.branch [
  | in-File w ↦
      rw (w.reply-is, w.engine-is)
      (with_file _ _ _ _ w.as_slice.result.now _
      (w.step-reply.ensures.step (λ e. c.in_default.not-Spent (w.reply-is ∙ e)))
      (same_bytes (g.F.Shelf.files c.args.shelf.now)
      (Says c.args.command.now) w.as_slice.result.now _ w.as_slice.ensures.value
      (c.fetch_for.ensures.file w.in-File.is)) c.fetch_for.ensures.misses)
  | in-Nothing w ↦
      rw (w.reply-is, w.engine-is)
      (with_none _ _ _ _ _ (w.step-reply-in-Nothing.ensures.step (λ e. c.in_default.not-Spent (w.reply-is ∙ e)))
      (c.fetch_for.ensures.nothing w.in-Nothing.is)
      (c.fetch_for.ensures.missed w.in-Nothing.is) c.fetch_for.ensures.misses)
]
