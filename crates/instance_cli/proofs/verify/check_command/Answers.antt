use Rattle.std.proofs.Common.{◌∙◌, sym}
use Rattle.script_report.specs.Commands.{Says}
use Rattle.instance_cli.proofs.Served.{same_bytes}
use Rattle.instance_cli.proofs.Walked.{file_made, file_stopped, none_made, none_stopped}
use Rattle.instance_cli.proofs.verify.check_command.Goals as goal
use Rattle.instance_cli.proofs.verify.check_command.Goals.{in-File, in-Nothing}

pub returns-in-Ok-clause-ok : goal.returns-in-Ok-clause-ok
returns-in-Ok-clause-ok g c = elim c.match-fetch_for.branch [
  | in-File w ↦
      rw w.verifier-is
      (file_made _ _ _ _ _ _ _ w.check-checked.result w.as_slice.result.now w.check-checked.ensures.step
      (sym w.checked-is ∙ c.in-Ok.is)
      (same_bytes (g.F.Shelf.files c.args.shelf.now)
      (Says c.args.command.now) w.as_slice.result.now _ w.as_slice.ensures.value
      (c.fetch_for.ensures.file w.in-File.is)))
  | in-Nothing w ↦
      rw w.verifier-is
      (none_made _ _ _ _ _ _ _ w.check-checked-in-Nothing.result w.check-checked-in-Nothing.ensures.step
      (sym w.checked-is ∙ c.in-Ok.is) (c.fetch_for.ensures.nothing w.in-Nothing.is)
      (c.fetch_for.ensures.missed w.in-Nothing.is))
]

pub returns-clause-err : goal.returns-clause-err
returns-clause-err g c = elim c.match-fetch_for.branch [
  | in-File w ↦
      rw c.halted.ensures
      (file_stopped _ _ _ _ _ _ _ w.check-checked.result _ _ c.in-Err.stop w.as_slice.result.now
      w.check-checked.ensures.step (sym w.checked-is ∙ c.in-Err.is)
      (same_bytes (g.F.Shelf.files c.args.shelf.now)
      (Says c.args.command.now) w.as_slice.result.now _ w.as_slice.ensures.value
      (c.fetch_for.ensures.file w.in-File.is)))
  | in-Nothing w ↦
      rw c.halted.ensures
      (none_stopped _ _ _ _ _ _ _ w.check-checked-in-Nothing.result _ _ c.in-Err.stop
      w.check-checked-in-Nothing.ensures.step (sym w.checked-is ∙ c.in-Err.is)
      (c.fetch_for.ensures.nothing w.in-Nothing.is) (c.fetch_for.ensures.missed w.in-Nothing.is))
]
