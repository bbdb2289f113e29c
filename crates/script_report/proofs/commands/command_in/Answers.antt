use Rattle.script_report.proofs.CommandWords.{no_command}
use Rattle.script_report.proofs.commands.command_in.Goals as goal

pub returns-in_default : goal.returns-in_default
returns-in_default c = no_command c.args.word.now c.args.parts.now c.in_default.not-load c.in_default.not-index
    c.in_default.not-prepare c.in_default.not-run
    c.in_default.not-cursor c.in_default.not-fetch c.in_default.not-close c.in_default.not-evict c.in_default.not-show
