-- A line that is neither empty nor a comment says what its first part and the rest say.
use Rattle.std.proofs.Common.{ℕ, ◌≡◌, ◌≢◌, ◌==◌, List, Option, length, slice_index, false, ap}
use Rattle.std.proofs.lemmas.Bool.{ne_eqb}
use Rattle.script_report.specs.Parts.{first_part, after_part}
use Rattle.script_report.specs.Commands.{said, line_in, command_in}
use Rattle.script_report.specs.declared.commands.Command.{Command}

pub says : (text bytes word rest : List ℕ) (command : Option Command) → bytes ≡ text → (length bytes == 0) ≡ false
    → slice_index bytes 0 ≢ 35 → word ≡ first_part text → rest ≡ after_part text →
    command_in word rest ≡ command → line_in text ≡ said command
says text bytes word rest command e some other w a h =
    rw (rw e at some, ne_eqb _ _ (rw e at other)) (ap said (rw (w, a) at h))
