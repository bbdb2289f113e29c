use Rattle.std.proofs.Common.{sym}
use Rattle.std.proofs.lemmas.Str.{is_utf8-from_IsUtf8}
use Rattle.csv_tables.proofs.Names.{no_text}
use Rattle.csv_tables.proofs.cells.value.Goals as goal

pub returns-in_ok-of-in-Ok-clause-cell : goal.returns-in_ok-of-in-Ok-clause-cell
returns-in_ok-of-in-Ok-clause-cell c =
    rw c.in-Text.is (sym (is_utf8-from_IsUtf8 c.args.text.now c.in-Ok.ensures.cases.1))

pub returns-in-Err-clause-cell : goal.returns-in-Err-clause-cell
returns-in-Err-clause-cell c = rw c.in-Text.is (sym (no_text c.args.text.now c.in-Err.ensures.cases.0))
