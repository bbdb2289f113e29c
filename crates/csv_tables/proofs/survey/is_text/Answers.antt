use Rattle.std.proofs.Common.{sym, ◌∙◌}
use Rattle.std.proofs.lemmas.Str.{is_utf8-from_IsUtf8}
use Rattle.csv_tables.proofs.Names.{no_text}
use Rattle.csv_tables.proofs.Texts.{number_is_text}
use Rattle.csv_tables.proofs.survey.is_text.Goals as goal

pub returns-then-is_number : goal.returns-then-is_number
returns-then-is_number c = sym (number_is_text c.args.text.now (sym c.requires ∙ c.if-is_number.true))

pub returns-in-Ok : goal.returns-in-Ok
returns-in-Ok c = sym (is_utf8-from_IsUtf8 c.args.text.now c.in-Ok.ensures.cases.1)

pub returns-in-Err : goal.returns-in-Err
returns-in-Err c = sym (no_text c.args.text.now c.in-Err.ensures.cases.0)
