use Rattle.sql_parser.proofs.FirstTokens.{text_open}
use Rattle.sql_parser.proofs.Scanning.{text_found}
use Rattle.sql_parser.proofs.tokens.quoted_text.Goals as goal

pub returns-in-Some : goal.returns-in-Some
returns-in-Some c = text_found c.args.text.now c.args.inside.now c.in-Some.words c.in-Some.len c.requires
    (rw c.in-Some.is at c.in_ok-found.ensures)

pub returns-in-None : goal.returns-in-None
returns-in-None c = text_open c.args.text.now c.args.inside.now c.requires (rw c.in-None.is at c.in_ok-found.ensures)
