use Rattle.sql_parser.specs.Tokens as spelled
use Rattle.sql_parser.proofs.Runs.{cut_behind}
use Rattle.sql_parser.proofs.TokenShapes.{white_ascii}
use Rattle.sql_parser.proofs.tokens.after_white.Goals as goal

pub range_from-requires : goal.range_from-requires
range_from-requires c = λ _. rw (c.white_len.ensures)
    (cut_behind spelled.is_white c.args.text.now white_ascii c.utf8.text)
