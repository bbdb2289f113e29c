use Rattle.std.proofs.Common.{None, sym, ◌∙◌, lit<}
use Rattle.std.proofs.lemmas.Str.Pattern.{strip_prefix_char}
use Rattle.sql_parser.proofs.Scanning.{other_first}
use Rattle.sql_parser.proofs.tokens.first_token.Goals as goal

pub sign-requires : goal.sign-requires
sign-requires c = other_first c.args.text.now
    (strip_prefix_char 34 c.args.text.now None c.in_default.ensures.cases (lit< tt))
    (strip_prefix_char 39 c.args.text.now None c.in_default-strip_prefix.ensures.cases (lit< tt))
    (sym c.begins_number.ensures ∙ c.if-begins_number.false) (sym c.begins_word.ensures ∙ c.if-begins_word.false)
