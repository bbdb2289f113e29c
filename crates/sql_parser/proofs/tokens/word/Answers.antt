use Rattle.std.proofs.Common.{◌≡◌, Some, None, find, take, arith, sym, ◌∙◌}
use Rattle.std.specs.List.{prefix_len}
use Rattle.sql_parser.specs.Tokens as spelled
use Rattle.sql_parser.specs.declared.tokens.TheConstants.{RESERVED}
use Rattle.sql_parser.proofs.Scanning.{word_cut, name_word, symbol_word}
use Rattle.sql_parser.proofs.tokens.word.Goals as goal

pub range-word-requires-clause-end_boundary : goal.range-word-requires-clause-end_boundary
range-word-requires-clause-end_boundary c = rw (c.word_len-len.ensures) (word_cut c.args.text.now c.utf8.text)

pub returns-in-Some : goal.returns-in-Some
returns-in-Some c =
    let w : c.range-word.result.now ≡ take (prefix_len spelled.is_name_byte c.args.text.now) c.args.text.now =
    grind arith in
    let m : find (λ m. spelled.is_spelled c.range-word.result.now m) RESERVED ≡ Some c.in-Some.symbol =
    sym c.symbol_of.ensures ∙ c.in-Some.is in
    rw (c.word_len-len.ensures) (
      symbol_word c.args.text.now c.range-word.result.now c.in-Some.symbol c.requires w m,
      word_cut c.args.text.now c.utf8.text,
    )

pub returns-in_ok-of-in-None : goal.returns-in_ok-of-in-None
returns-in_ok-of-in-None c =
    let w : c.range-word.result.now ≡ take (prefix_len spelled.is_name_byte c.args.text.now) c.args.text.now =
    grind arith in
    let m : find (λ m. spelled.is_spelled c.range-word.result.now m) RESERVED ≡ None = sym c.symbol_of.ensures
    ∙ c.in-None.is in
    rw (c.in_ok-of-in-None.ensures, c.word_len-len.ensures)
    (name_word c.args.text.now c.range-word.result.now c.requires w m, word_cut c.args.text.now c.utf8.text)
