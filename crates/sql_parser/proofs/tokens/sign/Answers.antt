use Rattle.std.proofs.Common.{◌≡◌, Some, None, nat_eq, find, sym, ◌∙◌}
use Rattle.std.specs.List.{starts_with}
use Rattle.sql_parser.specs.Tokens as spelled
use Rattle.sql_parser.specs.declared.tokens.TheConstants.{SIGNS}
use Rattle.sql_parser.proofs.Scanning.{sign_found, sign_lost}
use Rattle.sql_parser.proofs.tokens.sign.Goals as goal

pub returns-in-Some : goal.returns-in-Some
returns-in-Some c =
    let m : find (λ n. starts_with nat_eq c.args.text.now (spelled.symbol_text n)) SIGNS ≡ Some c.in-Some.symbol =
    rw (c.as_bytes.ensures.value) at (sym c.symbol_at.ensures ∙ c.in-Some.is) in
    sign_found c.args.text.now c.text.result.now c.in-Some.symbol c.requires m c.text.ensures c.utf8.text

pub returns-in-None : goal.returns-in-None
returns-in-None c =
    let m : find (λ n. starts_with nat_eq c.args.text.now (spelled.symbol_text n)) SIGNS ≡ None =
    rw (c.as_bytes.ensures.value) at (sym c.symbol_at.ensures ∙ c.in-None.is) in
    sign_lost c.args.text.now c.requires m
