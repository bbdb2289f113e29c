use Rattle.std.proofs.Common.{◌≡◌, ℕ, List, rules, arith, sym, subst}
use Rattle.std.proofs.lemmas.Grind.{common_steps}
use Rattle.sql_parser.specs.Canonical.{canonical_text}
use Rattle.sql_parser.specs.Grammar.{IsStatementText}
use Rattle.sql_parser.proofs.CanonicalIsRead.{canonical_read}
use Rattle.sql_parser.proofs.printing.print.Goals as goal

pub returns-clause-read_again : goal.returns-clause-read_again
returns-clause-read_again c =
    let e : c.from_string.result ≡ canonical_text c.args.s.now = first_of (search rules, grind (arith, common_steps)) in
    let P : List ℕ → Type 0 = λ z. IsStatementText z c.args.s.now in
    subst P (sym e) (canonical_read c.args.s.now c.items.ensures.sound)
