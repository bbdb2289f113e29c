use Rattle.std.proofs.Common.{◌≡◌, true, ◌==◌, sym, ap, ◌∙◌, length, eq-eqb}
use Rattle.std.proofs.lemmas.Bool.{eqb-true}
use Rattle.sql_parser.proofs.FirstTokens.{name_open}
use Rattle.sql_parser.proofs.Scanning.{name_found, name_lost}
use Rattle.sql_parser.proofs.tokens.quoted_name.Goals as goal

pub returns-in_default : goal.returns-in_default
returns-in_default c = name_open c.args.text.now c.args.inside.now c.requires
    (rw c.in_default.is at c.in_ok-name.ensures)

pub returns-then-is_empty : goal.returns-then-is_empty
returns-then-is_empty c =
    let z : length c.as_str.result.now ≡ 0 =
    eqb-true (length c.as_str.result.now) 0 (sym c.is_empty.ensures ∙ c.if-is_empty.true) in
    name_lost c.args.text.now c.args.inside.now c.in-Some.name c.in-Some.len c.requires
    (rw c.in-Some.is at c.in_ok-name.ensures) (ap length (sym c.as_str.ensures) ∙ z)

pub returns : goal.returns
returns c =
    name_found c.args.text.now c.args.inside.now c.in-Some.name c.in-Some.len c.requires
    (rw c.in-Some.is at c.in_ok-name.ensures)
    (λ z. let t : (length c.as_str.result.now == 0) ≡ true =
    eq-eqb (length c.as_str.result.now) 0 (ap length c.as_str.ensures ∙ z) in
    let f = c.if-is_empty.false in
    let g = c.is_empty.ensures in
    cc)
