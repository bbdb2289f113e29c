use Rattle.std.proofs.Common.{ℕ, List, ◌∙◌, ◌∷◌, Some, None, ap, sym, arith, rules}
use denote.Ref.{Bor}
use Rattle.std.specs.Str.Lines.{lines}
use Rattle.std.proofs.lemmas.Str.Pattern.{split_once_first, strip_suffix_char}
use Rattle.report_items.proofs.FirstLines.{first_line, one_line, stripped}
use Rattle.report_items.proofs.lines.next_line.Goals as goal

pub returns-in-None-clause-lines : goal.returns-in-None-clause-lines
returns-in-None-clause-lines c =
    one_line c.args.text.now (search rules) (split_once_first 10 c.args.text.now None c.in-None.ensures.cases (omega
    arith))

pub returns-in-Some-clause-lines : goal.returns-in-Some-clause-lines
returns-in-Some-clause-lines c =
    let cut = split_once_first 10 c.args.text.now (Some (c.in-Some.line, c.in-Some.behind)) c.in-Some.ensures.cases
    (omega arith) in
    let end = strip_suffix_char 13 c.in-Some.line.now c.strip_suffix.result c.strip_suffix.ensures.cases (omega
    arith) in
    first_line c.args.text.now c.in-Some.line.now c.in-Some.behind.now cut.0 cut.1 cut.2
    ∙ ap (λ z. z ∷ lines c.in-Some.behind.now) (stripped c.in-Some.line c.strip_suffix.result end
    ∙ ap (λ (z : Bor (List ℕ)). z.now) (sym c.unwrap_or.ensures))
