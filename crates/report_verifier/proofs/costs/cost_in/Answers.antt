use Rattle.std.proofs.Common.{◌≡◌, ◌<◌, ◌^◌, ◌∙◌, ap, decimal, arith, sym}
use Rattle.std.proofs.lemmas.Bool.{false≢true}
use Rattle.std.proofs.lemmas.Fmt.{parse-decimal_wide}
use Rattle.std.proofs.lemmas.Slice.Eq.{bytes_eq-Decides}
use Rattle.report_verifier.proofs.costs.cost_in.Goals as goal

pub returns-in_default-parse-clause-none : goal.returns-in_default-parse-clause-none
returns-in_default-parse-clause-none c = λ cost h.
    let few : cost < 10 ^ 64 = let small : cost < 2 ^ 128 = h.small in omega arith in
    c.in_default-parse.not-Ok cost
    (parse-decimal_wide 128 cost c.args.text.now c.parse.result h.small few h.spelled c.parse.ensures.value.0)

pub returns-clause-none : goal.returns-clause-none
returns-clause-none c = λ cost h.
    let few : cost < 10 ^ 64 = let small : cost < 2 ^ 128 = h.small in omega arith in
    let read = parse-decimal_wide 128 cost c.args.text.now c.parse.result h.small few h.spelled
    c.parse.ensures.value.0 in
    let same : cost ≡ c.in-Ok.cost = let is = c.in-Ok.is in cc in
    let written : c.as_str.result.now ≡ c.args.text.now =
    c.as_str.ensures.value ∙ c.in_ok-written.ensures.ok ∙ ap decimal (sym same) ∙ sym h.spelled in
    false≢true (c.if-eq.ensures ∙ (bytes_eq-Decides c.as_str.result.now c.args.text.now).1 written)
