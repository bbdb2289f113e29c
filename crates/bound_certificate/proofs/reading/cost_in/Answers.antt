use Rattle.std.proofs.Common.{◌≡◌, ◌<◌, ◌^◌, ◌∙◌, Ok, Some, ap, arith, decimal}
use Rattle.std.proofs.lemmas.Fmt.{parse-decimal_wide}
use Rattle.std.specs.Result.{result_ok}
use Rattle.serde_json.specs.Find.{as_str}
use Rattle.bound_certificate.proofs.reading.cost_in.Goals as goal

pub returns-clause-found : goal.returns-clause-found
returns-clause-found c = λ cost small shape.
    let read : Some c.in_ok-as_str.field-0.now ≡ Some (decimal cost) = c.in_ok-as_str.ensures ∙ ap as_str shape in
    let same : c.in_ok-as_str.field-0.now ≡ decimal cost = cc in
    let few : cost < 10 ^ 64 = omega arith in
    let number : c.parse.result ≡ Ok cost =
    parse-decimal_wide 128 cost c.in_ok-as_str.field-0.now c.parse.result small few same c.parse.ensures.value.0 in
    c.ok.ensures.value ∙ ap result_ok number
