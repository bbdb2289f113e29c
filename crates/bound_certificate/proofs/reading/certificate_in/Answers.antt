use Rattle.std.proofs.Common.{sym, ◌∙◌, true≢false}
use Rattle.serde_json.specs.View.{view}
use Rattle.bound_certificate.proofs.Members.{by_selectivity}
use Rattle.bound_certificate.proofs.reading.certificate_in.Goals as goal

pub returns-then-is_of_kind-2-clause-found : goal.returns-then-is_of_kind-2-clause-found
returns-then-is_of_kind-2-clause-found c = λ cert costs e.
    by_selectivity (view c.args.value.now) cert c.selectivity_in.result
    (λ kind. true≢false (sym (c.is_of_kind.ensures.1 kind) ∙ c.if-is_of_kind.false))
    (c.is_of_kind-2.ensures.0 c.if-is_of_kind-2.true) c.selectivity_in.ensures.found e
