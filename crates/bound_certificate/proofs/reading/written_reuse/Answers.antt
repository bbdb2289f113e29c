use Rattle.std.proofs.Common.{◌∙◌, ◌++◌, ap, arith, codes, sym}
use Rattle.bound_certificate.proofs.Reuses.{of_cost, of_selectivity}
use Rattle.bound_certificate.proofs.reading.written_reuse.Goals as goal

pub returns-in-Some : goal.returns-in-Some
returns-in-Some c = (
  tt,
  of_selectivity c.args.text.now c.in_ok-rest.rest.now c.in-Some.digits.now c.in_ok-anchor.anchor
      (c.in_ok-rest.ensures.cases.1.1 ∙ ap (λ x. codes "{\"anchor\":" ++ x) (sym c.in_ok-rest.ensures.cases.2))
      (c.in-Some.ensures.cases.1.1
      ∙ ap (λ x. x ++ codes ",\"kind\":\"selectivity\"}") (sym c.in-Some.ensures.cases.2))
      c.in_ok-anchor.ensures.some (omega arith),
)

pub returns : goal.returns
returns c = (
  tt,
  of_cost c.args.text.now c.in_ok-rest.rest.now c.in_ok-digits.digits.now c.in_ok-anchor-2.anchor
      (c.in_ok-rest.ensures.cases.1.1 ∙ ap (λ x. codes "{\"anchor\":" ++ x) (sym c.in_ok-rest.ensures.cases.2))
      (c.in_ok-digits.ensures.cases.1.1
      ∙ ap (λ x. x ++ codes ",\"kind\":\"cost\"}") (sym c.in_ok-digits.ensures.cases.2))
      c.in_ok-anchor-2.ensures.some (omega arith),
)
