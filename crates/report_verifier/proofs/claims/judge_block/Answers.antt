use Rattle.std.proofs.Common.{ap, Err, Option, IfOk, inl, inr, refl, subst}
use Rattle.plan_trees.specs.Trees.{top_tree}
use Rattle.plan_trees.specs.declared.plans.Top.{Top}
use Rattle.report_verifier.specs.Claims.{IsBlockJudged, IsJudged}
use Rattle.report_verifier.specs.Judging.{told}
use Rattle.report_verifier.specs.declared.rejections.Why.{Why}
use Rattle.certificate_check.specs.Verdicts.{claim_of}
use Rattle.report_verifier.proofs.Outcomes.{then_ok}
use Rattle.report_verifier.proofs.claims.judge_block.Goals as goal

pub returns-in-Err-NotACert-clause-judged : goal.returns-in-Err-NotACert-clause-judged
returns-in-Err-NotACert-clause-judged c =
    let paid = rw c.in-Some.is at c.in_ok-cost.ensures.found in
    inr (
      top_tree c.in-Ok.plan.value,
      c.in-Ok.ensures.found,
      inr (
        c.in-Some.cost,
        paid,
        inl (
          λ claimed h. c.in-Err-NotACert.ensures.not_a_cert (ap (λ f. Err f) c.in-Err-NotACert.field-0-is) claimed
              h.certificate h.spelled,
          refl,
        ),
      ),
    )

pub returns-clause-judged : goal.returns-clause-judged
returns-clause-judged c =
    let paid = rw c.in-Some.is at c.in_ok-cost.ensures.found in
    let spelled = c.in-Ok-from_text.ensures.ok in
    let Judged = λ (top : Top) (why : Option Why).
    IsJudged c.args.ledger.now c.args.instance.now.statement c.args.execution
    (claim_of c.args.q.now c.args.instance.now.stats c.args.instance.now.at c.args.lambda (top_tree top) c.in-Some.cost
    c.in-Ok-from_text.cert) (told why c.judge.new.ledger) in
    let judged = subst (λ (top : Top). IfOk c.judge.result (Judged top)) c.deref.ensures c.judge.ensures.judged in
    then_ok (Judged c.in-Ok.plan.value)
    (λ why. IsBlockJudged c.args.ledger.now c.args.instance.now.statement c.args.execution c.args.q.now
    (claim_of c.args.q.now c.args.instance.now.stats c.args.instance.now.at c.args.lambda) c.args.plan.now
    c.args.cost.now
    c.args.cert.now (told why c.judge.new.ledger))
    (λ why h. inr (
      top_tree c.in-Ok.plan.value,
      c.in-Ok.ensures.found,
      inr (
        c.in-Some.cost,
        paid,
        inr (
          c.in-Ok-from_text.cert,
          record { certificate = spelled.0; spelled = spelled.1 },
          h,
        ),
      ),
    ))
    c.judge.result judged
