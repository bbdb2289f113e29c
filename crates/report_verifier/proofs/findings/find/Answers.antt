use Rattle.std.proofs.Common.{◌∙◌, Ok, Err, Some, ap, option_map, refl, rules, sym}
use denote.Ref.{Bor}
use Rattle.report_items.specs.declared.items.ReportItem.{ReportItem}
use Rattle.report_verifier.proofs.FoundBlocks.{found_block}
use Rattle.report_verifier.proofs.findings.find.Goals as goal

pub returns-in-None-why-clause-found : goal.returns-in-None-why-clause-found
returns-in-None-why-clause-found c =
    let b = c.in-Some-Block in
    found_block _ c.args.line c.args.name.now c.args.execution b.told b.named b.number b.plan b.cost b.cert
    (Ok c.judge_block.new.ledger) _ _
    (ap (option_map (λ (i : Bor ReportItem). i.now)) b.is ∙ ap (λ (i : ReportItem). Some i) (search rules))
    (sym c.is_for.ensures ∙ c.if-not-is_for.false)
    (rw (c.in-None-why.is, c.as_str.ensures, c.as_str-in-Some-Block.ensures, c.as_str-in-Some-Block-2.ensures) at
    c.in_ok-why-in-Some-Block.ensures.judged)
    refl

pub returns-in-Some-clause-found : goal.returns-in-Some-clause-found
returns-in-Some-clause-found c =
    let b = c.in-Some-Block in
    found_block _ c.args.line c.args.name.now c.args.execution b.told b.named b.number b.plan b.cost b.cert
    (Err c.in-Some.why) _ _
    (ap (option_map (λ (i : Bor ReportItem). i.now)) b.is ∙ ap (λ (i : ReportItem). Some i) (search rules))
    (sym c.is_for.ensures ∙ c.if-not-is_for.false)
    (rw (c.in-Some.is, c.as_str.ensures, c.as_str-in-Some-Block.ensures, c.as_str-in-Some-Block-2.ensures) at
    c.in_ok-why-in-Some-Block.ensures.judged)
    refl
