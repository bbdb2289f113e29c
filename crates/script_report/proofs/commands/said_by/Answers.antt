use Rattle.std.proofs.Common.{◌∙◌, sym}
use Rattle.script_report.proofs.SaidLines.{says}
use Rattle.script_report.proofs.commands.said_by.Goals as goal

pub returns-in-Ok-None-clause-syntax : goal.returns-in-Ok-None-clause-syntax
returns-in-Ok-None-clause-syntax c _ =
    let e = rw c.in-Ok-None.field-0-is at c.in-Ok-None.ensures in
    says c.args.text.now c.as_bytes-bytes.result.now c.first_part.result.now c.after_part.result.now _
    c.as_bytes-bytes.ensures.value (sym c.is_empty.ensures ∙ c.if-is_empty.false) c.if-bytes-eq35.false
    c.first_part.ensures c.after_part.ensures e

pub returns-in-Ok-Some-clause-ok : goal.returns-in-Ok-Some-clause-ok
returns-in-Ok-Some-clause-ok c =
    let e = rw c.in-Ok-Some.field-0-is at c.in-Ok-Some.ensures in
    says c.args.text.now c.as_bytes-bytes.result.now c.first_part.result.now c.after_part.result.now _
    c.as_bytes-bytes.ensures.value (sym c.is_empty.ensures ∙ c.if-is_empty.false) c.if-bytes-eq35.false
    c.first_part.ensures c.after_part.ensures e
