use Rattle.std.proofs.Common.{◌∙◌, List, Bool, ap, arith, sym, if◌then◌else◌}
use Rattle.std.specs.Option.{option_map}
use Rattle.catalog_model.specs.Catalogs.{StatementState}
use Rattle.certificate_check.specs.Ledgers.{without}
use Rattle.certificate_check.specs.declared.entries.Entry.{Entry}
use Rattle.report_verifier.proofs.ForgottenEntries.{IsAt, at, one_more}
use Rattle.report_verifier.proofs.forgetting.forget_for.Goals as goal
use Rattle.report_verifier.proofs.forgetting.forget_for.Goals.{then-reads, else-reads}

-- what is left of the ledger, by whether the statement reads the table
abbrev left : goal.Joined-reads → Bool → List Entry
left c read = if read then without c.loop-number.ledger c.loop-number.number else c.loop-number.ledger

pub loop-number-preserved : goal.loop-number-preserved
loop-number-preserved c =
    let statements = c.args.store.now.catalog.statements in
    let less = c.loop-number-test.true in
    let counted = c.requires in
    let here : IsAt statements c.loop-number.number = at statements c.loop-number.number (omega arith) in
    let test = c.reads.ensures here.prepared.statement
    (ap (option_map (λ (p : StatementState). p.statement)) here.there) in
    elim c.if-reads.branch [
      | then-reads w ↦ one_more c.args.table.now statements c.loop-number.number c.loop-number.ledger
          c.if-reads.ledger _
          c.reads.result here test
          (w.ledger-is ∙ w.forget.ensures.value ∙ sym (ap (left c) w.if-reads.true)) c.loop-number.invariant
      | else-reads w ↦ one_more c.args.table.now statements c.loop-number.number c.loop-number.ledger
          c.if-reads.ledger _
          c.reads.result here test
          (w.ledger-is ∙ sym (ap (left c) w.if-reads.false)) c.loop-number.invariant
    ]
