use Rattle.report_verifier.proofs.KeptWalks.{kept_indexed}
use Rattle.report_verifier.proofs.verifier.Verifier.index.Goals as goal

pub invariant_of-self : goal.invariant_of-self
invariant_of-self c =
    let v = c.self.inside in
    let indexes = c.in-Ok.ensures.value in
    kept_indexed v.store c.add_index.new.self v.statements v.ledger c.forget_for.new.ledger v.executions v.too_large
    v.items.items v.position v.lambda c.args.table.now indexes.0 indexes.2 c.forget_for.ensures c.self.invariant
