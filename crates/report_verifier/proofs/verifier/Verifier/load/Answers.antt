use Rattle.report_verifier.proofs.KeptWalks.{kept_loaded}
use Rattle.report_verifier.proofs.verifier.Verifier.load.Goals as goal

pub invariant_of-self : goal.invariant_of-self
invariant_of-self c =
    let v = c.self.inside in
    let loads = c.in-Ok.ensures.value in
    kept_loaded v.store c.load.new.self v.statements v.ledger c.forget_for.new.ledger v.executions v.too_large
    v.items.items v.position v.lambda c.args.table.now loads.0 loads.4 c.forget_for.ensures c.self.invariant
