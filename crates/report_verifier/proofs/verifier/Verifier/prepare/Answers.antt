use Rattle.std.proofs.Common.{◌<◌, arith, length}
use Rattle.report_verifier.proofs.KeptWalks.{few, kept_prepared}
use Rattle.report_verifier.proofs.verifier.Verifier.prepare.Goals as goal

pub overflow_add-self : goal.overflow_add-self
overflow_add-self c =
    let keeps = c.in-Ok.ensures.value in
    let less : length c.self.inside.store.catalog.statements < 256 =
    few c.self.inside.store.catalog c.args.name.now c.args.select.now keeps.0 keeps.1 in
    let counted = c.self.invariant.counted in
    omega (arith, less, counted)

pub invariant_of-self : goal.invariant_of-self
invariant_of-self c =
    let v = c.self.inside in
    let keeps = c.in-Ok.ensures.value in
    kept_prepared v.store c.prepare.new.self v.statements v.ledger v.executions v.too_large v.items.items v.position
    v.lambda c.args.name.now keeps.0 keeps.3 c.self.invariant
