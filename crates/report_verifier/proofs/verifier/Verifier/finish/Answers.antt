use Rattle.std.proofs.Common.{◌<◌, ◌∙◌, ap, arith, length, sym}
use Rattle.report_verifier.specs.Kept.{walk_of}
use Rattle.report_verifier.specs.Verification.{at_end}
use Rattle.report_verifier.specs.Walk.{Walk}
use Rattle.report_verifier.proofs.KeptWalks.{some_left}
use Rattle.report_verifier.proofs.verifier.Verifier.finish.Goals as goal

pub returns-then-self-len : goal.returns-then-self-len
returns-then-self-len c =
    let v = c.self.inside in
    let test = c.if-self-len.true in
    let less : v.position < length v.items.items = omega (arith, test, c.len.ensures, v.items.ok.0) in
    sym (some_left (walk_of v.store v.ledger v.executions v.too_large v.items.items v.position v.lambda) v.items.items
    v.position less)
    ∙ ap (λ (w : Walk). at_end w) c.self.view_is
