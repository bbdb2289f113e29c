use Rattle.std.proofs.Common.{◌≡◌, drop}
use Rattle.report_verifier.specs.Walk.{forgotten_for, forgotten_from}
use Rattle.report_verifier.proofs.forgetting.forget_for.Given as goal

-- what is left to forget
abbrev pub invariant-loop-number : goal.invariant-loop-number
invariant-loop-number l =
    forgotten_from l.number l.table (drop l.number l.store.catalog.statements) l.ledger
    ≡ forgotten_for l.table l.store.catalog.statements l.fn.ledger
