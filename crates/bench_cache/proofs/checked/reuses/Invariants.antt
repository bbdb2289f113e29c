use Rattle.certificate_check.specs.Ledgers.{IsTrueLedger}
use Rattle.bench_cache.proofs.checked.reuses.Given as goal

-- the ledger stays true of the worked statement
abbrev pub invariant-loop-round : goal.invariant-loop-round
invariant-loop-round l = IsTrueLedger l.w.query l.w.stats 1 l.ledger
