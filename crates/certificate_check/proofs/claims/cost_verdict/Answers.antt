use Rattle.std.proofs.Common.{sym}
use Rattle.certificate_check.specs.Ledgers.{IsComparable, entry_of}
use Rattle.certificate_check.specs.Verdicts.{PassesByCost}
use Rattle.certificate_check.proofs.Comparing.{cost_failed, cost_passed, found_entry, reuse_failed, reuse_passed}
use Rattle.certificate_check.proofs.claims.cost_verdict.Goals as goal

pub passes_by_cost-requires : goal.passes_by_cost-requires
passes_by_cost-requires c =
    let near = found_entry (IsComparable c.args.s.now) c.args.entries.now c.args.statement c.args.execution
    c.in-Some.anchor.now c.requires.entries (sym c.in-Some.ensures) in
    record { numbers = c.requires.numbers; least = near.least; cost = c.requires.cost; near = near.near }

pub returns-then-passes_by_cost : goal.returns-then-passes_by_cost
returns-then-passes_by_cost c =
    reuse_passed (PassesByCost c.args.s.now c.args.lambda c.args.cost) c.args.execution
    (entry_of c.args.entries.now c.args.statement c.args.execution) c.in-Some.anchor.now c.in-Some.ensures
    (cost_passed c.args.lambda c.args.s.now c.in-Some.anchor.now c.args.cost c.passes_by_cost.result
    c.passes_by_cost.ensures (cc))

pub returns-else-passes_by_cost : goal.returns-else-passes_by_cost
returns-else-passes_by_cost c =
    reuse_failed (PassesByCost c.args.s.now c.args.lambda c.args.cost) c.args.execution
    (entry_of c.args.entries.now c.args.statement c.args.execution) c.in-Some.anchor.now c.in-Some.ensures
    (cost_failed c.args.lambda c.args.s.now c.in-Some.anchor.now c.args.cost c.passes_by_cost.result
    c.passes_by_cost.ensures (cc))
