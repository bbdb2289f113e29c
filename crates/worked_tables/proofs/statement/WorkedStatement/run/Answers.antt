use Rattle.std.proofs.Common.{sym}
use Rattle.worked_tables.proofs.Seen.{seen}
use Rattle.worked_tables.proofs.statement.WorkedStatement.run.Goals as goal

pub run_plan-requires-clause-valid : goal.run_plan-requires-clause-valid
run_plan-requires-clause-valid c =
    rw (c.deref-2.ensures.value, c.deref-4.ensures, sym c.self.invariant.masks, sym c.indexed.ensures)
    c.in_ok-plan.ensures

pub returns : goal.returns
returns c =
    seen c.self.inside.query c.deref.result.now c.self.inside.tables.items c.deref-3.result.now c.self.inside.args.items
    c.in_ok-combos.combos c.args.self.now c.in_ok-combos.ensures.each_once c.deref.ensures.value c.deref-3.ensures.value
    c.self.view_is
