use Rattle.std.proofs.Common.{◌≡◌, ◌∙◌, false, true, ap, sym, subst}
use Rattle.row_values.specs.Operands.{AreOperands}
use Rattle.name_binder.specs.Binding.{operands_from}
use Rattle.name_binder.proofs.Fitting.{are_operands}
use Rattle.name_binder.proofs.parts.one_of.Goals as goal

-- the operands stay as many as they were
pub unreachable-requires : goal.unreachable-requires
unreachable-requires c =
    let same = c.in_ok-bound.ensures ∙ ap (operands_from c.args.next) c.as_slice.ensures.value in
    let are = are_operands c.args.next c.args.operands.now c.as_slice.ensures.some c.requires.few in
    let none : false ≡ true = c.in-None.ensures.found.1 (subst AreOperands (sym same) are) in
    cc
