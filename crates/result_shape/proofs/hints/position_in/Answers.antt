use Rattle.std.proofs.Common.{sym, w64, ◌∙◌}
use Rattle.std.proofs.lemmas.Int.{to_z-of_z}
use Rattle.result_shape.proofs.hints.position_in.Goals as goal

pub returns-in-Some-clause-value : goal.returns-in-Some-clause-value
returns-in-Some-clause-value c =
    let value = rw (to_z-of_z w64 c.args.number c.ranges.number) at c.get.ensures.value in
    sym c.in-Some.is ∙ (c.copied.ensures ∙ value)

pub returns-in-None-clause-value : goal.returns-in-None-clause-value
returns-in-None-clause-value c =
    let value = rw (to_z-of_z w64 c.args.number c.ranges.number) at c.get.ensures.value in
    sym c.in-None.is ∙ (c.copied.ensures ∙ value)
