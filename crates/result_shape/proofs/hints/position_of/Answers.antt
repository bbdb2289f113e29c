use Rattle.std.proofs.Common.{ap, rules, sym, w64, ◌∙◌}
use Rattle.std.specs.Option.{option_cmp}
use Rattle.std.specs.Ordering.{int_cmp}
use Rattle.std.specs.BTreeMap.{get}
use Rattle.std.proofs.lemmas.Int.{to_z-of_z}
use mir.Val.{SFits}
use Rattle.result_shape.proofs.hints.position_of.Goals as goal

pub returns-in-Some-position-clause-value : goal.returns-in-Some-position-clause-value
returns-in-Some-position-clause-value c =
    let fits : SFits w64 c.in-Some.number = search rules in
    let hinted = rw (to_z-of_z w64 c.in-Some.number fits)
    at (c.in-Some-position.ensures c.args.positions.now c.requires) in
    sym hinted ∙ ap (get (option_cmp int_cmp) c.args.positions.now) (sym c.in-Some.is)

pub returns-in-None-clause-value : goal.returns-in-None-clause-value
returns-in-None-clause-value c =
    let fits : SFits w64 c.in-Some.number = search rules in
    let value = rw (to_z-of_z w64 c.in-Some.number fits) at c.position_in.ensures.value in
    value ∙ ap (get (option_cmp int_cmp) c.args.positions.now) (sym c.in-Some.is)
