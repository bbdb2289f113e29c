use Rattle.std.proofs.Common.{◌≡◌, ◌≤◌, ap, arith, length, sym, ◌∙◌}
use Rattle.std.proofs.lemmas.List.{length-take-le}
use Rattle.plan_trees.specs.PlaceSets.{has}
use Rattle.statement_meaning.proofs.Merging.{merged_all}
use Rattle.plan_operators.proofs.combos.Combo.merge.Goals as goal

pub returns : goal.returns
returns c =
    let small : c.first.inside.count ≤ length c.first.inside.rows =
    omega (arith, c.first.invariant.few, c.first.invariant.whole) in
    let long : length c.args.first ≡ c.first.inside.count =
    ap length (sym c.first.view_is) ∙ length-take-le c.first.inside.count c.first.inside.rows small in
    merged_all (has c.args.set) c.args.first c.args.second c.loop-place.made c.loop-place.place c.requires
    (c.loop-place.invariant.long ∙ sym c.requires) (omega (arith, long, c.loop-place-test.false))
    c.loop-place.invariant.so_far
