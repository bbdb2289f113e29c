use Rattle.std.proofs.Common.{arith, ◌≤◌, ◌^◌}
use Rattle.std.proofs.Math.Nat.{pow-le-pow_right}
use Rattle.plan_trees.proofs.place_sets.all_places.Goals as goal

pub returns-clause-small : goal.returns-clause-small
returns-clause-small c =
    let power : 2 ^ c.args.count ≤ 2 ^ 5 = pow-le-pow_right (omega arith) c.requires in
    omega arith
