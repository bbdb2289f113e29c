use Rattle.std.proofs.Common.{◌<◌, arith}
use Rattle.result_shape.proofs.Tallying.{all_taken}
use Rattle.result_shape.proofs.tallies.add_member.Goals as goal

pub returns : goal.returns
returns c =
    λ tables first members.
    all_taken tables first members c.args.c.now c.args.items.now c.args.tallies.now c.loop-i.tallies
    c.loop-i.auto.tallies
    (λ k d e l. let past : k < c.loop-i.i = omega (arith, l, c.loop-i-test.false) in
    c.loop-i.invariant.taken k d e past)
