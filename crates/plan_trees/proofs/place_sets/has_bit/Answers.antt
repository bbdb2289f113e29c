use Rattle.std.proofs.Common.{◌∙◌, ◌≡◌, nat_lt, false, sym, arith}
use Rattle.std.proofs.lemmas.Grind.{common_steps}
use Rattle.plan_trees.proofs.Bits.{no_bit_past}
use Rattle.plan_trees.proofs.place_sets.has_bit.Goals as goal

pub returns-else-bit-lt64 : goal.returns-else-bit-lt64
returns-else-bit-lt64 c =
    let past : nat_lt c.args.bit 64 ≡ false = grind (arith, common_steps) in
    past ∙ sym (no_bit_past 64 c.args.number c.args.bit c.ranges.number.fits c.if-bit-lt64.false)
