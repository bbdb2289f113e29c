use Rattle.std.proofs.Common.{rules, w64, pos, get_or, arith}
use mir.Val.{SFits}
use Rattle.std.proofs.lemmas.Int.{to_z-of_z}
use Rattle.row_tests.specs.NumberTests.{number_holds}
use Rattle.selectivity_counts.proofs.Matching.{at_most_one, byte_is, one_more_number}
use Rattle.selectivity_counts.proofs.counts.count_numbers.Goals as goal

pub loop-number-preserved : goal.loop-number-preserved
loop-number-preserved c =
    let fits : SFits w64 (get_or c.args.numbers.now c.loop-number.number-index (pos 0)) = search rules in
    let met = c.holds.ensures in
    rw (c.from-count.ensures, byte_is c.holds.result) record {
      value =
          one_more_number (number_holds c.args.range.test) c.args.numbers.now c.loop-number.number-index
          c.loop-number.count (pos 0) c.holds.result c.loop-number-test.true c.loop-number.invariant.value
          (simp to_z-of_z at met);
      few = omega (arith, at_most_one c.holds.result);
    }
