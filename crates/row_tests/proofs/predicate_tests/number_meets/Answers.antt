use Rattle.std.proofs.Common.{rules, w64, pos, get_or, refl, ◌∙◌, ap, arith}
use Rattle.std.proofs.lemmas.Int.{to_z-of_z}
use mir.Val.{SFits}
use Rattle.row_tests.specs.NumberTests.{number_holds}
use Rattle.row_tests.proofs.PackedTests.{number_found}
use Rattle.row_tests.proofs.predicate_tests.number_meets.Goals as goal

pub returns : goal.returns
returns c =
    let fits : SFits w64 (get_or c.args.numbers.now c.args.row (pos 0)) = search rules in
    c.holds.ensures ∙ (ap (number_holds c.args.range.test) (to_z-of_z w64 (get_or c.args.numbers.now c.args.row (pos 0)) fits)
    ∙ number_found c.args.range.test c.args.numbers.now c.args.row (get_or c.args.numbers.now c.args.row (pos 0)) (pos 0)
    (omega arith) refl)
