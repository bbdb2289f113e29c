use Rattle.std.proofs.Common.{rules, w64, ◌∙◌}
use mir.Val.{SFits}
use Rattle.std.proofs.lemmas.Int.{to_z-of_z}
use Rattle.row_tests.proofs.number_tests.NumberRange.holds.Goals as goal

pub returns : goal.returns
returns c =
    let fits : SFits w64 c.args.number = search rules in
    let low : SFits w64 c.args.self.low = search rules in
    let high : SFits w64 c.args.self.high = search rules in
    let is = c.is_between.ensures in
    (simp to_z-of_z at is) ∙ c.args.self.between c.args.number fits
