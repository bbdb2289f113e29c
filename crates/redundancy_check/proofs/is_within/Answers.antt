use Rattle.std.proofs.Common.{◌≡◌, ◌*◌, arith}
use Rattle.anchor_cache.proofs.Comparing.{is_scaled}
use Rattle.redundancy_check.proofs.is_within.Goals as goal

pub returns : goal.returns
returns c =
    let den : c.from.result ≡ c.args.keep.den = cc in
    let num : c.from-2.result ≡ c.args.keep.num = cc in
    let left : c.args.cost * (c.from.result * 1) ≡ c.args.cost * c.args.keep.den = grind arith in
    let right : c.from-2.result * (c.args.least * 1) ≡ c.args.keep.num * c.args.least = grind arith in
    is_scaled c.le_scaled.result _ _ _ _ c.le_scaled.ensures.value left right
