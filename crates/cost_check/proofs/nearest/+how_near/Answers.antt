use Rattle.std.proofs.Common.{◌^◌, rules}
use Rattle.cost_check.proofs.Costing.{rest_fits, rest_some}
use Rattle.cost_check.proofs.nearest.+how_near.Goals as goal

pub how_near-rest-requires : goal.how_near-rest-requires
how_near-rest-requires t c = (
  search rules,
  (
    rest_some c.args.at.now c.in-len1-up-at.len_at_least c.requires.numbers,
    rest_fits c.args.q.now c.args.at.now (2 ^ 64) c.in-len1-up.len_at_least c.in-len1-up-at.len_at_least
        c.requires.numbers c.requires.fits,
  ),
)
