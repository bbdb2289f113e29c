use Rattle.std.proofs.Common.{arith}
use Rattle.cache_model.proofs.GreaterProducts.{shrunk_fits}
use Rattle.cost_check.proofs.check.is_enough.Goals as goal

pub grown-down-requires-clause-fits : goal.grown-down-requires-clause-fits
grown-down-requires-clause-fits c =
    let fits = shrunk_fits c.args.q.now c.args.anchor.now.at c.requires.numbers in
    let near = c.requires.near in
    rw c.as_slice.ensures (omega arith)
