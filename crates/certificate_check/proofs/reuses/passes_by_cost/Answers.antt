use Rattle.std.proofs.Common.{arith}
use Rattle.cache_model.proofs.GreaterProducts.{shrunk_fits}
use Rattle.certificate_check.proofs.reuses.passes_by_cost.Goals as goal

pub grown-down-requires-clause-fits : goal.grown-down-requires-clause-fits
grown-down-requires-clause-fits c =
    let fits = shrunk_fits c.args.s.now c.args.entry.now.at c.requires.numbers in
    let near = c.requires.near in
    rw c.as_slice.ensures (omega arith)
