use Rattle.std.proofs.Common.{◌∙◌}
use Rattle.index_ranges.proofs.Misfits.{none_by_high, none_by_low}
use Rattle.index_ranges.proofs.ends.within.Goals as goal

pub returns-then-not-fits-clause-rows : goal.returns-then-not-fits-clause-rows
returns-then-not-fits-clause-rows c =
    none_by_low c.args.t.now c.fits.ensures.sound c.args.index.now.column c.from-column.result
    (c.from-column.ensures ∙ c.column.ensures) c.args.low c.args.high c.args.index.now.rows c.fits.result
    c.fits.ensures.value.1 c.if-not-fits.true

pub returns-then-not-fits-2-clause-rows : goal.returns-then-not-fits-2-clause-rows
returns-then-not-fits-2-clause-rows c =
    none_by_high c.args.t.now c.fits.ensures.sound c.args.index.now.column c.from-column.result
    (c.from-column.ensures ∙ c.column.ensures) c.args.low c.args.high c.args.index.now.rows c.fits-2.result
    c.fits-2.ensures.value.1 c.if-not-fits-2.true
